-- The chip whose root is to load itself from a stream.
use Rattle.std.proofs.Common.{◌≡◌, ◌∙◌, ◌<◌, ℕ, Bool, true, false, List, [], Option, Some, refl, sym, ap, arith}
use Rattle.std.proofs.lemmas.Grind.{common_steps}
use Rattle.std.proofs.lemmas.Option.{same_Some}
use Rattle.ga_place.specs.Cell.{index_of}
use Rattle.ga_place.specs.Node.{IsNodeName}
use Rattle.ga_place.proofs.Cells.{one_place}
use Rattle.ga_node.specs.State.{booting_state}
use Rattle.ga_chip.specs.Chip.{Chip, opening, part_of, reset_chip, reset_part, stream_opened, streamed, streaming, with_part}
use Rattle.ga_chip.specs.Part.{Part}
use Rattle.ga_chip.proofs.Feeding.{opened_is}
use Rattle.ga_chip.proofs.Lists.{get-set_here, get-set_else}
use Rattle.ga_chip.proofs.Numbers.{part_there}
use Rattle.ga_chip.proofs.Placed.{changed_there, legal_placed, streamed_is}
use Rattle.ga_chip.proofs.Reset.{empty, is_reset, reset_legal}
use Rattle.ga_boot.specs.inner.TreePlan.{IsGiven}

-- a root's part with a stream
abbrev pub root_part : ℕ → Option (List ℕ) → (opened : Bool) → Part
root_part root stream opened =
    record (reset_part root) { state = booting_state root; stream = stream; opened = opened }

abbrev pub root_chip : ℕ → Option (List ℕ) → (opened : Bool) → Chip
root_chip root stream opened = with_part reset_chip root (root_part root stream opened)

module _ (root : ℕ) (stream : Option (List ℕ)) (opened : Bool) (named : IsNodeName root) where
  abbrev chip : Chip
  chip = root_chip root stream opened

  old : (p : Part) × (part_of reset_chip root ≡ Some p)
  old = part_there reset_chip root reset_legal named

  pub was : part_of reset_chip root ≡ Some (reset_part root)
  was = old.1 ∙ ap Some (is_reset root old.0 old.1)

  pub root_there : part_of chip root ≡ Some (root_part root stream opened)
  root_there =
      get-set_here reset_chip.parts (index_of root) (root_part root stream opened)
      (reset_part root) was

  -- another node's part is as after reset
  else_there : (name : ℕ) (part : Part) → (name ≡ root → ⊥) → part_of chip name ≡ Some part
      → part ≡ reset_part name
  else_there name part apart there =
      let low : index_of root < 144 = grind (arith, common_steps) in
      is_reset name part (sym (get-set_else reset_chip.parts (index_of root) (index_of name)
      (root_part root stream opened) (λ e. apart (sym (one_place root name low e)))) ∙ there)

  pub is_given : IsGiven root chip
  is_given = record {
    legal = legal_placed reset_chip root (reset_part root)
        (root_part root stream opened) reset_legal was refl refl refl refl;
    empty = empty;
    booting = λ part there.
        ap (λ p. p.state) (same_Some part (root_part root stream opened) (sym there ∙ root_there));
    others = λ name part there apart. ap (λ p. p.state) (else_there name part apart there);
  }

  -- the calls that give it
  pub from_streamed : (words : List ℕ)
      → streamed reset_chip root words ≡ root_chip root (Some words) false
  from_streamed words =
      streamed_is reset_chip root words
      ∙ changed_there (streaming words) reset_chip root (reset_part root) was

  pub from_opened : stream_opened reset_chip root ≡ root_chip root (Some []) true
  from_opened =
      opened_is reset_chip root ∙ changed_there opening reset_chip root (reset_part root) was
