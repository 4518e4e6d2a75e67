-- If all nodes of a chip spin, they do so along every run of tries. So no node makes a multiport
-- read.
use Rattle.std.proofs.Common.{◌≡◌, ◌∙◌, ap, ℕ, zero, suc, Bool, true, false, List, [], ◌∷◌}
use Rattle.std.proofs.Common.{◌++◌, ◌⊎◌, inl, inr, Option, Some, None, refl, sym, subst}
use Rattle.std.proofs.lemmas.Option.{none-some, same_Some, slice_get-map}
use Rattle.std.specs.Prelude.{option_map, set, slice_get}
use Rattle.std.specs.List.{range_with_len}
use Rattle.ga_place.specs.Cell.{index_of, name_at}
use Rattle.ga_place.specs.declared.side.Side.{Side}
use Rattle.ga_node.specs.Need.{need_of}
use Rattle.ga_node.specs.declared.need.Need.{Need}
use Rattle.ga_chip.specs.declared.outcome.Outcome.{Outcome}
use Rattle.ga_chip.specs.declared.outcome.Outcome.TheVariants.{Held, Stopped}
use Rattle.ga_chip.specs.declared.outcome.Try as asked
use Rattle.ga_chip.specs.Part.{Asks, Nothing, Own, Part, after, after_asked, asks, asks_by, asks_if}
use Rattle.ga_chip.specs.Part.{held_by, is_held}
use Rattle.ga_chip.specs.Chip.{Chip, found_by, part_of, tried, tried_at}
use Rattle.ga_chip.specs.Joining.{IsOneSided, OnePortNamesNoSide, ReadsOnePort}
use Rattle.ga_chip.specs.Laws.{AgreesWith}
use Rattle.ga_chip.specs.Run.{Event, Try, happened, ran, sides_of, tries_of}
use Rattle.ga_law_examples.specs.Spinning.{spinning_chip, spinning_part}
use Rattle.ga_law_examples.proofs.Spins.{IsOwn, Spins, need_own, step_spins}

-- ---- a try of a node that spins

abbrev AsksOwn : Asks → Type 0
AsksOwn q = (q ≡ Own) ⊎ ((outcome : Outcome) × (q ≡ Nothing outcome))

asks_own : (part : Part) (side : Side) → IsOwn (need_of part.state) → AsksOwn (asks part side)
unfolding asks
asks_own part side own = by (is_held part) own
  where
    by : (held : Bool) → IsOwn (need_of part.state) → AsksOwn (asks_if held part side)
    by true (inl is) = inr (Held, ap held_by is)
    by true (inr is) = inr (Stopped, ap held_by is)
    by false (inl is) = inl (ap (λ n. asks_by n part.state.node part.stream side) is)
    by false (inr is) = inr (Stopped, ap (λ n. asks_by n part.state.node part.stream side) is)

after_spins : (part : Part) (side : Side) (found : Option ℕ) → Spins part.state
    → Spins (after part side found).1.state
unfolding after
after_spins part side found spins = by (asks_own part side (need_own part.state spins))
  where
    by : AsksOwn (asks part side) → Spins (after part side found).1.state
    by (inl is) =
        subst (λ q. Spins (after_asked q found part).1.state) (sym is) (step_spins part.state spins)
    by (inr (outcome, is)) = subst (λ q. Spins (after_asked q found part).1.state) (sym is) spins

-- ---- the chip

abbrev pub AllSpin : Chip → Type 0
AllSpin chip = (name : ℕ) (part : Part) → part_of chip name ≡ Some part → Spins part.state

-- what a write leaves at an index: the new part, or the old one
put_from : (parts : List Part) (i j : ℕ) (next part : Part)
    → slice_get (set parts i next) j ≡ Some part → (part ≡ next) ⊎ (slice_get parts j ≡ Some part)
put_from [] i j next part there = inr there
put_from (first ∷ parts) zero zero next part there = inl (sym (same_Some next part there))
put_from (first ∷ parts) zero (suc j) next part there = inr there
put_from (first ∷ parts) (suc i) zero next part there = inr there
put_from (first ∷ parts) (suc i) (suc j) next part there = put_from parts i j next part there

try_spins : (chip : Chip) (node : ℕ) (side : Side) → AllSpin chip
    → AllSpin (happened chip (Try node side))
unfolding happened tried
try_spins chip node side all = by (part_of chip node) refl
  where
    new : (part now : Part) (name : ℕ) → part_of chip node ≡ Some part
        → (now ≡ (after part side (found_by (asks part side) chip.cells)).1)
        ⊎ (part_of chip name ≡ Some now) → Spins now.state
    new part now name there (inl is) =
        subst (λ p. Spins p.state) (sym is) (after_spins part side _ (all node part there))
    new part now name there (inr old) = all name now old

    by : (o : Option Part) → part_of chip node ≡ o → AllSpin (tried_at o chip node side).1
    by None there = all
    by (Some part) there = λ name now later.
        new part now name there (put_from chip.parts (index_of node) (index_of name) _ now later)

-- at each moment of a run of tries
moment_spins : (chip : Chip) (tries : List asked.Try) (before rest : List Event) → AllSpin chip
    → tries_of tries ≡ before ++ rest → AllSpin (ran chip before)
moment_spins chip tries [] rest all cut = all
moment_spins chip [] (event ∷ before) rest all cut = absurd cc
moment_spins chip (one ∷ tries) (event ∷ before) rest all cut =
    let first : Try one.node one.side ≡ event = cc in
    let more : tries_of tries ≡ before ++ rest = cc in
    moment_spins (happened chip event) tries before rest
    (subst (λ e. AllSpin (happened chip e)) first (try_spins chip one.node one.side all)) more

one_sided : (n : Need) → IsOwn n → IsOneSided n
one_sided n (inl is) = subst IsOneSided (sym is) tt
one_sided n (inr is) = subst IsOneSided (sym is) tt

reads_one_port : (chip : Chip) (tries : List asked.Try) (name : ℕ) → AllSpin chip
    → ReadsOnePort chip (tries_of tries) name
reads_one_port chip tries name all before part front there =
    let spins = moment_spins chip tries before front.0 all front.1 name part there in
    one_sided _ (need_own part.state spins)

-- ---- the chip at hand

mapped : (f : ℕ → Part) (o : Option ℕ) (part : Part) → option_map f o ≡ Some part
    → (x : ℕ) × (part ≡ f x)
mapped f None part there = absurd (none-some part there)
mapped f (Some x) part there = (x, sym (same_Some (f x) part there))

pub all_spin_first : AllSpin spinning_chip
unfolding spinning_chip
all_spin_first name part there =
    let part_at = λ (index : ℕ). spinning_part (name_at index) in
    let names : List ℕ = range_with_len 0 144 in
    let found = mapped part_at (slice_get names (index_of name)) part
    (sym (slice_get-map part_at names (index_of name)) ∙ there) in
    subst (λ p. Spins p.state) (sym found.1)
    (record { unposted = refl; jump = refl; stands = inl (refl, refl) })

-- so no run of tries names a side
pub spinning_names_none : OnePortNamesNoSide → (tries : List asked.Try) (name : ℕ)
    → sides_of spinning_chip (tries_of tries) name ≡ []
spinning_names_none law tries name =
    law spinning_chip (tries_of tries) name
    (reads_one_port spinning_chip tries name all_spin_first)

-- and any two runs agree
pub spinning_agree : OnePortNamesNoSide → (one two : Chip) (tries others : List asked.Try)
    (name : ℕ) → one ≡ spinning_chip → two ≡ spinning_chip
    → AgreesWith (sides_of one (tries_of tries) name) (sides_of two (tries_of others) name)
spinning_agree law one two tries others name first second =
    inl (
      sides_of two (tries_of others) name,
      ap (λ l. l ++ sides_of two (tries_of others) name)
          (sym (ap (λ chip. sides_of chip (tries_of tries) name) first
          ∙ spinning_names_none law tries name)),
    )
