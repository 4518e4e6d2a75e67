-- Runs one behind the other, and nodes that read one port at a time.
use Rattle.std.proofs.Common.{◌≡◌, ◌∙◌, ◌==◌, ℕ, Bool, true, false, List, [], ◌∷◌, ◌++◌, Option, Some, None, flat_map, refl, sym, ap}
use Rattle.std.specs.Prelude.{IsSome, if◌then◌else◌}
use Rattle.std.specs.Option.{option_map_or}
use Rattle.std.proofs.lemmas.Bool.{eqb-true}
use Rattle.std.proofs.lemmas.List.{map-append}
use Rattle.std.proofs.lemmas.List.Concat.{flat_map-append}
use Rattle.std.proofs.lemmas.Option.{none-some}
use Rattle.ga_place.specs.Side.{one_side}
use Rattle.ga_place.specs.declared.side.Side.{Side}
use Rattle.ga_node.specs.Need.{need_of}
use Rattle.ga_node.specs.declared.need.Need.{Need}
use Rattle.ga_node.specs.declared.need.Need.TheVariants as need
use Rattle.ga_chip.specs.declared.outcome.Outcome.{Outcome}
use Rattle.ga_chip.specs.declared.outcome.Outcome.TheVariants.{Moved, Waits, Held, Stopped}
use Rattle.ga_chip.specs.declared.outcome.Try as asked
use Rattle.ga_chip.specs.Part.{Part, after, asks, picked_by, picked_of}
use Rattle.ga_chip.specs.Chip.{Chip, found_by, opening, part_of, stream_opened, with_part}
use Rattle.ga_chip.specs.Joining.{IsOneSided, OnePortNamesNoSide, OpenedIsOpen, RunsAreLegal, RunsJoin, TriesFeedNothing, TriesJoin}
use Rattle.ga_chip.specs.Legal.{IsLegal}
use Rattle.ga_chip.specs.Run.{ClearBreak, Event, Move, PassBreak, Piece, SetBreak, Try, happened, if_moved, is_open, move_at, move_in, moves, moves_of, piece_of, pieces, ran, sides_of, words_fed}
use Rattle.ga_chip.proofs.Feeding.{opened_is}
use Rattle.ga_chip.proofs.Kept.{legal_kept, legal_ran}
use Rattle.ga_chip.proofs.Lists.{get-set_here}
use Rattle.ga_chip.proofs.Numbers.{part_there}
use Rattle.ga_chip.proofs.Placed.{changed_there}
use Rattle.ga_chip.proofs.Runs.{moves-append, moves_of-append, part_first, ran-append, stand_ran}
use Rattle.ga_chip.proofs.Streams.{no_piece, open_there, opened_event}
use Rattle.ga_place.specs.Cell.{index_of}

pub runs_are_legal : RunsAreLegal
runs_are_legal chip events legal = legal_ran chip events legal

-- no run opens a stream
opened_ran : (chip : Chip) (events : List Event) (name : ℕ) (part now : Part) → IsLegal chip
    → part_of chip name ≡ Some part → part_of (ran chip events) name ≡ Some now
    → now.opened ≡ part.opened
opened_ran chip [] name part now legal there later =
    ap (λ o. option_map_or (λ (p : Part). p.opened) o false) (sym later ∙ there)
opened_ran chip (event ∷ events) name part now legal there later =
    let next =
    part_first (happened chip event) events name now (legal_kept chip event legal) later in
    opened_ran (happened chip event) events name next.0 now
    (legal_kept chip event legal) next.1 later
    ∙ opened_event chip event name part next.0 legal there next.1

open_kept : (chip : Chip) (events : List Event) (name : ℕ) → IsLegal chip
    → is_open (ran chip events) name ≡ is_open chip name
open_kept chip events name legal = by (part_of chip name) refl (part_of (ran chip events) name) refl
  where
    by : (old : Option Part) → part_of chip name ≡ old → (new : Option Part)
        → part_of (ran chip events) name ≡ new → is_open (ran chip events) name ≡ is_open chip name
    by (Some part) there (Some now) later =
        open_there (ran chip events) name now later
        ∙ opened_ran chip events name part now legal there later
        ∙ sym (open_there chip name part there)
    by (Some part) there None later =
        let stands = stand_ran chip events name part legal there in
        absurd (none-some stands.now (sym later ∙ stands.there))
    by None there (Some now) later =
        let first = part_first chip events name now legal later in
        absurd (none-some first.0 (sym there ∙ first.1))
    by None there None later =
        ap (λ o. option_map_or (λ (p : Part). p.opened) o false) (later ∙ sym there)

pub runs_join : RunsJoin
runs_join chip events more legal = record {
  leads = ran-append chip events more;
  moves = moves-append chip events more;
  fed = λ name. flat_map-append (piece_of (is_open chip name) name) events more
      ∙ ap (λ opened. words_fed chip events name ++ pieces opened name more)
      (sym (open_kept chip events name legal));
}

pub tries_join : TriesJoin
tries_join tries more = map-append (λ (one : asked.Try). Try one.node one.side) tries more

pub tries_feed_nothing : TriesFeedNothing
tries_feed_nothing chip tries name = no_piece (is_open chip name) name tries

pub opened_is_open : OpenedIsOpen
opened_is_open chip name legal named =
    let old = part_there chip name legal named in
    let leads : stream_opened chip name ≡ with_part chip name (opening old.0) =
    opened_is chip name ∙ changed_there opening chip name old.0 old.1 in
    ap (λ c. is_open c name) leads
    ∙ open_there (with_part chip name (opening old.0)) name (opening old.0)
    (get-set_here chip.parts (index_of name) (opening old.0) old.0 old.1)

-- ---- nodes that read one port at a time

abbrev picked : ℕ → List Move → List Side
picked name all = flat_map (λ move. move.picked) (moves_of name all)

by_only : (only : Option Side) (side : Side) → IsSome only → picked_of only side ≡ []
by_only (Some one) side is = refl
by_only None side is = cc

none_picked : (n : Need) (side : Side) → IsOneSided n → picked_by n side ≡ []
none_picked (need.Take sides) side is = by_only (one_side sides) side is
none_picked need.Own side is = refl
none_picked (need.Post to word) side is = refl
none_picked (need.Check to) side is = refl
none_picked need.Input side is = refl
none_picked (need.Stopped stop) side is = refl

one_move : (name : ℕ) (move : Move) → ((move.node == name) ≡ true → move.picked ≡ [])
    → picked name (move ∷ []) ≡ []
one_move name move is = by (move.node == name) refl
  where
    by : (same : Bool) → (move.node == name) ≡ same
        → flat_map (λ m. m.picked) (if same then move ∷ [] else []) ≡ []
    by true e = ap (λ l. l ++ []) (is e)
    by false e = refl

if_move : (name : ℕ) (outcome : Outcome) (move : Move)
    → ((move.node == name) ≡ true → move.picked ≡ []) → picked name (if_moved outcome move) ≡ []
if_move name Moved move is = one_move name move is
if_move name Waits move is = refl
if_move name Held move is = refl
if_move name Stopped move is = refl

one_event : (chip : Chip) (event : Event) (name : ℕ)
    → ((part : Part) → part_of chip name ≡ Some part → IsOneSided (need_of part.state))
    → picked name (move_in chip event) ≡ []
unfolding move_in
one_event chip (Try node side) name is = by (part_of chip node) refl
  where
    by : (o : Option Part) → part_of chip node ≡ o → picked name (move_at o chip node side) ≡ []
    by None there = refl
    by (Some part) there =
        if_move name (after part side (found_by (asks part side) chip.cells)).0 _
        (λ same. none_picked (need_of part.state) side
        (is part (ap (part_of chip) (sym (eqb-true node name same)) ∙ there)))
one_event chip (SetBreak node at) name is = refl
one_event chip (ClearBreak node at) name is = refl
one_event chip (PassBreak node) name is = refl
one_event chip (Piece node words) name is = refl

pub one_port_names_no_side : OnePortNamesNoSide
one_port_names_no_side chip [] name reads = refl
one_port_names_no_side chip (event ∷ events) name reads =
    let first =
    one_event chip event name (λ part there. reads [] part (event ∷ events, refl) there) in
    let rest : sides_of (happened chip event) events name ≡ [] =
    one_port_names_no_side (happened chip event) events name
    (λ before part front there. reads (event ∷ before) part
    (front.0, ap (λ l. event ∷ l) front.1) there) in
    ap (flat_map (λ move. move.picked))
    (moves_of-append name (move_in chip event) (moves (happened chip event) events))
    ∙ flat_map-append (λ move. move.picked) (moves_of name (move_in chip event))
    (moves_of name (moves (happened chip event) events))
    ∙ ap (λ l. l ++ sides_of (happened chip event) events name) first ∙ rest
