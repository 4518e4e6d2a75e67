-- How many multiport reads took a word, step by step.
use Rattle.std.proofs.Common.{◌≡◌, ℕ, ◌+◌, ◌*◌, ◌-◌, ◌^◌, ◌≤◌, ◌<◌, Bool, true, false, List, [], ◌∷◌, ◌++◌, length, length-append, refl, sym, ap, ◌∙◌, arith}
use Rattle.std.specs.Prelude.{cond, min}
use Rattle.std.specs.List.{filter}
use Rattle.std.proofs.lemmas.List.{length-map}
use Rattle.std.proofs.lemmas.List.Elements.{filter-append}
use Rattle.ga_chip.specs.Chip.{Chip}
use Rattle.ga_chip.specs.Run.{Move, moves, turns_of}
use Rattle.ga_observe.specs.declared.step.Step.{Step}
use Rattle.ga_observe.specs.Laws.{events_in}
use Rattle.ga_observe.specs.Seen.{steps_seen, turns_numbered}
use Rattle.ga_observe.proofs.Moving.{steps_are_moves}
use Rattle.ga_observe.proofs.Watched.{plain_turns}
use Rattle.ga_race.specs.Reads.{is_multiport, multiport_takes}

abbrev is_take : Step → Bool
is_take step = is_multiport step.deed

one_more : (b : Bool) (step : Step) → length (cond b (step ∷ []) []) ≡ cond b 1 0
one_more true step = refl
one_more false step = refl

takes-more : (steps : List Step) (step : Step) → multiport_takes (steps ++ step ∷ [])
    ≡ multiport_takes steps + cond (is_multiport step.deed) 1 0
takes-more steps step =
    ap (λ (l : List Step). length l) (filter-append is_take steps (step ∷ []))
    ∙ length-append (filter is_take steps) (filter is_take (step ∷ []))
    ∙ ap (λ n. multiport_takes steps + n) (one_more (is_multiport step.deed) step)

saturates : (first n k most : ℕ) → min (min (first + n) most + k) most ≡ min (first + (n + k)) most
saturates first n k most = omega arith

-- a count that stays at the largest number, with one step more
pub reads_more : (first old new : ℕ) (steps : List Step) (step : Step)
    → new ≡ min (old + cond (is_multiport step.deed) 1 0) (2 ^ 64 - 1)
    → old ≡ min (first + multiport_takes steps) (2 ^ 64 - 1)
    → new ≡ min (first + multiport_takes (steps ++ step ∷ [])) (2 ^ 64 - 1)
reads_more first old new steps step e so_far =
    e ∙ ap (λ n. min (n + cond (is_multiport step.deed) 1 0) (2 ^ 64 - 1)) so_far
    ∙ saturates first (multiport_takes steps) (cond (is_multiport step.deed) 1 0) (2 ^ 64 - 1)
    ∙ ap (λ n. min (first + n) (2 ^ 64 - 1)) (sym (takes-more steps step))

-- they are steps
at_most : (steps : List Step) → multiport_takes steps ≤ length steps
at_most [] = omega arith
at_most (step ∷ steps) = by (is_multiport step.deed) (at_most steps)
  where
    by : (b : Bool) → multiport_takes steps ≤ length steps
        → length (cond b (step ∷ filter is_take steps) (filter is_take steps))
        ≤ length (step ∷ steps)
    by true rest = omega arith
    by false rest = omega arith

-- so a count over turns, which have few steps, is theirs
pub reads_are : (chip : Chip) (turns steps first reads : ℕ)
    → steps ≡ length (moves chip (turns_of turns)) → steps ≤ 255 * turns → turns < 2 ^ 32
    → first ≡ 0
    → reads ≡ min (first + multiport_takes (steps_seen chip (turns_numbered turns))) (2 ^ 64 - 1)
    → reads ≡ multiport_takes (steps_seen chip (turns_numbered turns))
reads_are chip turns steps first reads is few small none read =
    let events = turns_numbered turns in
    let long : length (steps_seen chip events) ≡ length (moves chip (turns_of turns)) =
    sym (length-map (steps_seen chip events) (λ (step : Step). step.node))
    ∙ ap (λ (l : List ℕ). length l) (steps_are_moves chip events)
    ∙ length-map (moves chip (events_in events)) (λ (move : Move). move.node)
    ∙ ap (λ es. length (moves chip es)) (plain_turns turns) in
    let most = at_most (steps_seen chip events) in
    omega arith
