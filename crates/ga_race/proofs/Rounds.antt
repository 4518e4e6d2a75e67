-- If a chip goes round, no number of turns has a race.
use Rattle.std.proofs.Common.{◌≡◌, ℕ, zero, suc, ◌+◌, ◌*◌, ◌^◌, ◌-◌, ◌≤◌, ◌<◌, List, ◌∷◌, ◌++◌, ◌⊎◌, inl, inr, sym, ap, ◌∙◌, subst, append_assoc, add-zero, arith}
use Rattle.std.proofs.lemmas.Bool.{cases_lt}
use Rattle.std.proofs.lemmas.Option.{same_Some}
use Rattle.ga_chip.specs.Chip.{Chip}
use Rattle.ga_chip.specs.Run.{Event, ran, turns_of}
use Rattle.ga_chip.specs.Legal.{IsLegal}
use Rattle.ga_chip.proofs.Kept.{legal_ran}
use Rattle.ga_chip.proofs.Runs.{part_first, ran-append, stand_ran}
use Rattle.ga_race.specs.Clocks.{steps_in}
use Rattle.ga_race.specs.Races.{HasNoRace}
use Rattle.ga_race.specs.Rounds.{CountsLast, GoesRound, IsAlike, NoRaceRound}
use Rattle.ga_race.proofs.Embedded.{no_race}
use Rattle.ga_race.proofs.Alike.{IsCounting, counting_before}
use Rattle.ga_race.proofs.TurnLists.{same_turns, some_turns, tries_of_turns, turns_split, turns_steps}
use Rattle.ga_race.proofs.Round.{alike_more, round_more}

-- A prefix of a run without races has none.
race_front : (chip : Chip) (front more : List Event) → HasNoRace chip (front ++ more)
    → HasNoRace chip front
race_front chip front more race before later event name cell e l =
    let old = race before (later ++ more) event name cell
    (ap (λ es. es ++ more) e ∙ append_assoc before (event ∷ later) more) l in
    record {
      empty = old.empty;
      comes_after = λ mid rest post f p. old.comes_after mid (rest ++ more) post
          (ap (λ es. es ++ more) f ∙ append_assoc mid (post ∷ rest) more) p;
    }

-- if more turns have no race, fewer have none
pub turns_front : (chip : Chip) (few many : ℕ) → few ≤ many → HasNoRace chip (turns_of many)
    → HasNoRace chip (turns_of few)
turns_front chip few many less race =
    let both : few + (many - few) ≡ many = omega arith in
    race_front chip (turns_of few) (some_turns few (many - few))
    (subst (HasNoRace chip) (ap turns_of (sym both) ∙ turns_split few (many - few)) race)

-- if no node has made as many steps as are counted, none had in fewer turns
counts_front : (chip : Chip) (few many : ℕ) → IsLegal chip → few ≤ many
    → IsCounting (ran chip (turns_of many)) → IsCounting (ran chip (turns_of few))
counts_front chip few many legal less counts =
    let both : few + (many - few) ≡ many = omega arith in
    counting_before (ran chip (turns_of few)) (some_turns few (many - few))
    (legal_ran chip (turns_of few) legal)
    (subst IsCounting (ap (λ n. ran chip (turns_of n)) (sym both)
    ∙ ap (ran chip) (turns_split few (many - few))
    ∙ ran-append chip (turns_of few) (some_turns few (many - few))) counts)

-- the number of turns behind some rounds
abbrev turns_behind : ℕ → ℕ → ℕ → ℕ
turns_behind first period zero = first
turns_behind first period (suc rounds) = turns_behind first period rounds + period

-- the number of fours of turns in some rounds
abbrev fours_behind : ℕ → ℕ → ℕ
fours_behind fours zero = 0
fours_behind fours (suc rounds) = fours_behind fours rounds + fours

-- rounds are made of four turns each time
behind_is : (first period fours rounds : ℕ) → period ≡ fours * 4
    → turns_behind first period rounds ≡ first + fours_behind fours rounds * 4
behind_is first period fours zero e = sym (add-zero first)
behind_is first period fours (suc rounds) e = let h = behind_is first period fours rounds e in
    omega arith

-- there are at least as many turns as rounds
enough : (first period rounds : ℕ) → 1 ≤ period → rounds ≤ turns_behind first period rounds
enough first period zero some = omega arith
enough first period (suc rounds) some = let h = enough first period rounds some in omega arith

module _ (chip : Chip) (first period : ℕ) (legal : IsLegal chip)
    (round : GoesRound chip first period) where
  -- the number of turns behind some rounds
  abbrev behind : ℕ → ℕ
  behind rounds = turns_behind first period rounds

  -- the tries of a round
  abbrev tries : List Event
  tries = some_turns first period

  -- one more round makes the same tries
  next : (rounds : ℕ) → turns_of (behind (suc rounds)) ≡ turns_of (behind rounds) ++ tries
  next rounds =
      turns_split (behind rounds) period
      ∙ ap (λ n. turns_of (behind rounds) ++ some_turns n period)
      (behind_is first period round.back.fours rounds round.back.divides)
      ∙ ap (λ es. turns_of (behind rounds) ++ es)
      (same_turns first period (fours_behind round.back.fours rounds))

  -- and so do two more
  next_two : (rounds : ℕ) → turns_of (behind (suc (suc rounds))) ≡ turns_of (behind rounds)
      ++ (tries ++ tries)
  next_two rounds = next (suc rounds) ∙ ap (λ es. es ++ tries) (next rounds)
      ∙ append_assoc (turns_of (behind rounds)) tries tries

  -- Behind some rounds one more round leads to a chip that is alike, and two more have no race.
  record IsRound (rounds : ℕ) : Type 0 where
    alike : IsAlike (ran chip (turns_of (behind rounds)))
        (ran chip (turns_of (behind rounds) ++ tries))
    race : HasNoRace chip (turns_of (behind rounds) ++ (tries ++ tries))

  -- that holds behind any number of rounds
  up_to : (rounds : ℕ) → IsCounting (ran chip (turns_of (behind (suc (suc rounds)))))
      → IsRound rounds
  up_to zero counts = record {
    alike = subst (λ es. IsAlike (ran chip (turns_of first)) (ran chip es)) (next 0)
        round.back.again;
    race = subst (HasNoRace chip) (next_two 0) round.race;
  }
  up_to (suc rounds) counts =
      let old = up_to rounds
      (counts_front chip (behind (suc (suc rounds))) (behind (suc (suc (suc rounds)))) legal
      (omega arith) counts) in
      let counts' : IsCounting
      (ran chip ((turns_of (behind rounds) ++ tries) ++ (tries ++ tries))) =
      subst (λ es. IsCounting (ran chip es))
      (next_two (suc rounds) ∙ ap (λ es. es ++ (tries ++ tries)) (next rounds)) counts in
      record {
        alike = subst (λ es. IsAlike (ran chip es) (ran chip (es ++ tries))) (sym (next rounds))
            (alike_more chip (turns_of (behind rounds)) tries legal (tries_of_turns first period)
            old.alike counts' old.race);
        race = subst (λ es. HasNoRace chip (es ++ (tries ++ tries))) (sym (next rounds))
            (round_more chip (turns_of (behind rounds)) tries legal (tries_of_turns first period)
            old.alike counts' old.race);
      }

  -- so no number of turns has a race
  all_turns : (rounds turns : ℕ) → turns ≤ behind (suc (suc rounds))
      → IsCounting (ran chip (turns_of (turns + period))) → HasNoRace chip (turns_of turns)
  all_turns zero turns less counts = turns_front chip turns (behind 2) less round.race
  all_turns (suc rounds) turns less counts =
      by (λ fewer. all_turns rounds turns fewer counts) (cases_lt (behind (suc (suc rounds))) turns)
    where
      by : (turns ≤ behind (suc (suc rounds)) → HasNoRace chip (turns_of turns))
          → (behind (suc (suc rounds)) < turns) ⊎ (turns ≤ behind (suc (suc rounds)))
          → HasNoRace chip (turns_of turns)
      by old (inr fewer) = old fewer
      by old (inl more) =
          let it = up_to (suc rounds)
          (counts_front chip (behind (suc (suc (suc rounds)))) (turns + period) legal
          (omega arith) counts) in
          turns_front chip turns (behind (suc (suc (suc rounds)))) less
          (subst (HasNoRace chip) (sym (next_two (suc rounds))) it.race)

-- if the counts last for some turns, no node has made as many steps as are counted behind them
counts_turns : (chip : Chip) (turns : ℕ) → IsLegal chip → CountsLast chip turns
    → IsCounting (ran chip (turns_of turns))
counts_turns chip turns legal last name part there =
    let first = part_first chip (turns_of turns) name part legal there in
    let s = stand_ran chip (turns_of turns) name first.0 legal first.1 in
    let few : steps_in chip (turns_of turns) name ≤ turns = turns_steps chip turns name in
    let room : first.0.state.steps + turns < 2 ^ 64 - 1 = last name first.0 first.1 in
    let steps = s.steps in
    let same : part.state.steps ≡ s.now.state.steps =
    ap (λ p. p.state.steps) (same_Some part s.now (sym there ∙ s.there)) in
    omega arith

-- No number of turns has a race.
pub race_round : (chip : Chip) (first period turns : ℕ) → IsLegal chip → GoesRound chip first period
    → CountsLast chip (turns + period) → HasNoRace chip (turns_of turns)
race_round chip first period turns legal round last =
    let h = enough first period turns round.back.some in
    all_turns chip first period legal round turns turns (omega arith)
    (counts_turns chip (turns + period) legal last)

-- The law holds.
pub no_race_round : NoRaceRound
no_race_round chip first period turns legal round last =
    let race = race_round chip first period turns legal round last in
    (race, no_race chip (turns_of turns) legal race)
