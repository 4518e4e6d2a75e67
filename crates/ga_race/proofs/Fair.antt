-- A chip that goes round is determinate: what moves in another run moves within four turns.
use Rattle.std.proofs.Common.{◌≡◌, ℕ, ◌+◌, ◌-◌, ◌*◌, ◌≤◌, Bool, false, List, [], ◌∷◌, ◌++◌, ◌⊎◌, inl, inr, get_or, length, Option, Some, None, refl, sym, ap, ap₂, ◌∙◌, subst, append-nil, append_assoc, length-append, arith}
use Rattle.std.specs.Option.{option_map_or}
use Rattle.std.proofs.lemmas.Bool.{cases_eq}
use Rattle.ga_place.specs.declared.side.Side.{Side}
use Rattle.ga_node.specs.Need.{need_of}
use Rattle.ga_chip.specs.declared.outcome.Outcome.TheVariants.{Moved, Waits}
use Rattle.ga_chip.specs.Part.{Part, Asks, Nothing, Own, Feed, Post, Check, Take, after, after_asked, asks, picked_by}
use Rattle.ga_chip.specs.Chip.{Chip, found_by, part_of, tried}
use Rattle.ga_chip.specs.Run.{Event, Move, Try, SetBreak, ClearBreak, PassBreak, Piece, happened, has_break, if_moved, is_open, move_in, moves, moves_of, ran, turns_of, words_fed}
use Rattle.ga_chip.specs.Laws.{IsPrefix}
use Rattle.ga_chip.specs.Legal.{IsLegal}
use Rattle.ga_chip.proofs.Kept.{has_name, legal_kept, legal_ran}
use Rattle.ga_chip.proofs.Moments.{makes_event}
use Rattle.ga_chip.proofs.Tries.{tried_none, tried_there}
use Rattle.ga_race.specs.Clocks.{steps_in}
use Rattle.ga_race.specs.Races.{HasNoRace, IsFed}
use Rattle.ga_race.specs.Rounds.{HasNoBreaks, RoundIsDeterminate, no_words}
use Rattle.ga_race.proofs.Prefixes.{One, fed_prefix, prefix_of, its_own, next_of, prefix_both, steps_earlier}
use Rattle.ga_race.proofs.Embedded.{IsEmbedded, IsFedPrefix, embedded_next, runs_agree}
use Rattle.ga_race.proofs.Room.{room_by}
use Rattle.ga_race.proofs.Rest.{moves_free}
use Rattle.ga_race.proofs.Longer.{free_part}
use Rattle.ga_observe.proofs.Tried.{break_at, no_node, part_else, part_here, tried_leaves, try_breaks}
use Rattle.ga_race.proofs.Alike.{AreTries, its_move, tries_front, tries_join}
use Rattle.ga_race.proofs.TurnLists.{feed_nothing, four_try_each, some_turns, tries_of_turns, turns_split, turns_tries}
use Rattle.ga_race.proofs.Rounds.{race_round}

-- a run of tries sets no breakpoint
pub breaks_kept : (chip : Chip) (events : List Event) → AreTries events → IsLegal chip
    → HasNoBreaks chip → HasNoBreaks (ran chip events)
breaks_kept chip [] tries legal none = none
breaks_kept chip (Try name side ∷ events) tries legal none =
    breaks_kept (happened chip (Try name side)) events tries.1
    (legal_kept chip (Try name side) legal)
    (λ other address. try_breaks chip name other address side legal ∙ none other address)
breaks_kept chip (SetBreak name at ∷ events) tries legal none = absurd tries.0
breaks_kept chip (ClearBreak name at ∷ events) tries legal none = absurd tries.0
breaks_kept chip (PassBreak name ∷ events) tries legal none = absurd tries.0
breaks_kept chip (Piece name words ∷ events) tries legal none = absurd tries.0

-- a try that is Moved is one move of its node
moved_one : (chip : Chip) (name : ℕ) (side : Side) → (tried chip name side).0 ≡ Moved
    → length (moves_of name (move_in chip (Try name side))) ≡ 1
moved_one chip name side moved = by (part_of chip name) refl
  where
    by : (o : Option Part) → part_of chip name ≡ o
        → length (moves_of name (move_in chip (Try name side))) ≡ 1
    by None e = let never : Waits ≡ Moved = sym (ap (λ r. r.0) (tried_none chip name side e))
        ∙ moved in cc
    by (Some part) e =
        let m : Move =
        record {
          node = name;
          asked = asks part side;
          found =
              found_by (asks part side) chip.cells;
          picked = picked_by (need_of part.state) side;
        } in
        let outcome : (after part side (found_by (asks part side) chip.cells)).0 ≡ Moved =
        sym (ap (λ r. r.0) (tried_there chip name side part e)) ∙ moved in
        ap (λ ms. length (moves_of name ms))
        (its_move chip name side (Some part) e ∙ ap (λ o. if_moved o m) outcome)
        ∙ ap (λ l. length l) (its_own name m refl)

-- Four more turns have room for one more event of a run.
module _ (chip : Chip) (turns : ℕ) (done : List Event) (event : Event) (legal : IsLegal chip)
    (none : HasNoBreaks chip) (race : HasNoRace chip (turns_of (turns + 4)))
    (fed : IsFed chip (done ++ event ∷ []) no_words)
    (inside : IsEmbedded chip done (turns_of turns)) where
  -- the events of the turns and of four more
  abbrev long : List Event
  long = turns_of turns ++ some_turns turns 4

  -- these are the events of all these turns
  is_long : turns_of (turns + 4) ≡ long
  is_long = turns_split turns 4

  -- the run is embedded in longer runs
  inside_more : (more : List Event) → IsEmbedded chip done (turns_of turns ++ more)
  inside_more more name =
      prefix_both (moves_of name (moves chip done)) (moves_of name (moves chip (turns_of turns)))
      (moves_of name (moves chip (turns_of turns ++ more))) (inside name)
      (prefix_of chip (turns_of turns) more name)

  -- a run that is fed no words is fed what tries are fed
  fed_by : (run others : List Event) → IsFed chip run no_words → AreTries others
      → IsFedPrefix chip others run
  fed_by run others f tries name =
      ((f name).0, feed_nothing (is_open chip name) name others tries ∙ (f name).1)

  -- the run was fed no words before the event
  fed_done : IsFed chip done no_words
  fed_done name = prefix_both (words_fed chip done name) (words_fed chip (done ++ event ∷ []) name)
      [] (fed_prefix chip done (event ∷ []) name) (fed name)

  -- a node that the event moves makes one more step in the four turns: before its try at the side
  -- of that move, or at that try
  one_more : (name : ℕ) (m : Move) (now : moves_of name (move_in (ran chip done) event) ≡ m ∷ [])
      (before later : List Event) → some_turns turns 4 ≡ before
      ++ Try name (makes_event (ran chip done) event name m now).side ∷ later
      → (left : List Move) → moves_of name (moves chip (turns_of turns ++ before))
      ≡ moves_of name (moves chip done) ++ left
      → steps_in chip done name + 1 ≤ steps_in chip long name
  one_more name m now before later cut (y ∷ left) e =
      let front = steps_earlier chip (turns_of turns ++ before)
      (Try name (makes_event (ran chip done) event name m now).side ∷ later) name in
      let same : steps_in chip
      ((turns_of turns ++ before)
      ++ (Try name (makes_event (ran chip done) event name m now).side ∷ later)) name
      ≡ steps_in chip long name =
      ap (λ es. steps_in chip es name)
      (append_assoc (turns_of turns) before
      (Try name (makes_event (ran chip done) event name m now).side ∷ later)
      ∙ ap (λ es. turns_of turns ++ es) (sym cut)) in
      let more : steps_in chip (turns_of turns ++ before) name ≡ steps_in chip done name
      + length (y ∷ left) = ap (λ l. length l) e
      ∙ length-append (moves_of name (moves chip done)) (y ∷ left) in
      omega arith
  one_more name m now before later cut [] e =
      let side : Side = (makes_event (ran chip done) event name m now).side in
      let at : List Event = turns_of turns ++ before in
      let all : moves_of name (moves chip at) ≡ moves_of name (moves chip done) = e
      ∙ append-nil (moves_of name (moves chip done)) in
      let tries : AreTries at =
      tries_join (turns_of turns) before (turns_tries turns)
      (tries_front before (Try name side ∷ later)
      (subst AreTries cut (tries_of_turns turns 4))) in
      let still : HasNoBreaks (ran chip at) = breaks_kept chip at tries legal none in
      let moved : (tried (ran chip at) name side).0 ≡ Moved =
      moves_free chip at done event name m legal (inside_more before)
      (fed_by done at fed_done tries) now (sym all)
      (λ part there. free_part part
      (λ address. sym (ap (break_at address) there) ∙ still name address)) in
      let it : steps_in chip (at ++ Try name side ∷ []) name ≡ steps_in chip done name + 1 =
      ap (λ l. length l) (next_of chip at (Try name side) name)
      ∙ length-append (moves_of name (moves chip at))
      (moves_of name (move_in (ran chip at) (Try name side)))
      ∙ ap₂ (λ x y. x + y) (ap (λ l. length l) all) (moved_one (ran chip at) name side moved) in
      let front = steps_earlier chip (at ++ Try name side ∷ []) later name in
      let same : steps_in chip ((at ++ Try name side ∷ []) ++ later) name
      ≡ steps_in chip long name =
      ap (λ es. steps_in chip es name)
      (append_assoc at (Try name side ∷ []) later
      ∙ append_assoc (turns_of turns) before (Try name side ∷ later)
      ∙ ap (λ es. turns_of turns ++ es) (sym cut)) in
      omega arith

  -- so there is one more step of the node that the event moves
  its_step : (o : One (ran chip done) event)
      → steps_in chip done o.move.node + 1 ≤ steps_in chip long o.move.node
  its_step o =
      let now : moves_of o.move.node (move_in (ran chip done) event) ≡ o.move ∷ [] =
      ap (moves_of o.move.node) o.made ∙ its_own o.move.node o.move refl in
      let a = makes_event (ran chip done) event o.move.node o.move now in
      let f = four_try_each turns o.move.node a.side
      (has_name (ran chip done) o.move.node a.part (legal_ran chip done legal) a.there) in
      let front = inside_more f.before o.move.node in
      one_more o.move.node o.move now f.before f.later f.cut front.0 front.1

  -- So the run is embedded with the event too.
  pub four_more : IsEmbedded chip (done ++ event ∷ []) (turns_of (turns + 4))
  four_more = subst (IsEmbedded chip (done ++ event ∷ [])) (sym is_long)
      (embedded_next chip long done event legal (subst (HasNoRace chip) is_long race)
      (inside_more (some_turns turns 4))
      (room_by chip done long event (inside_more (some_turns turns 4)) its_step)
      (fed_by (done ++ event ∷ []) long fed
      (tries_join (turns_of turns) (some_turns turns 4) (turns_tries turns)
      (tries_of_turns turns 4))))

-- each event of a run is embedded in four more turns
run_on : (chip : Chip) (run done more : List Event) (turns : ℕ) → IsLegal chip → HasNoBreaks chip
    → ((few : ℕ) → few ≤ turns + length more * 4 → HasNoRace chip (turns_of few))
    → IsFed chip run no_words → run ≡ done ++ more → IsEmbedded chip done (turns_of turns)
    → IsEmbedded chip run (turns_of (turns + length more * 4))
run_on chip run done [] turns legal none race fed cut inside =
    let same : turns ≡ turns + length {A = Event} [] * 4 = omega arith in
    subst (λ es. IsEmbedded chip es (turns_of (turns + length {A = Event} [] * 4)))
    (sym (append-nil done) ∙ sym cut)
    (subst (λ n. IsEmbedded chip done (turns_of n)) same inside)
run_on chip run done (event ∷ more) turns legal none race fed cut inside =
    let cut' : run ≡ (done ++ event ∷ []) ++ more = cut
    ∙ sym (append_assoc done (event ∷ []) more) in
    let last : (turns + 4) + length more * 4 ≡ turns + length (event ∷ more) * 4 = omega arith in
    let fed_next : IsFed chip (done ++ event ∷ []) no_words =
    λ name. prefix_both (words_fed chip (done ++ event ∷ []) name) (words_fed chip run name) []
    (subst (λ es. IsPrefix (words_fed chip (done ++ event ∷ []) name) (words_fed chip es name))
    (sym cut') (fed_prefix chip (done ++ event ∷ []) more name)) (fed name) in
    let next : IsEmbedded chip (done ++ event ∷ []) (turns_of (turns + 4)) =
    four_more chip turns done event legal none (race (turns + 4) (omega arith)) fed_next
    inside in
    subst (λ n. IsEmbedded chip run (turns_of n)) last
    (run_on chip run (done ++ event ∷ []) more (turns + 4) legal none
    (λ few less. race few (omega arith)) fed cut' next)

-- So a run is embedded in at least four turns for each of its events.
run_inside : (chip : Chip) (run : List Event) (turns : ℕ) → length run * 4 ≤ turns → IsLegal chip
    → HasNoBreaks chip → ((few : ℕ) → few ≤ turns → HasNoRace chip (turns_of few))
    → IsFed chip run no_words → IsEmbedded chip run (turns_of turns)
run_inside chip run turns less legal none race fed name =
    let some : (turns - length run * 4) + length run * 4 ≡ turns = omega arith in
    subst (λ n. IsPrefix (moves_of name (moves chip run)) (moves_of name (moves chip (turns_of n))))
    some
    (run_on chip run [] run (turns - length run * 4) legal none (λ few h. race few (omega arith))
    fed refl (λ other. (moves_of other (moves chip (turns_of (turns - length run * 4))), refl))
    name)

-- A chip that goes round is determinate.
pub round_is_determinate : RoundIsDeterminate
round_is_determinate chip first period one two legal none round last fed fed' =
    let turns : ℕ = (length one + length two) * 4 in
    let race : (few : ℕ) → few ≤ turns → HasNoRace chip (turns_of few) =
    λ few less. race_round chip first period few legal round
    (λ name part there. let room = last name part there in omega arith) in
    runs_agree chip (turns_of turns) one two legal
    (run_inside chip one turns (omega arith) legal none race fed)
    (run_inside chip two turns (omega arith) legal none race fed')
    (λ name. (
      (fed name).0,
      feed_nothing (is_open chip name) name (turns_of turns)
          (turns_tries turns) ∙ (fed name).1,
    ))
    (λ name. (
      (fed' name).0,
      feed_nothing (is_open chip name) name (turns_of turns)
          (turns_tries turns) ∙ (fed' name).1,
    ))
