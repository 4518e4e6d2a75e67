-- What a run of turns that ends at rest shows of all tries.
use Rattle.std.proofs.Common.{◌≡◌, ◌∙◌, ap, sym, ℕ, Bool, List, [], ◌∷◌, ◌++◌, append-nil, Some, subst}
use Rattle.std.specs.Prelude.{option_map}
use Rattle.ga_node.specs.State.{State}
use Rattle.ga_chip.specs.declared.outcome.Try.{Try}
use Rattle.ga_chip.specs.Part.{Part}
use Rattle.ga_chip.specs.Chip.{Chip, part_of, state_of}
use Rattle.ga_chip.specs.Joining.{TriesFeedNothing}
use Rattle.ga_chip.specs.Run.{Event, ran, tries_of, turns_of, words_fed}
use Rattle.ga_race.specs.Races.{HasNoRace, IsFed, RunsAgree}
use Rattle.ga_race.specs.Spins.{IsResting}
use Rattle.ga_race.specs.Verdict.{EndsAtRest}
use Rattle.ga_law_examples.specs.Races.{IsSettled}

same_state : (one two : State) → Some one ≡ Some two → one ≡ two
same_state one two is = cc

-- tries feed nothing, and so a prefix of what any events feed
pub few_fed : TriesFeedNothing → (chip : Chip) (tries : List Try) (events : List Event)
    → IsFed chip (tries_of tries) (words_fed chip events)
few_fed unfed chip tries events name = (
  words_fed chip events name,
  ap (λ words. words ++ words_fed chip events name) (sym (unfed chip tries name)),
)

pub settled : (chip last : Chip) (name turns : ℕ) (spins : List Bool) (state : State)
    → TriesFeedNothing → last ≡ ran chip (turns_of turns)
    → EndsAtRest chip (turns_of turns) spins → Some state ≡ state_of last name
    → IsSettled chip last name state.t
settled chip last name turns spins state unfed shown ends there =
    let agreed : (tries : List Try) → RunsAgree chip (turns_of turns) (tries_of tries) =
    λ tries. ends.determinate (turns_of turns) (tries_of tries)
    (λ fed. ([], sym (append-nil _))) (few_fed unfed chip tries (turns_of turns)) in
    record {
      turns = turns;
      shown = shown;
      agree = agreed;
      most = λ tries node rests. ends.most (tries_of tries)
          (few_fed unfed chip tries (turns_of turns)) node
          (subst (λ (after : Chip). IsResting after node) shown rests);
      top = λ tries here end at ends_at steps.
          let end_at = ap (λ (after : Chip). part_of after name) (sym shown) ∙ ends_at in
          let alike = (agreed tries).agree.ends name end here end_at at (sym steps) in
          let state_is = same_state state end.state
          (there ∙ ap (option_map (λ (part : Part). part.state)) ends_at) in
          ap (λ (s : State). s.t) (sym alike ∙ sym state_is);
    }

-- before its first event no run has a race
pub no_race_yet : (chip : Chip) → HasNoRace chip []
no_race_yet chip [] later event name cell cut leaves = absurd cc
no_race_yet chip (first ∷ before) later event name cell cut leaves = absurd cc
