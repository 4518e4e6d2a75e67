use Rattle.std.proofs.Common.{◌≡◌, ◌∙◌, ℕ, IfOk, List, ap₂, subst}
use Rattle.std.specs.Prelude.{Result}
use Rattle.std.specs.declared.alloc.AllocError.{AllocError}
use Rattle.ga_chip.specs.Chip.{Chip}
use Rattle.ga_chip.specs.Run.{ran, turns_of}
use Rattle.ga_profile.specs.declared.profile.Profile.{Profile}
use Rattle.ga_profile.specs.declared.window.Window.{Window}
use Rattle.ga_profile.specs.Bottleneck.{node_on_path}
use Rattle.ga_profile.specs.Faster.{shorter_window, goals_of}
use Rattle.ga_profile.specs.Profile.{goals_to_rest, turns_to_rest, watched, window_in}
use Rattle.ga_profile.specs.Window.{window_of}
use Rattle.ga_profile.proofs.profile.measure.Goals as goal

-- for an equal window and equal goals
as_run : (window w : Window) (goals g : List ℕ) (chip : Chip) (made : Result Profile AllocError)
    → window ≡ w → goals ≡ g
    → IfOk made (λ profile. profile.shorter
    ≡ shorter_window window (node_on_path profile.path.items) goals chip)
    → IfOk made (λ profile. profile.shorter
    ≡ shorter_window w (node_on_path profile.path.items) g chip)
as_run window w goals g chip made e f is =
    subst (λ g. IfOk made (λ profile. profile.shorter
    ≡ shorter_window w (node_on_path profile.path.items) g chip)) f
    (subst (λ w. IfOk made (λ profile. profile.shorter
    ≡ shorter_window w (node_on_path profile.path.items) goals chip)) e is)

pub returns-clause-shorter : goal.returns-clause-shorter
unfolding goals_to_rest
returns-clause-shorter c =
    let chip = c.args.chip.now in
    let made = turns_to_rest c.args.most chip in
    let all_is : c.in_ok-all.all.items ≡ watched 0 made chip =
    c.in_ok-all.ensures.nodes ∙ ap₂ (λ n start. watched 0 n start) c.in_ok-made.ensures
    c.in_ok-copy.ensures in
    let end_is : c.watched.new.chip ≡ ran chip (turns_of made) =
    c.in_ok-all.ensures.chip ∙ ap₂ (λ n start. ran start (turns_of n)) c.in_ok-made.ensures
    c.in_ok-copy.ensures in
    let goals_are : c.as_slice-3.result.now ≡ goals_of (ran chip (turns_of made))
    (watched 0 made chip) =
    c.as_slice-3.ensures.value ∙ c.in_ok-goals.ensures.goals
    ∙ ap₂ goals_of end_is (c.as_slice.ensures.value ∙ all_is) in
    let window_is : c.window_of-window.result ≡ window_in c.args.start c.args.most chip =
    c.window_of-window.ensures
    ∙ ap₂ (window_of c.args.start) (c.as_slice-2.ensures.value ∙ all_is) c.in_ok-made.ensures in
    as_run _ _ _ _ chip c.profile_in.result window_is goals_are c.profile_in.ensures.shorter
