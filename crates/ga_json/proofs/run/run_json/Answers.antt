use Rattle.std.proofs.Common.{◌≡◌, ℕ, IfOk, List, Ok, Err, Result, string_bytes}
use Rattle.serde_json.specs.Written.{compact_text}
use Rattle.ga_chip.specs.Chip.{Chip}
use Rattle.ga_profile.specs.Profile.{window_in}
use Rattle.ga_profile.specs.declared.profile.Profile.{Profile}
use Rattle.ga_profile.specs.declared.window.WindowStart.{WindowStart}
use Rattle.ga_json.specs.Profile.{profile_data}
use Rattle.ga_json.specs.Run.{IsProfileIn, IsRunJson}
use Rattle.ga_json.proofs.run.run_json.Goals as goal

-- the text of the profile that was measured
of_profile : {A E : Type 0} (bytes : A → List ℕ) (result : Result A E) (start : WindowStart)
    (most : ℕ) (chip : Chip) (profile : Profile)
    → IsProfileIn (window_in start most chip) chip profile
    → IfOk result (λ text. bytes text ≡ compact_text (profile_data profile))
    → IfOk result (λ text. IsRunJson start most chip (bytes text))
of_profile bytes (Ok text) start most chip profile is same = (profile, is, same)
of_profile bytes (Err fault) start most chip profile is same = tt

pub returns : goal.returns
returns c =
    let is = c.in_ok-profile.ensures in
    of_profile string_bytes c.profile_json.result c.args.start c.args.most c.args.chip.now
    c.in_ok-profile.profile
    (is.window, is.nodes, is.passes, is.path, is.lines, is.depths, is.chip) c.profile_json.ensures
