-- The text of a measured profile is that of its window.
use Rattle.std.proofs.Common.{◌≡◌, ◌∙◌, ℕ, List, Result, Ok, Err, IfOk}
use Rattle.ga_asm.specs.Image.{ImageView}
use Rattle.ga_chip.specs.Chip.{Chip}
use Rattle.ga_profile.specs.Lines.{line_turns}
use Rattle.ga_profile.specs.NodePass.{node_passes}
use Rattle.ga_profile.specs.Path.{path_turns}
use Rattle.ga_profile.specs.Profile.{chip_at_end, nodes_in, shorter_in, window_in}
use Rattle.ga_profile.specs.declared.profile.Profile.{Profile}
use Rattle.ga_profile.specs.declared.window.WindowStart.{WindowStart}
use Rattle.ga_trace.specs.Depth.{all_depths}
use Rattle.ga_transcript.specs.Live.{LiveView}
use Rattle.ga_views.specs.ProfileJob.{profile_after, with_waits}

pub with_waits_of : (live : LiveView) (start : WindowStart) (most : ℕ) (profile : Profile)
    (chip : Chip) (images : List (ℕ × ImageView)) → chip ≡ live.chip → images ≡ live.program.images
    → profile.window ≡ window_in start most chip
    → profile.nodes.items ≡ nodes_in (window_in start most chip) chip
    → profile.passes.items ≡ node_passes (window_in start most chip) chip
    → profile.path.items ≡ path_turns (window_in start most chip) chip
    → profile.lines.items ≡ line_turns (window_in start most chip) chip profile.path.items
    → profile.shorter ≡ shorter_in (window_in start most chip) most chip profile.path.items
    → profile.depths.items ≡ all_depths (window_in start most chip).end chip
    → profile.chip ≡ chip_at_end (window_in start most chip) chip
    → with_waits images profile ≡ profile_after live start most
with_waits_of live start most profile chip images c i w n p a l s d e =
    cc (c, i, w, n, p, a, l, s, d, e)

pub if_ok : {A E : Type 0} (result : Result A E) (bytes : A → List ℕ) {one other : List ℕ}
    → IfOk result (λ a. bytes a ≡ one) → one ≡ other → IfOk result (λ a. bytes a ≡ other)
if_ok (Ok a) bytes is same = is ∙ same
if_ok (Err e) bytes is same = tt
