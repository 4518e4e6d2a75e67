-- The job `profile`: what it writes.
use Rattle.std.specs.Prelude.{◌≡◌, ◌++◌, ℕ, Bool, List, MatchBool, codes, Option, Result, Ok, Err}
use Rattle.ga_asm.specs.Image.{ImageView}
use Rattle.ga_profile.specs.Lines.{line_turns}
use Rattle.ga_profile.specs.NodePass.{node_passes}
use Rattle.ga_profile.specs.Path.{path_turns}
use Rattle.ga_profile.specs.Profile.{chip_at_end, nodes_in, shorter_in, window_in}
use Rattle.ga_profile.specs.Text.{profile_text}
use Rattle.ga_profile.specs.declared.profile.Profile.{Profile}
use Rattle.ga_profile.specs.declared.window.Window.{Window}
use Rattle.ga_profile.specs.declared.window.WindowStart.{WindowStart}
use Rattle.ga_trace.specs.Depth.{all_depths}
use Rattle.ga_transcript.specs.Live.{LiveView}
use Rattle.ga_waits.specs.Causes.{causes_first}
use Rattle.ga_input.specs.declared.fault.ServeError.{ServeError}
use Rattle.ga_input.specs.declared.loading.Loading.{Loading}
use Rattle.ga_views.specs.Race.{most_turns}
use Rattle.ga_input.specs.Session.{IsSession, IsSessionOutput}

-- the profile of a window of the run of a session's chip in at most this many turns, and who waits
-- for whom at its end
abbrev pub profile_in : LiveView → Window → ℕ → List ℕ
profile_in live window turns =
    (profile_text live.program.images window (nodes_in window live.chip)
    (node_passes window live.chip) (path_turns window live.chip)
    (line_turns window live.chip (path_turns window live.chip))
    (shorter_in window turns live.chip (path_turns window live.chip))
    (all_depths window.end live.chip)
    (chip_at_end window live.chip) ++ codes "At the end:\n")
    ++ causes_first live.program.images (chip_at_end window live.chip)

-- the same from where a start says
abbrev pub profile_after : LiveView → WindowStart → ℕ → List ℕ
profile_after live start turns = profile_in live (window_in start turns live.chip) turns

-- the text of a measured profile, with the labels of a program
abbrev pub with_waits : List (ℕ × ImageView) → Profile → List ℕ
with_waits images profile =
    (profile_text images profile.window profile.nodes.items profile.passes.items profile.path.items
    profile.lines.items profile.shorter profile.depths.items profile.chip ++ codes "At the end:\n")
    ++ causes_first images profile.chip

-- the profile of the session that an input opens, or the first fault of that session
abbrev pub IsProfileText : Loading → WindowStart → Option ℕ → List ℕ
    → Result (List ℕ) ServeError → Type 0
IsProfileText loading start turns input (Ok text) =
    (live : LiveView) × IsSession loading input (Ok live)
    × (text ≡ profile_after live start (most_turns turns))
IsProfileText loading start turns input (Err fault) = IsSession loading input (Err fault)

-- the same; as JSON nothing but the first fault of the session is an output of the job
abbrev pub IsProfileOutput : Loading → WindowStart → Bool → Option ℕ → List ℕ
    → Result (List ℕ) ServeError → Type 0
IsProfileOutput loading start json turns input answer =
    MatchBool json (IsSessionOutput loading input answer)
    (IsProfileText loading start turns input answer)
