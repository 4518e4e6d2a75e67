-- The profile of a run as JSON.
use Rattle.std.specs.Prelude.{◌≡◌, ℕ, List}
use Rattle.serde_json.specs.Written.{compact_text}
use Rattle.ga_chip.specs.Chip.{Chip}
use Rattle.ga_profile.specs.Lines.{line_turns}
use Rattle.ga_profile.specs.NodePass.{node_passes}
use Rattle.ga_profile.specs.Path.{path_turns}
use Rattle.ga_profile.specs.Profile.{chip_at_end, nodes_in, window_in}
use Rattle.ga_profile.specs.declared.profile.Profile.{Profile}
use Rattle.ga_profile.specs.declared.window.Window.{Window}
use Rattle.ga_profile.specs.declared.window.WindowStart.{WindowStart}
use Rattle.ga_trace.specs.Depth.{all_depths}
use Rattle.ga_json.specs.Profile.{profile_data}

-- the profile of a chip's run in a window
abbrev pub IsProfileIn : Window → Chip → Profile → Type 0
IsProfileIn window chip profile =
    (profile.window ≡ window) × (profile.nodes.items ≡ nodes_in window chip)
    × (profile.passes.items ≡ node_passes window chip)
    × (profile.path.items ≡ path_turns window chip)
    × (profile.lines.items ≡ line_turns window chip profile.path.items)
    × (profile.depths.items ≡ all_depths window.end chip)
    × (profile.chip ≡ chip_at_end window chip)

-- The profile of a chip's run in at most a number of turns, as JSON. Its window begins where
-- `start` says.
abbrev pub IsRunJson : WindowStart → ℕ → Chip → List ℕ → Type 0
IsRunJson start most chip text =
    (profile : Profile) × IsProfileIn (window_in start most chip) chip profile
    × (text ≡ compact_text (profile_data profile))
