-- The job `map`: what it writes.
use Rattle.std.specs.Prelude.{◌≡◌, ℕ, List, Option, Result, Ok, Err}
use Rattle.ga_map.specs.Map.{map_text}
use Rattle.ga_trace.specs.Rest.{ran_from}
use Rattle.ga_transcript.specs.Live.{LiveView}
use Rattle.ga_input.specs.declared.fault.ServeError.{ServeError}
use Rattle.ga_input.specs.declared.loading.Loading.{Loading}
use Rattle.ga_views.specs.Race.{most_turns}
use Rattle.ga_input.specs.Session.{IsSession}

-- the picture of the chip of a session after at most a number of turns
abbrev pub map_after : LiveView → ℕ → List ℕ
map_after live turns = map_text live.program.images (ran_from turns 0 0 0 live.chip).1

-- the picture of the session that an input opens, or the first fault of that session
abbrev pub IsMapOutput : Loading → Option ℕ → List ℕ → Result (List ℕ) ServeError → Type 0
IsMapOutput loading turns input (Ok text) =
    (live : LiveView) × IsSession loading input (Ok live)
    × (text ≡ map_after live (most_turns turns))
IsMapOutput loading turns input (Err fault) = IsSession loading input (Err fault)
