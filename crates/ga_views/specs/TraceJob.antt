-- The job `trace`: what it writes.
use Rattle.std.specs.Prelude.{◌≡◌, ◌⊎◌, ℕ, List, length, nat_lt, Option, Some, None, Result, Ok, Err, if◌then◌else◌}
use Rattle.std.specs.Option.{option_map_or}
use Rattle.ga_path.specs.Names.{nodes_in}
use Rattle.ga_trace.specs.Rest.{ran_from}
use Rattle.ga_transcript.specs.Live.{LiveView}
use Rattle.ga_wave.specs.Nodes.{names_with_image}
use Rattle.ga_wave.specs.Save.{save_text}
use Rattle.ga_wave.specs.Wave.{waveform}
use Rattle.ga_input.specs.declared.fault.OutputFault.TheVariants.{TooLong}
use Rattle.ga_input.specs.declared.fault.RouteFault.TheVariants.{BadRoute}
use Rattle.ga_input.specs.declared.fault.ServeError.{ServeError}
use Rattle.ga_input.specs.declared.fault.ServeError.TheVariants.{Output, Route}
use Rattle.ga_input.specs.declared.loading.Loading.{Loading}
use Rattle.ga_views.specs.declared.trace.Waveform.{Waveform}
use Rattle.ga_views.specs.Race.{most_turns}
use Rattle.ga_input.specs.Session.{IsSession}

-- the nodes that a text names, with commas between them, or those of the program
abbrev pub nodes_named : LiveView → Option (List ℕ) → Result (List ℕ) ServeError
nodes_named live (Some text) = option_map_or Ok (nodes_in text) (Err (Route BadRoute))
nodes_named live None = Ok (names_with_image live.program.images)

abbrev pub saved : Result (List ℕ) ServeError → Result (List ℕ) ServeError
saved (Ok nodes) = Ok (save_text nodes)
saved (Err fault) = Err fault

-- the save file for the waveform of these nodes
abbrev pub saved_for : LiveView → Option (List ℕ) → Result (List ℕ) ServeError
saved_for live names = saved (nodes_named live names)

-- how many turns come until rest, but at most this many
abbrev pub turns_until_rest : LiveView → ℕ → ℕ
turns_until_rest live turns = (ran_from turns 0 0 0 live.chip).0.turns

abbrev pub wave_of : LiveView → List ℕ → ℕ → List ℕ
wave_of live nodes turns =
    waveform live.program.images nodes live.chip (turns_until_rest live turns)

-- the waveform of these turns, if it isn't too long
abbrev pub wave_within : LiveView → List ℕ → ℕ → Result (List ℕ) ServeError
wave_within live nodes turns =
    if nat_lt 268435456 (length (wave_of live nodes turns)) then Err (Output TooLong)
    else Ok (wave_of live nodes turns)

-- the text of a waveform that isn't made yet
abbrev pub text_of : Waveform → List ℕ
text_of made = waveform made.live.program.images made.nodes.items made.live.chip made.turns

-- the waveform of the session that an input opens, or the first fault: that of the session; that of
-- the names; or the waveform is too long
abbrev pub IsTraceOutput : Loading → Option ℕ → Option (List ℕ) → List ℕ
    → Result (List ℕ) ServeError → Type 0
IsTraceOutput loading turns names input answer =
    ((fault : ServeError) × (answer ≡ Err fault) × IsSession loading input (Err fault))
    ⊎ ((live : LiveView) × IsSession loading input (Ok live)
    × (((fault : ServeError) × (answer ≡ Err fault) × (nodes_named live names ≡ Err fault))
    ⊎ ((nodes : List ℕ) × (nodes_named live names ≡ Ok nodes)
    × (wave_within live nodes (most_turns turns) ≡ answer))))
