-- The session that an input opens.
use Rattle.std.specs.Prelude.{◌≡◌, ◌⊎◌, ℕ, List, [], ◌∷◌, ◌++◌, MatchBool, codes, Result, Ok, Err, string_bytes, if◌then◌else◌}
use Rattle.std.specs.List.{flat_map}
use Rattle.std.specs.Str.{bytes_eq}
use Rattle.ga_debug.specs.Pieces.{pieces}
use Rattle.ga_debug.specs.Session.{without_line_end}
use Rattle.ga_transcript.specs.Check.{Fault}
use Rattle.ga_transcript.specs.Live.{IsOpened, LiveView}
use Rattle.ga_input.specs.declared.fault.ServeError.{ServeError}
use Rattle.ga_input.specs.declared.loading.Loading.{Loading}
use Rattle.ga_input.specs.declared.loading.Loading.TheVariants.{Any, Place, Route}
use Rattle.ga_input.specs.Loading.{IsSourceChip, is_head}
use Rattle.ga_input.specs.Text.{text_in}
use Rattle.ga_input.specs.TranscriptFault.{shown_transcript_fault}

-- the line that says how source text is loaded
abbrev pub loading_line : Loading → List ℕ
loading_line (Route names) = codes "route " ++ (string_bytes names ++ 10 ∷ [])
loading_line Any = codes "place\n"
loading_line Place = codes "place\n"

-- lines of a source text, each ended by LF; a line `go` would end it, and gets a space
abbrev pub ended_lines : List (List ℕ) → List ℕ
ended_lines lines =
    flat_map (λ line. line ++ (if bytes_eq line (codes "go") then codes " \n" else codes "\n"))
    lines

-- the head that loads a source text, without its line `go`
abbrev pub source_head : Loading → List ℕ → List ℕ
source_head loading source =
    codes "profile 2\n"
    ++ (loading_line loading ++ ended_lines (pieces 10 (without_line_end source)))

-- the transcript of a text: itself, or the head that loads a source text
abbrev pub head_text : Loading → List ℕ → List ℕ
head_text loading text =
    if is_head loading text then text else source_head loading text ++ codes "go\n"

-- the session that a transcript opens, or its first fault as it is shown
abbrev pub IsOpenedAs : List ℕ → Result LiveView ServeError → Type 0
IsOpenedAs text (Ok live) = IsOpened (without_line_end text) (Ok live)
IsOpenedAs text (Err fault) =
    (error : Fault) × IsOpened (without_line_end text) (Err error)
    × (shown_transcript_fault text error ≡ fault)

-- the session that an input opens; or its first fault: it is no text; that of a source text, by
-- itself; that of the transcript
abbrev pub IsSession : Loading → List ℕ → Result LiveView ServeError → Type 0
IsSession loading input (Ok live) =
    (text : List ℕ) × (text_in input ≡ Ok text) × IsOpenedAs (head_text loading text) (Ok live)
IsSession loading input (Err fault) =
    (text_in input ≡ Err fault)
    ⊎ ((text : List ℕ) × (text_in input ≡ Ok text)
    × (MatchBool (is_head loading text) ⊥ (IsSourceChip loading text (Err fault))
    ⊎ IsOpenedAs (head_text loading text) (Err fault)))

-- what is written for it if no line is typed
abbrev pub IsSessionOutput : Loading → List ℕ → Result (List ℕ) ServeError → Type 0
IsSessionOutput loading input (Ok text) =
    (text ≡ []) × ((live : LiveView) × IsSession loading input (Ok live))
IsSessionOutput loading input (Err fault) = IsSession loading input (Err fault)
