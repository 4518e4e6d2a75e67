-- The witness of a race: a session up to the moment at which both its words are pending.
use Rattle.std.specs.Prelude.{◌≡◌, ◌≤◌, ◌<◌, ◌⊎◌, ◌==◌, ℕ, List, [], ◌∷◌, ◌++◌, codes, length, Result, Ok, Err, if◌then◌else◌}
use Rattle.std.specs.Fmt.{decimal}
use Rattle.std.specs.List.{concat, flat_map}
use Rattle.std.specs.Str.{bytes_eq}
use Rattle.ga_place.specs.Node.{node_text}
use Rattle.ga_place.specs.declared.side.Side.{Side}
use Rattle.ga_chip.specs.Chip.{Chip}
use Rattle.ga_chip.specs.Run.{ran, tries_of, turns_of}
use Rattle.ga_chip.specs.declared.outcome.Try.{Try}
use Rattle.ga_debug.specs.Pieces.{pieces}
use Rattle.ga_debug.specs.Word.{side_letter}
use Rattle.ga_transcript.specs.Check.{Fault}
use Rattle.ga_transcript.specs.Record.{IsRecorded}
use Rattle.ga_race.specs.Way.{ShowsBoth}
use Rattle.ga_race.specs.declared.found.Race.{Race}
use Rattle.ga_race.specs.declared.found.SideWord.{SideWord}
use Rattle.ga_input.specs.declared.fault.ServeError.{ServeError}
use Rattle.ga_input.specs.declared.fault.ServeError.TheVariants.{Output}
use Rattle.ga_input.specs.declared.fault.OutputFault.TheVariants.{TooLong}
use Rattle.ga_input.specs.declared.loading.Loading.{Loading}
use Rattle.ga_input.specs.Loading.{is_head}
use Rattle.ga_input.specs.Session.{source_head}
use Rattle.ga_input.specs.TranscriptFault.{shown_transcript_fault}

-- lines up to the line `go`, each ended by LF
abbrev pub lines_to_go : List (List ℕ) → List ℕ
lines_to_go [] = []
lines_to_go (line ∷ lines) =
    if bytes_eq line (codes "go") then [] else line ++ 10 ∷ lines_to_go lines

-- the head that loads an input, without its line `go`
abbrev pub head_before_go : Loading → List ℕ → List ℕ
head_before_go loading input =
    if is_head loading input then lines_to_go (pieces 10 input) else source_head loading input

-- the line that makes turns, if there are any
abbrev pub turn_line : ℕ → List ℕ
turn_line turns = if turns == 0 then [] else codes "> turn " ++ decimal turns ++ codes "\n"

-- a try of a node that names a side
abbrev pub try_text : ℕ → Side → List ℕ
try_text name side = codes "try " ++ node_text name ++ 32 ∷ side_letter side

-- a line for each try
unfoldable pub try_line : Try → List ℕ
try_line one = codes "> " ++ try_text one.node one.side ++ 10 ∷ []

abbrev pub try_lines : List Try → List ℕ
try_lines tries = flat_map try_line tries

-- the try by which a race's reader takes a word, in quotes
unfoldable pub quoted_try : Race → SideWord → List ℕ
quoted_try race word = 96 ∷ try_text race.take.reader word.side ++ 96 ∷ []

-- a comment on what comes, and one on the two tries that differ
unfoldable pub first_comment : Race → List ℕ
first_comment race =
    codes "\\ both words come before " ++ node_text race.take.reader ++ codes " reads\n"

unfoldable pub last_comment : Race → List ℕ
last_comment race =
    concat (codes "\\ now " ∷ quoted_try race race.take.taken ∷ codes " takes the word of "
    ∷ node_text race.take.taken.writer ∷ codes ", and " ∷ quoted_try race race.left_out
    ∷ codes " that of " ∷ node_text race.left_out.writer ∷ codes "\n" ∷ [])

-- the commands that show the ports of a writer, and the registers of the reader
unfoldable pub ports_line : ℕ → List ℕ
ports_line name = codes "> ports " ++ node_text name ++ codes "\n"

unfoldable pub regs_line : ℕ → List ℕ
regs_line name = codes "> regs " ++ node_text name ++ codes "\n"

-- both words and their reader, and the choice
unfoldable pub words_shown : Race → List ℕ
words_shown race =
    concat (ports_line race.take.taken.writer ∷ ports_line race.left_out.writer
    ∷ regs_line race.take.reader ∷ last_comment race ∷ [])

-- The session of a witness: the head of the input; the turns before the race's take; the tries of a
-- way; and the commands that show both words and their reader.
unfoldable pub witness_session : Loading → List ℕ → Race → List Try → List ℕ
witness_session loading input race way =
    concat (head_before_go loading input ∷ codes "go\n" ∷ first_comment race
    ∷ turn_line race.take.turn ∷ try_lines way ∷ words_shown race ∷ [])

-- The tries of a way, after the turns before a race's take, lead a chip to a moment at which both
-- words of the race are pending.
abbrev pub LeadsTo : Chip → Race → List Try → Type 0
LeadsTo chip race way = ShowsBoth (ran (ran chip (turns_of race.take.turn)) (tries_of way)) race

-- What is recorded of a session, if both have at most 1,048,576 bytes; or the fault of a longer
-- one; or the first fault of the recording.
abbrev pub IsRecording : List ℕ → Result (List ℕ) ServeError → Type 0
IsRecording session (Ok text) =
    IsRecorded session (Ok text) × (length session ≤ 1048576) × (length text ≤ 1048576)
IsRecording session (Err fault) =
    ((fault ≡ Output TooLong) × (1048576 < length session))
    ⊎ (((text : List ℕ) × IsRecorded session (Ok text) × (fault ≡ Output TooLong)
    × (1048576 < length text))
    ⊎ ((error : Fault) × IsRecorded session (Err error)
    × (shown_transcript_fault session error ≡ fault)))

-- The witness of a race on the chip of an input: what is recorded of a session whose tries lead the
-- chip to the race.
abbrev pub IsWitness : Loading → List ℕ → Chip → Race → Result (List ℕ) ServeError → Type 0
IsWitness loading input chip race answer =
    (way : List Try) × LeadsTo chip race way
    × IsRecording (witness_session loading input race way) answer
