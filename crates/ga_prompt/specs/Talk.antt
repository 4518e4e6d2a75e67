-- What is shown at the prompt.
use Rattle.std.specs.Prelude.{◌≡◌, ◌⊎◌, ℕ, Bool, true, false, List, [], ◌∷◌, ◌++◌, MatchBool, codes, drop, length, map, nat_lt, Option, Result, Ok, Err}
use Rattle.std.specs.Io.KnownBytes.{Appends}
use Rattle.std.specs.List.{flat_map}
use Rattle.std.specs.Str.{chars, encode_utf8_all}
use Rattle.ga_debug.specs.Pieces.{pieces}
use Rattle.ga_messages.specs.Shown.{shown_char}
use Rattle.ga_input.specs.declared.fault.ServeError.{ServeError}
use Rattle.ga_transcript.specs.Line.{by_kind, kind_of}
use Rattle.ga_transcript.specs.Live.{IsBack, LiveView, said}
use Rattle.ga_transcript.specs.Reply.{step_of}
use Rattle.ga_prompt.specs.Request.{Nothing, Say, Help, Back, Save, Quit, Unknown, Refused, Request, refusal_name, request_in}
use Rattle.ga_prompt.specs.Saving.{refused_text, saved_text}
use Rattle.ga_prompt.specs.Typed.{Lines, asked_in}

-- lines, each ended by LF
abbrev pub ended : Lines → List ℕ
ended lines = flat_map (λ line. line ++ 10 ∷ []) lines

-- the commands of lines of a transcript
abbrev pub commands_in : Lines → Lines
commands_in [] = []
commands_in (line ∷ lines) =
    by_kind (kind_of line) (λ command. command ∷ commands_in lines) (commands_in lines)
    (commands_in lines)

-- a line for a command that was undone, with its characters as they are shown of any text
abbrev pub undone_line : List ℕ → List ℕ
undone_line command = codes "undone " ++ encode_utf8_all (map shown_char (chars command))

-- the commands of a transcript that aren't in what is left of it, in order
abbrev pub undone_text : List ℕ → List ℕ → List ℕ
undone_text text left =
    ended (map undone_line (commands_in (drop (length (pieces 10 left)) (pieces 10 text))))

-- with one more command a session would have more bytes than an input may have
abbrev pub is_full : LiveView → List ℕ → Bool
is_full live command = nat_lt 1048576 (length (said command live).text)

-- What a request shows, and the session afterwards, if memory is there. The text of `help` is free,
-- and so is what is behind the name of a bad command, and why a session isn't saved.
abbrev pub IsDone : LiveView → Request → LiveView → List ℕ → Type 0
IsDone live Nothing next text = (next ≡ live) × (text ≡ [])
-- the reply, as a transcript has it, unless the session is full
IsDone live (Say command) next text =
    MatchBool (is_full live command)
    ((next ≡ live) × (text ≡ codes "refused TooLong\n"))
    ((next ≡ said command live) × (text ≡ ended (step_of live.program command live.chip).0))
IsDone live (Help name) next text = next ≡ live
IsDone live (Back count) next text =
    IsBack count live next × (text ≡ undone_text live.text next.text)
IsDone live (Save replaces name) next text =
    (next ≡ live) × ((text ≡ saved_text name) ⊎ ((why : List ℕ) × (text ≡ refused_text why)))
IsDone live Quit next text = (next ≡ live) × (text ≡ [])
IsDone live (Unknown line) next text =
    (next ≡ live) × ((hint : List ℕ) × (text ≡ codes "refused BadCommand" ++ (hint ++ 10 ∷ [])))
IsDone live (Refused refusal) next text =
    (next ≡ live) × (text ≡ refused_text (refusal_name refusal))

-- The same, or that memory ran out: then the session is as it was.
abbrev pub IsReply : LiveView → Request → LiveView → List ℕ → Type 0
IsReply live request next text =
    IsDone live request next text ⊎ ((next ≡ live) × (text ≡ codes "refused Memory\n"))

-- the prompt before each line, at a terminal
abbrev pub prompt_text : Bool → List ℕ
prompt_text true = codes "> "
prompt_text false = []

-- and an LF behind the last one, if no `quit` was read
abbrev pub end_text : Bool → List ℕ
end_text true = codes "\n"
end_text false = []

abbrev pub is_quit : Request → Bool
is_quit Quit = true
is_quit request = false

-- What is shown for lines: the reply to each in turn, until `quit` or the end.
abbrev pub Talks : Bool → LiveView → Lines → List ℕ → Type 0
Talks prompts live [] shown = shown ≡ prompt_text prompts ++ end_text prompts
Talks prompts live (line ∷ lines) shown =
    (next : LiveView) × (text : List ℕ) × (rest : List ℕ)
    × IsReply live (request_in line) next text
    × MatchBool (is_quit (request_in line)) (rest ≡ []) (Talks prompts next lines rest)
    × (shown ≡ prompt_text prompts ++ (text ++ rest))

-- What is written if all is well, or a prefix of it.
abbrev pub WritesSo : Option (List ℕ) → Option (List ℕ) → List ℕ → Result Unit ServeError → Type 0
WritesSo old new text (Ok done) = Appends old new text
WritesSo old new text (Err fault) =
    (part : List ℕ) × (rest : List ℕ) × (text ≡ part ++ rest) × Appends old new part

-- What a conversation writes, for the line that was asked last and the bytes that are typed.
abbrev pub HasTalked : Bool → LiveView → List ℕ → List ℕ → Option (List ℕ) → Option (List ℕ)
    → Result Unit ServeError → Type 0
HasTalked prompts live last input old new result =
    (shown : List ℕ) × Talks prompts live (asked_in last input) shown
    × WritesSo old new shown result
