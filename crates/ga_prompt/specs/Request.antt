-- What a line at the prompt asks for.
use Rattle.std.specs.Prelude.{◌==◌, ℕ, Bool, true, false, List, [], ◌∷◌, Option, None, Some, codes, length, nat_lt, if◌then◌else◌}
use Rattle.std.specs.List.{after_first, before_first, position_or_len}
use Rattle.std.specs.Option.{option_map_or}
use Rattle.std.specs.Str.{is_utf8}
use Rattle.ga_debug.specs.Command.{names_command}
use Rattle.ga_debug.specs.Word.{count_of}
use Rattle.ga_prompt.specs.Own.{own_named}
use Rattle.ga_prompt.specs.declared.own.Own.{Own}
use Rattle.ga_prompt.specs.declared.own.Own.TheVariants as own
use Rattle.ga_prompt.specs.declared.refusal.Refusal.{Refusal}
use Rattle.ga_prompt.specs.declared.refusal.Refusal.TheVariants.{TooLong, BadText, BadCount, NoName, BadCommand}

abbrev pub refusal_name : Refusal → List ℕ
refusal_name TooLong = codes "TooLong"
refusal_name BadText = codes "BadText"
refusal_name BadCount = codes "BadCount"
refusal_name NoName = codes "NoName"
refusal_name BadCommand = codes "BadCommand"

pub data Request : Type 0 where
  -- nothing
  Nothing : Request
  -- that a command of transcripts is done
  Say : List ℕ → Request
  -- help on a command, or on all
  Help : List ℕ → Request
  -- that the last commands are undone, by their number
  Back : ℕ → Request
  -- that the session is saved in the file of a name, which may replace one
  Save : Bool → List ℕ → Request
  -- the end
  Quit : Request
  -- something that is no command
  Unknown : List ℕ → Request
  -- nothing that can be done
  Refused : Refusal → Request

-- A line is its first word, and what is behind the first space, if it has one.
abbrev pub first_word : List ℕ → List ℕ
first_word line = before_first (λ c. c == 32) line

abbrev pub behind_word : List ℕ → Option (List ℕ)
behind_word line =
    if nat_lt (position_or_len (λ c. c == 32) line) (length line)
    then Some (after_first (λ c. c == 32) line)
    else None

-- a file needs a name
abbrev pub named_file : Bool → Option (List ℕ) → Request
named_file replaces None = Refused NoName
named_file replaces (Some []) = Refused NoName
named_file replaces (Some (c ∷ name)) = Save replaces (c ∷ name)

-- what each command of the prompt asks for, by what is behind its name
abbrev pub own_request : Own → Option (List ℕ) → Request
own_request own.Help None = Help []
own_request own.Help (Some name) = Help name
own_request own.Back None = Back 1
own_request own.Back (Some count) = option_map_or Back (count_of count) (Refused BadCount)
own_request own.Save behind = named_file false behind
own_request own.Replace behind = named_file true behind
own_request own.Quit None = Quit
own_request own.Quit (Some words) = Refused BadCommand

-- a command of transcripts, or something that is none
abbrev pub command_request : List ℕ → Request
command_request line = if names_command line then Say line else Unknown line

-- a text is empty, or its first word names a command of the prompt, or one of transcripts, or none
unfoldable pub text_request : List ℕ → Request
text_request line =
    if length line == 0 then Nothing
    else option_map_or (λ own. own_request own (behind_word line)) (own_named (first_word line))
    (command_request line)

-- A line has at most 65,536 bytes, and is UTF-8.
unfoldable pub request_in : List ℕ → Request
request_in line =
    if nat_lt 65536 (length line) then Refused TooLong
    else if is_utf8 line then text_request line else Refused BadText
