-- One line of a conversation.
use Rattle.std.specs.Prelude.{◌≡◌, ◌⊎◌, ◌-◌, ◌^◌, ℕ, Bool, true, false, List, [], ◌∷◌, ◌++◌, IfSome, Option, Some, Result, Ok, Err, not}
use Rattle.std.specs.Io.KnownBytes.{Appends}
use Rattle.ga_input.specs.Writing.{calls_of, has_failed}
use Rattle.ga_input.specs.declared.fault.ServeError.{ServeError}
use Rattle.ga_input.specs.declared.fault.ServeError.TheVariants.{Write}
use Rattle.ga_input.specs.declared.writes.Writes.{Writes}
use Rattle.ga_transcript.specs.Live.{LiveView}
use Rattle.ga_prompt.specs.declared.conversation.Conversation.{Conversation}
use Rattle.ga_prompt.specs.Reading.{ReadFails}
use Rattle.ga_prompt.specs.Request.{request_in}
use Rattle.ga_prompt.specs.Saving.{Files, IsSaved, SavesNone}
use Rattle.ga_prompt.specs.Talk.{IsReply, WritesSo, end_text, is_quit, prompt_text}
use Rattle.ga_prompt.specs.Typed.{asked_in}

-- the session
abbrev pub live_of : Conversation → LiveView
live_of conversation = conversation.live

-- what was asked last, by a line that wasn't empty
abbrev pub last_of : Conversation → List ℕ
last_of conversation = conversation.typed.last.items

-- whether a prompt comes before each line
abbrev pub prompts_of : Conversation → Bool
prompts_of conversation = conversation.prompts

-- how many reads may still be made
abbrev pub reads_left : Conversation → ℕ
reads_left conversation = conversation.typed.reads.left

-- `Write` is answered only after a write or a flush failed, or after 2^64 - 1 writes of one text.
abbrev pub WriteFails : Writes → ServeError → Type 0
WriteFails writes fault =
    (fault ≡ Write) × ((has_failed writes ≡ true) ⊎ (calls_of writes ≡ 2 ^ 64 - 1))

-- the read or the write that a fault reports
abbrev pub Fails : Conversation → ServeError → Type 0
Fails conversation fault =
    ReadFails conversation.typed.reads fault ⊎ WriteFails conversation.writes fault

-- A line was read, no more and no less; it was done; and this was shown for it.
abbrev pub IsAnswered : Conversation → Conversation → Option (List ℕ) → Option (List ℕ)
    → Option Files → Option Files → List ℕ → Bool → Type 0
IsAnswered old new input left saved saves shown goes_on =
    (asked : List ℕ) × (text : List ℕ)
    × IfSome input (λ bytes. (rest : List ℕ) × (left ≡ Some rest)
    × (asked_in (last_of old) bytes ≡ asked ∷ asked_in asked rest))
    × (last_of new ≡ asked)
    × IsReply (live_of old) (request_in asked) (live_of new) text
    × IsSaved (live_of old) (request_in asked) text saved saves
    × (shown ≡ prompt_text (prompts_of old) ++ text)
    × (goes_on ≡ not (is_quit (request_in asked)))

-- no line was left
abbrev pub IsEnded : Conversation → Conversation → Option (List ℕ) → Option Files → Option Files
    → List ℕ → Bool → Type 0
IsEnded old new input saved saves shown goes_on =
    IfSome input (λ bytes. asked_in (last_of old) bytes ≡ []) × (live_of new ≡ live_of old)
    × SavesNone saved saves × (shown ≡ prompt_text (prompts_of old) ++ end_text (prompts_of old))
    × (goes_on ≡ false)

abbrev pub IsTurn : Conversation → Conversation → Option (List ℕ) → Option (List ℕ)
    → Option Files → Option Files → List ℕ → Bool → Type 0
IsTurn old new input left saved saves shown goes_on =
    IsAnswered old new input left saved saves shown goes_on
    ⊎ IsEnded old new input saved saves shown goes_on

-- One line, by the bytes of the reader and the writer, and what is saved. If all is well, what is
-- shown for it was written. After a fault a prefix of that was; or the fault came before a line was
-- read, and a prefix of the prompt was.
abbrev pub DoesLine : Conversation → Conversation → Option (List ℕ) → Option (List ℕ)
    → Option (List ℕ) → Option (List ℕ) → Option Files → Option Files → Result Bool ServeError
    → Type 0
DoesLine old new input left before after saved saves (Ok goes_on) =
    (shown : List ℕ) × IsTurn old new input left saved saves shown goes_on
    × Appends before after shown
DoesLine old new input left before after saved saves (Err fault) =
    ((live_of new ≡ live_of old) × SavesNone saved saves
    × WritesSo before after (prompt_text (prompts_of old)) (Err fault))
    ⊎ ((shown : List ℕ) × (goes_on : Bool)
    × IsTurn old new input left saved saves shown goes_on × WritesSo before after shown (Err fault))
