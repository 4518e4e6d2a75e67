-- The replies that are made as a text, and what was written so far.
use Rattle.std.specs.Prelude.{◌≡◌, ◌++◌, ℕ, Bool, List, Option, Some, IfSome}
use Rattle.std.specs.Io.KnownBytes.{Appends}
use Rattle.ga_transcript.specs.Live.{LiveView}
use Rattle.ga_prompt.specs.declared.conversation.Conversation.{Conversation}
use Rattle.ga_prompt.specs.Conversation.{last_of, live_of, prompts_of}
use Rattle.ga_prompt.specs.Request.{Request, Say, Back}
use Rattle.ga_prompt.specs.Talk.{IsDone, Talks}
use Rattle.ga_prompt.specs.Typed.{Lines, asked_in}

-- those to requests that leave the session as it is
abbrev pub IsTold : LiveView → Request → List ℕ → Type 0
IsTold live (Say command) text = Unit {0}
IsTold live (Back count) text = Unit {0}
IsTold live request text = IsDone live request live text

-- Lines of which a part was answered: the text that was written, and whatever is shown for those
-- that are left make what is shown for all.
abbrev pub IsPart : Bool → LiveView → Lines → List ℕ → LiveView → Lines → Type 0
IsPart prompts first all front live left =
    (shown : List ℕ) → Talks prompts live left shown → Talks prompts first all (front ++ shown)

-- so far, for the bytes of the reader and the writer
abbrev pub IsSoFar : Conversation → Option (List ℕ) → Option (List ℕ) → Conversation
    → Option (List ℕ) → Option (List ℕ) → Type 0
IsSoFar first input old now left new =
    IfSome input (λ all. (front : List ℕ) × (rest : List ℕ) × (left ≡ Some rest)
    × Appends old new front
    × IsPart (prompts_of first) (live_of first) (asked_in (last_of first) all) front (live_of now)
    (asked_in (last_of now) rest))
