-- What a reply says was saved.
use Rattle.std.proofs.Common.{inr, Option, Some, None, codes, refl}
use Rattle.ga_transcript.specs.Live.{LiveView}
use Rattle.ga_prompt.specs.Request.{Nothing, Say, Help, Back, Save, Quit, Unknown, Refused, Request}
use Rattle.ga_prompt.specs.Saving.{Files, IsSaved, SavesNone}

pub none_saved : (saved : Option Files) → SavesNone saved saved
none_saved None = tt
none_saved (Some files) = refl

-- nothing, if memory ran out
pub memory_saved : (live : LiveView) (request : Request) (saved saves : Option Files)
    → SavesNone saved saves → IsSaved live request (codes "refused Memory\n") saved saves
memory_saved live Nothing saved saves none = none
memory_saved live (Say command) saved saves none = none
memory_saved live (Help name) saved saves none = none
memory_saved live (Back count) saved saves none = none
memory_saved live (Save replaces name) saved saves none = inr ((codes "Memory", refl), none)
memory_saved live Quit saved saves none = none
memory_saved live (Unknown line) saved saves none = none
memory_saved live (Refused refusal) saved saves none = none
