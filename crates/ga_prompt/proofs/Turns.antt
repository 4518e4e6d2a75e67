-- One line of a conversation, put together from what was read, done and written.
use Rattle.std.proofs.Common.{◌≡◌, inl, inr, ℕ, Bool, false, List, [], ◌++◌, Option, Ok, Err, true, append-nil, refl, sym}
use Rattle.std.specs.Prelude.{not}
use Rattle.std.specs.Io.KnownBytes.{Appends}
use Rattle.std.proofs.KnownBytes.{Appends-trans}
use Rattle.ga_input.specs.declared.fault.ServeError.{ServeError}
use Rattle.ga_prompt.specs.declared.conversation.Conversation.{Conversation}
use Rattle.ga_prompt.specs.Conversation.{DoesLine, IsTurn, last_of, live_of, prompts_of}
use Rattle.ga_prompt.specs.Request.{request_in}
use Rattle.ga_prompt.specs.Saving.{Files, IsSaved}
use Rattle.ga_prompt.specs.Talk.{IsReply, WritesSo, end_text, is_quit, prompt_text}
use Rattle.ga_prompt.specs.inner.Typed.{IsNext}
use Rattle.ga_prompt.proofs.Saved.{none_saved}
use Rattle.ga_prompt.proofs.Written.{wrote_then}

abbrev Bytes : Type 0
Bytes = Option (List ℕ)

-- what is shown of a turn behind the prompt couldn't be written
turned : (old new : Conversation) (input left before mid after : Bytes)
    (saved saves : Option Files) (text : List ℕ) (going : Bool) (fault : ServeError)
    → IsTurn old new input left saved saves (prompt_text (prompts_of old) ++ text) going
    → Appends before mid (prompt_text (prompts_of old)) → WritesSo mid after text (Err fault)
    → DoesLine old new input left before after saved saves (Err fault)
turned old new input left before mid after saved saves text going fault turn first more = inr (
  prompt_text (prompts_of old) ++ text,
  going,
  turn,
  wrote_then before mid after (prompt_text (prompts_of old)) text (Err fault) first more,
)

-- the input ended
ended_turn : (old new : Conversation) (input left : Bytes) (saved : Option Files)
    (asked : List ℕ) → live_of new ≡ live_of old → IsNext (last_of old) asked input left (Ok false)
    → IsTurn old new input left saved saved
    (prompt_text (prompts_of old) ++ end_text (prompts_of old)) false
ended_turn old new input left saved asked same none =
    inr (none, same, none_saved saved, refl, refl)

pub ends : (old new : Conversation) (input left before mid after : Bytes) (saved : Option Files)
    (asked : List ℕ) → live_of new ≡ live_of old → IsNext (last_of old) asked input left (Ok false)
    → Appends before mid (prompt_text (prompts_of old))
    → Appends mid after (end_text (prompts_of old))
    → DoesLine old new input left before after saved saved (Ok false)
ends old new input left before mid after saved asked same none first more = (
  prompt_text (prompts_of old) ++ end_text (prompts_of old),
  ended_turn old new input left saved asked same none,
  Appends-trans before mid after (prompt_text (prompts_of old)) (end_text (prompts_of old)) first
      more,
)

pub fails_to_end : (old new : Conversation) (input left before mid after : Bytes)
    (saved : Option Files) (asked : List ℕ) (fault : ServeError) → live_of new ≡ live_of old
    → IsNext (last_of old) asked input left (Ok false)
    → Appends before mid (prompt_text (prompts_of old))
    → WritesSo mid after (end_text (prompts_of old)) (Err fault)
    → DoesLine old new input left before after saved saved (Err fault)
fails_to_end old new input left before mid after saved asked fault same none first more =
    turned old new input left before mid after saved saved (end_text (prompts_of old)) false
    fault (ended_turn old new input left saved asked same none) first more

-- a line was answered
answered_turn : (old new : Conversation) (input left : Bytes) (saved saves : Option Files)
    (text : List ℕ) → IsNext (last_of old) (last_of new) input left (Ok true)
    → IsReply (live_of old) (request_in (last_of new)) (live_of new) text
    → IsSaved (live_of old) (request_in (last_of new)) text saved saves
    → IsTurn old new input left saved saves (prompt_text (prompts_of old) ++ text)
    (not (is_quit (request_in (last_of new))))
answered_turn old new input left saved saves text next reply kept =
    inl (last_of new, text, next, refl, reply, kept, refl, refl)

pub answers : (old new : Conversation) (input left before mid after : Bytes)
    (saved saves : Option Files) (text : List ℕ)
    → IsNext (last_of old) (last_of new) input left (Ok true)
    → IsReply (live_of old) (request_in (last_of new)) (live_of new) text
    → IsSaved (live_of old) (request_in (last_of new)) text saved saves
    → Appends before mid (prompt_text (prompts_of old)) → Appends mid after text
    → DoesLine old new input left before after saved saves
    (Ok (not (is_quit (request_in (last_of new)))))
answers old new input left before mid after saved saves text next reply kept first more = (
  prompt_text (prompts_of old) ++ text,
  answered_turn old new input left saved saves text next reply kept,
  Appends-trans before mid after (prompt_text (prompts_of old)) text first more,
)

pub fails_to_answer : (old new : Conversation) (input left before mid after : Bytes)
    (saved saves : Option Files) (text : List ℕ) (fault : ServeError)
    → IsNext (last_of old) (last_of new) input left (Ok true)
    → IsReply (live_of old) (request_in (last_of new)) (live_of new) text
    → IsSaved (live_of old) (request_in (last_of new)) text saved saves
    → Appends before mid (prompt_text (prompts_of old)) → WritesSo mid after text (Err fault)
    → DoesLine old new input left before after saved saves (Err fault)
fails_to_answer old new input left before mid after saved saves text fault next reply kept first
    more =
    turned old new input left before mid after saved saves text
    (not (is_quit (request_in (last_of new)))) fault
    (answered_turn old new input left saved saves text next reply kept) first more
