-- What was written of texts, one behind the other.
use Rattle.std.proofs.Common.{◌∙◌, ℕ, List, ◌++◌, Option, Result, Ok, Err, ap, append_assoc, sym, take, drop, take-append-drop}
use Rattle.std.specs.Prelude.{OnErr, OnOk}
use Rattle.std.specs.Io.KnownBytes.{Appends}
use Rattle.std.proofs.KnownBytes.{Appends-trans}
use Rattle.ga_input.specs.declared.fault.ServeError.{ServeError}
use Rattle.ga_prompt.specs.Talk.{WritesSo}

-- a text that was written whole, and what is written of another one behind it
pub wrote_then : (a b c : Option (List ℕ)) (front text : List ℕ) (result : Result Unit ServeError)
    → Appends a b front → WritesSo b c text result → WritesSo a c (front ++ text) result
wrote_then a b c front text (Ok done) before after = Appends-trans a b c front text before after
wrote_then a b c front text (Err fault) before (part, rest, is, after) = (
  front ++ part,
  rest,
  ap (λ t. front ++ t) is ∙ sym (append_assoc front part rest),
  Appends-trans a b c front part before after,
)

-- what a call wrote of a text
pub wrote_text : (a b : Option (List ℕ)) (text : List ℕ) (result : Result Unit ServeError)
    → OnOk result (Appends a b text)
    → OnErr result ((count : ℕ) × Appends a b (take count text)) → WritesSo a b text result
wrote_text a b text (Ok done) all part = all
wrote_text a b text (Err fault) all (count, part) =
    (take count text, drop count text, sym (take-append-drop count text), part)

-- a prefix of a text is a prefix of a longer one
pub wrote_part : (a b : Option (List ℕ)) (front behind : List ℕ) (fault : ServeError)
    → WritesSo a b front (Err fault) → WritesSo a b (front ++ behind) (Err fault)
wrote_part a b front behind fault (part, rest, is, wrote) =
    (part, rest ++ behind, ap (λ t. t ++ behind) is ∙ append_assoc part rest behind, wrote)
