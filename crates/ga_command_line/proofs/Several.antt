-- Several files among the arguments.
use Rattle.std.proofs.Common.{◌≡◌, ◌∙◌, Global, List, Result, Ok, Err, String, Vec, map, string_bytes}
use Rattle.std.specs.Prelude.{IfOk}
use Rattle.clap.specs.Words.{Text}

-- what is known of texts is known in other words
pub if_texts : {E : Type 0} (result : Result (Vec (String Global) Global) E)
    (names texts : List Text)
    → IfOk result (λ made. map string_bytes made.items ≡ names) → names ≡ texts
    → IfOk result (λ made. map string_bytes made.items ≡ texts)
if_texts (Ok made) names texts is same = is ∙ same
if_texts (Err error) names texts is same = tt
