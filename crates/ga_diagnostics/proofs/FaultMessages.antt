-- The messages of faults, one behind the other.
use Rattle.std.proofs.Common.{◌<◌, ◌≤◌, ℕ, ◌+◌, List, [], ◌++◌, append-nil, append_assoc, drop, get_or, length, refl, subst, sym}
use Rattle.std.proofs.lemmas.List.{drop_all, drop_more}
use Rattle.ga_faults.specs.declared.fault.Fault.{Fault}
use Rattle.ga_messages.specs.declared.message.Form.{Form}
use Rattle.ga_diagnostics.specs.FileFaults.{AreFaultMessages, IsFaultMessage}
use Rattle.ga_diagnostics.specs.Lines.{Origins}

-- with messages of the faults from an index on behind what is written, it is that of all
abbrev pub Continues : Origins → Form → List ℕ → List Fault → ℕ → List ℕ → Type 0
Continues origins form text found index told =
    (rest : List ℕ) → AreFaultMessages origins form text (drop index found) rest
    → AreFaultMessages origins form text found (told ++ rest)

pub one_more : (origins : Origins) (form : Form) (text : List ℕ) (found : List Fault) (index : ℕ)
    (default : Fault) (told message : List ℕ) → index < length found
    → IsFaultMessage origins form text (get_or found index default) message
    → Continues origins form text found index told
    → Continues origins form text found (index + 1) (told ++ message)
one_more origins form text found index default told message few is continues rest are =
    let Are = AreFaultMessages origins form text in
    let left : Are (drop index found) (message ++ rest) =
    subst (λ faults. Are faults (message ++ rest)) (sym (drop_more found index default few))
    (message, is, (rest, are, refl)) in
    subst (Are found) (sym (append_assoc told message rest)) (continues (message ++ rest) left)

pub none_left : (origins : Origins) (form : Form) (text : List ℕ) (found : List Fault) (index : ℕ)
    (told : List ℕ) → length found ≤ index → Continues origins form text found index told
    → AreFaultMessages origins form text found told
none_left origins form text found index told past continues =
    let Are = AreFaultMessages origins form text in
    subst (Are found) (append-nil told)
    (continues [] (subst (λ faults. Are faults []) (sym (drop_all index found past)) refl))
