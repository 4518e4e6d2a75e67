-- Two answers to one transcript are equal.
use Rattle.std.proofs.Common.{◌≡◌, ◌∙◌, inl, inr, ℕ, Bool, true, List, None, Some, Result, Ok, Err, ap, sym}
use Rattle.ga_asm.specs.Text.{AtMostOne}
use Rattle.ga_debug.specs.Beginning.{Start}
use Rattle.ga_debug.proofs.OneReplay.{one_loaded}
use Rattle.ga_transcript.specs.Check.{Fault, IfMet, IsBehindHead, IsChecked, IsPassed, checked_from}
use Rattle.ga_transcript.specs.Record.{IsRecorded, recorded_from}
use Rattle.ga_transcript.specs.Unmet.{unmet_in, unmet_of}
use Rattle.ga_transcript.specs.declared.unmet.Unmet.{Unmet}

pub one_behind : {A : Type 0} (text : List ℕ) (from : Start → Result A Fault)
    → AtMostOne (IsBehindHead text from)
one_behind text from (Ok one) (Ok other) (start, p, is) (start', q, is') =
    let same : start ≡ start' = cc (one_loaded text (Ok start) (Ok start') p q) in
    sym is ∙ ap from same ∙ is'
one_behind text from (Ok one) (Err other) (start, p, is) (inl (error, q, told)) =
    absurd (cc (one_loaded text (Ok start) (Err error) p q))
one_behind text from (Ok one) (Err other) (start, p, is) (inr (start', q, is')) =
    let same : start ≡ start' = cc (one_loaded text (Ok start) (Ok start') p q) in
    sym is ∙ ap from same ∙ is'
one_behind text from (Err one) (Ok other) (inl (error, p, told)) (start, q, is) =
    absurd (cc (one_loaded text (Err error) (Ok start) p q))
one_behind text from (Err one) (Ok other) (inr (start, p, is)) (start', q, is') =
    let same : start ≡ start' = cc (one_loaded text (Ok start) (Ok start') p q) in
    sym is ∙ ap from same ∙ is'
one_behind text from (Err one) (Err other) (inl (error, p, told)) (inl (error', q, told')) =
    cc (told, told', one_loaded text (Err error) (Err error') p q)
one_behind text from (Err one) (Err other) (inl (error, p, told)) (inr (start, q, is)) =
    absurd (cc (one_loaded text (Err error) (Ok start) p q))
one_behind text from (Err one) (Err other) (inr (start, p, is)) (inl (error, q, told)) =
    absurd (cc (one_loaded text (Ok start) (Err error) p q))
one_behind text from (Err one) (Err other) (inr (start, p, is)) (inr (start', q, is')) =
    let same : start ≡ start' = cc (one_loaded text (Ok start) (Ok start') p q) in
    sym is ∙ ap from same ∙ is'

pub one_checked : (text : List ℕ) → AtMostOne (IsChecked text)
one_checked text = one_behind text checked_from

-- a value that passes isn't right beside expectations that aren't met
not_both : {A : Type 0} (text : List ℕ) (passes : A → Bool) (one other : A) (found : Unmet)
    → one ≡ other → (passes one ≡ true → unmet_of (unmet_in text) ≡ None)
    → passes other ≡ true → unmet_of (unmet_in text) ≡ Some found → ⊥
not_both text passes one other found same none good some =
    cc (none (ap passes same ∙ good), some)

pub one_met : {A : Type 0} (text : List ℕ) (passes : A → Bool) (Is : Result A Fault → Type 0)
    → AtMostOne Is → AtMostOne (IfMet text passes Is)
one_met text passes Is one_of (Ok one) (Ok other) (p, none) (q, none') =
    one_of (Ok one) (Ok other) p q
one_met text passes Is one_of (Ok one) (Err other) (p, none) (inl q) =
    one_of (Ok one) (Err other) p q
one_met text passes Is one_of (Ok one) (Err other) (p, none)
    (inr (value, found, q, good, some, is)) =
    absurd
    (not_both text passes one value found (cc (one_of (Ok one) (Ok value) p q)) none good some)
one_met text passes Is one_of (Err one) (Ok other) (inl p) (q, none) =
    one_of (Err one) (Ok other) p q
one_met text passes Is one_of (Err one) (Ok other) (inr (value, found, p, good, some, is))
    (q, none) =
    absurd
    (not_both text passes other value found (cc (one_of (Ok other) (Ok value) q p)) none good some)
one_met text passes Is one_of (Err one) (Err other) (inl p) (inl q) =
    one_of (Err one) (Err other) p q
one_met text passes Is one_of (Err one) (Err other) (inl p)
    (inr (value, found, q, good, some, is)) =
    absurd (cc (one_of (Err one) (Ok value) p q))
one_met text passes Is one_of (Err one) (Err other) (inr (value, found, p, good, some, is))
    (inl q) =
    absurd (cc (one_of (Ok value) (Err other) p q))
one_met text passes Is one_of (Err one) (Err other) (inr (value, found, p, good, some, is))
    (inr (value', found', q, good', some', is')) =
    cc (is, is', sym some ∙ some')

pub one_passed : (text : List ℕ) → AtMostOne (IsPassed text)
one_passed text = one_met text (λ count. true) (IsChecked text) (one_checked text)

pub one_recorded : (text : List ℕ) → AtMostOne (IsRecorded text)
one_recorded text = one_behind text (recorded_from text)
