use Rattle.std.proofs.Common.{◌≡◌, ◌∙◌, ◌<◌, ◌^◌, ◌≤◌, ℕ, List, None, Some, Option, Result, Ok, Err, ap, refl, sym, subst, arith}
use Rattle.std.specs.Prelude.{IsSomeAnd, IfSome}
use Rattle.std.specs.Str.Parse.{ParsesUnsigned, ExplainsUnsignedError, HasUnsignedDigitsIfOk}
use Rattle.clap.specs.Words.{TriesOne, found_of}
use Rattle.clap.proofs.WalkLemmas.{one_text-rows}
use Rattle.ga_command_line.specs.Number.{WritesNumber}
use Rattle.ga_command_line.proofs.number.number_if.Goals as goal
use Rattle.ga_command_line.proofs.number.number_if.Goals.{in_default-via-in-Ok-Some+then-least-number+else-number-most, in_default-via-in-Ok-Some+else-least-number, in_default-via-in_default}

-- what a text that may be there writes: a number, or there is none
abbrev WritesIf : Option (List ℕ) → Option ℕ → Type 0
WritesIf text None = text ≡ None
WritesIf text (Some number) = IsSomeAnd text (λ t. WritesNumber t number)

-- what was read of such a text is what it writes
read_writes : {E : Type 0} (text : Option (List ℕ)) (read : Result (Option ℕ) E) (number : Option ℕ)
    (gives : List ℕ → Result ℕ E → Type 0)
    → ((t : List ℕ) (n : ℕ) → gives t (Ok n) → WritesNumber t n) → (text ≡ None → read ≡ Ok None)
    → ((t : List ℕ) → text ≡ Some t → TriesOne gives t read) → read ≡ Ok number
    → WritesIf text number
read_writes None read None gives writes none value is = refl
read_writes None read (Some n) gives writes none value is =
    absurd (let bad = sym (none refl) ∙ is in cc)
read_writes (Some t) read None gives writes none value is =
    absurd (subst (TriesOne gives t) is (value t refl))
read_writes (Some t) read (Some n) gives writes none value is =
    writes t n (subst (TriesOne gives t) is (value t refl))

pub returns-in-Ok-None-clause-number : goal.returns-in-Ok-None-clause-number
returns-in-Ok-None-clause-number c =
    subst (λ (text : Option (List ℕ)). WritesIf text None)
    (one_text-rows (found_of c.args.found.now) c.args.id.now)
    (read_writes _ c.try_get_one.result None
    (λ bs r. ParsesUnsigned 32 10 bs r × ExplainsUnsignedError 10 bs r × HasUnsignedDigitsIfOk bs r)
    (λ t n given. (given.0.0.0, given.0.1)) c.try_get_one.ensures.none c.try_get_one.ensures.value
    (c.in-Ok-None.is ∙ ap Ok c.in-Ok-None.field-0-is))

pub returns-in-Ok-Some-clause-number : goal.returns-in-Ok-Some-clause-number
returns-in-Ok-Some-clause-number c =
    let number = c.in-Ok-Some.number in
    subst (λ (text : Option (List ℕ)). WritesIf text (Some number))
    (one_text-rows (found_of c.args.found.now) c.args.id.now)
    (read_writes _ c.try_get_one.result (Some number)
    (λ bs r. ParsesUnsigned 32 10 bs r × ExplainsUnsignedError 10 bs r × HasUnsignedDigitsIfOk bs r)
    (λ t n given. (given.0.0.0, given.0.1)) c.try_get_one.ensures.none c.try_get_one.ensures.value
    (c.in-Ok-Some.is ∙ ap Ok c.in-Ok-Some.field-0-is))

abbrev IsSmall : Option ℕ → Type 0
IsSmall number = IfSome number (λ n. n < 2 ^ 32)

-- what such a text writes is read, if only texts are refused that write no number of 32 bits
reads_it : {E : Type 0} (text : Option (List ℕ)) (read : Result (Option ℕ) E) (number : Option ℕ)
    (gives : List ℕ → Result ℕ E → Type 0)
    → ((t : List ℕ) (n : ℕ) → gives t (Ok n) → WritesNumber t n)
    → ((t : List ℕ) (e : E) (n : ℕ) → gives t (Err e) → WritesNumber t n → n < 2 ^ 32 → ⊥)
    → IsSmall number → WritesIf text number → (text ≡ None → read ≡ Ok None)
    → ((t : List ℕ) → text ≡ Some t → TriesOne gives t read) → read ≡ Ok number
reads_it text read None gives reads refuses small writes none value = none writes
reads_it None read (Some n) gives reads refuses small writes none value = absurd writes
reads_it (Some t) (Ok None) (Some n) gives reads refuses small writes none value =
    absurd (value t refl)
reads_it (Some t) (Ok (Some m)) (Some n) gives reads refuses small writes none value =
    ap (λ (k : ℕ). Ok (Some k)) ((reads t m (value t refl)).1 ∙ sym writes.1)
reads_it (Some t) (Err e) (Some n) gives reads refuses small writes none value =
    absurd (refuses t e n (value t refl) writes small)

in_range : (number : Option ℕ) (least most : ℕ) → most < 2 ^ 32
    → IfSome number (λ n. (least ≤ n) × (n ≤ most)) → IsSmall number
in_range None least most fits within = tt
in_range (Some n) least most fits within = omega arith

-- what was read lies in the range
its_range : {E : Type 0} {number : Option ℕ} (found : Option ℕ) (n least most : ℕ)
    → ◌≡◌ {A = Result (Option ℕ) E} (Ok number) (Ok found) → found ≡ Some n
    → IfSome number (λ n. (least ≤ n) × (n ≤ most)) → (least ≤ n) × (n ≤ most)
its_range {number = number} found n least most e is within =
    let same : number ≡ Some n = cc in
    subst (λ (o : Option ℕ). IfSome o (λ n. (least ≤ n) × (n ≤ most))) same within

pub returns-in_default-clause-right : goal.returns-in_default-clause-right
returns-in_default-clause-right c = λ number within at.
    let text = subst (λ (text : Option (List ℕ)). WritesIf text number)
    (sym (one_text-rows (found_of c.args.found.now) c.args.id.now)) at in
    let read = reads_it _ c.try_get_one.result number
    (λ bs r. ParsesUnsigned 32 10 bs r × ExplainsUnsignedError 10 bs r × HasUnsignedDigitsIfOk bs r)
    (λ t n given. (given.0.0.0, given.0.1)) (λ t e n given writes small.
    given.0 (writes.0, omega (arith, writes.1))) (in_range number c.args.least c.args.most
    (omega arith) within) text c.try_get_one.ensures.none c.try_get_one.ensures.value in
    elim c.in_default.branch [
      | in_default-via-in-Ok-Some+then-least-number+else-number-most w ↦
          let there = its_range w.in-Ok-Some.field-0 w.in-Ok-Some.number c.args.least c.args.most
          (sym read ∙ w.in-Ok-Some.is) w.in-Ok-Some.field-0-is within in absurd (omega arith)
      | in_default-via-in-Ok-Some+else-least-number w ↦
          let there = its_range w.in-Ok-Some.field-0 w.in-Ok-Some.number c.args.least c.args.most
          (sym read ∙ w.in-Ok-Some.is) w.in-Ok-Some.field-0-is within in absurd (omega arith)
      | in_default-via-in_default w ↦ let error = w.in_default.is in absurd (cc)
    ]
