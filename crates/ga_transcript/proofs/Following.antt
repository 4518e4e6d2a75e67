-- What is recorded holds, and is recorded again.
use Rattle.std.proofs.Common.{◌≡◌, ◌∙◌, ℕ, suc, ◌+◌, true, List, [], ◌∷◌, ◌++◌, Ok, Some, None, ap, append-nil, arith, refl, rules, sym}
use Rattle.std.proofs.lemmas.Slice.Eq.{bytes_eq-Decides}
use Rattle.std.specs.List.{All}
use Rattle.std.proofs.lemmas.List.Elements.{All-head, All-tail}
use Rattle.std.specs.Prelude.{◌&&◌}
use Rattle.std.specs.Str.{bytes_eq}
use Rattle.ga_transcript.specs.Line.{Kind, Command, Note, Reply, by_kind, kind_of}
use Rattle.ga_transcript.specs.Following.{Lines, Step, checked, early_reply, recorded, same_lines, wanted}
use Rattle.ga_transcript.specs.Live.{command_count}

-- all that a command replies is read as a reply
abbrev pub AreReplies : Lines → Type 0
AreReplies lines = All (λ line. kind_of line ≡ Reply) lines

abbrev pub RepliesOnly : {S : Type 0} → Step S → Type 0
RepliesOnly {S} step = (command : List ℕ) (state : S) → AreReplies (step command state).0

-- what is recorded of a first line
pub at_command : {S : Type 0} (step : Step S) (state : S) (line : List ℕ) (lines : Lines)
    (command : List ℕ) → kind_of line ≡ Command command → recorded step state (line ∷ lines) ≡ line
    ∷ ((step command state).0 ++ recorded step (step command state).1 lines)
at_command step state line lines command e = rw (e) refl

pub at_note : {S : Type 0} (step : Step S) (state : S) (line : List ℕ) (lines : Lines)
    → kind_of line ≡ Note → recorded step state (line ∷ lines) ≡ line ∷ recorded step state lines
at_note step state line lines e = rw (e) refl

pub at_reply : {S : Type 0} (step : Step S) (state : S) (line : List ℕ) (lines : Lines)
    → kind_of line ≡ Reply → recorded step state (line ∷ lines) ≡ recorded step state lines
at_reply step state line lines e = rw (e) refl

wanted_by : (line : List ℕ) (lines : Lines) (kind : Kind) → kind_of line ≡ kind
    → wanted (line ∷ lines) ≡ by_kind kind (λ command. []) (wanted lines) (line ∷ wanted lines)
wanted_by line lines kind e = rw (e) refl

-- nothing is expected before what is recorded
no_wanted_by : {S : Type 0} (step : Step S) (state : S) (line : List ℕ) (lines : Lines)
    (kind : Kind) → kind_of line ≡ kind → wanted (recorded step state lines) ≡ []
    → wanted (recorded step state (line ∷ lines)) ≡ []
no_wanted_by step state line lines (Command command) e h =
    ap wanted (at_command step state line lines command e) ∙ wanted_by line _ (Command command) e
no_wanted_by step state line lines Note e h =
    ap wanted (at_note step state line lines e) ∙ wanted_by line _ Note e ∙ h
no_wanted_by step state line lines Reply e h = ap wanted (at_reply step state line lines e) ∙ h

no_wanted : {S : Type 0} (step : Step S) (state : S) (lines : Lines)
    → wanted (recorded step state lines) ≡ []
no_wanted step state [] = refl
no_wanted step state (line ∷ lines) =
    no_wanted_by step state line lines (kind_of line) refl (no_wanted step state lines)

-- the first of such lines, and the others
first_of : (line : List ℕ) (lines : Lines) → AreReplies (line ∷ lines)
    → (kind_of line ≡ Reply) × AreReplies lines
first_of line lines all = (
  All-head (λ line. kind_of line ≡ Reply) line lines all,
  All-tail (λ line. kind_of line ≡ Reply) line lines all,
)

-- such lines before others are expected, are followed by what the others are, and are not recorded
wanted_replies : (replies lines : Lines) → AreReplies replies
    → wanted (replies ++ lines) ≡ replies ++ wanted lines
wanted_replies [] lines h = refl
wanted_replies (line ∷ replies) lines h =
    let (is, rest) = first_of line replies h in
    wanted_by line (replies ++ lines) Reply is
    ∙ ap (λ l. line ∷ l) (wanted_replies replies lines rest)

recorded_replies : {S : Type 0} (step : Step S) (state : S) (replies lines : Lines)
    → AreReplies replies → recorded step state (replies ++ lines) ≡ recorded step state lines
recorded_replies step state [] lines h = refl
recorded_replies step state (line ∷ replies) lines h =
    let (is, rest) = first_of line replies h in
    at_reply step state line (replies ++ lines) is ∙ recorded_replies step state replies lines rest

counted : (line : List ℕ) (lines : Lines) (kind : Kind) → kind_of line ≡ kind
    → command_count (line ∷ lines) ≡ by_kind kind (λ command. suc (command_count lines))
    (command_count lines) (command_count lines)
counted line lines kind e = rw (e) refl

same_itself : (lines : Lines) → same_lines lines lines ≡ true
same_itself [] = refl
same_itself (line ∷ lines) =
    let one : bytes_eq line line ≡ true = search (rules, bytes_eq-Decides line line) in
    ap (λ b. b && same_lines lines lines) one ∙ same_itself lines

-- what is checked of a first line
check_command : {S : Type 0} (step : Step S) (number count : ℕ) (state : S) (line : List ℕ)
    (lines : Lines) (command : List ℕ) → kind_of line ≡ Command command
    → wanted lines ≡ (step command state).0 → checked step number count state (line ∷ lines)
    ≡ checked step (suc number) (suc count) (step command state).1 lines
check_command step number count state line lines command e h =
    rw (e, h, same_itself (step command state).0) refl

check_note : {S : Type 0} (step : Step S) (number count : ℕ) (state : S) (line : List ℕ)
    (lines : Lines) → kind_of line ≡ Note
    → checked step number count state (line ∷ lines) ≡ checked step (suc number) count state lines
check_note step number count state line lines e = rw (e) refl

check_reply : {S : Type 0} (step : Step S) (number count : ℕ) (state : S) (line : List ℕ)
    (lines : Lines) → kind_of line ≡ Reply
    → checked step number count state (line ∷ lines) ≡ checked step (suc number) count state lines
check_reply step number count state line lines e = rw (e) refl

-- lines of a reply are passed over
check_replies : {S : Type 0} (step : Step S) (count : ℕ) (state : S) (replies lines : Lines)
    (all : ℕ) → AreReplies replies → ((number : ℕ) → checked step number count state lines ≡ Ok all)
    → (number : ℕ) → checked step number count state (replies ++ lines) ≡ Ok all
check_replies step count state [] lines all h then number = then number
check_replies step count state (line ∷ replies) lines all h then number =
    let (is, rest) = first_of line replies h in
    check_reply step number count state line (replies ++ lines) is
    ∙ check_replies step count state replies lines all rest then (suc number)

-- What is recorded holds.
holds_by : {S : Type 0} (step : Step S) → RepliesOnly step
    → (count : ℕ) (state : S) (line : List ℕ) (lines : Lines) (kind : Kind) → kind_of line ≡ kind
    → ((count : ℕ) (state : S) (number : ℕ) → checked step number count state
    (recorded step state lines) ≡ Ok (count + command_count lines)) → (number : ℕ)
    → checked step number count state (recorded step state (line ∷ lines))
    ≡ Ok (count + command_count (line ∷ lines))
holds_by step only count state line lines (Command command) e ih number =
    let said = step command state in
    let rest = recorded step said.1 lines in
    let replies : AreReplies said.0 = only command state in
    let wants : wanted (said.0 ++ rest) ≡ said.0 = wanted_replies said.0 rest replies
    ∙ ap (λ l. said.0 ++ l) (no_wanted step said.1 lines) ∙ append-nil said.0 in
    let more : suc count + command_count lines ≡ count + command_count (line ∷ lines) =
    omega (arith, counted line lines (Command command) e) in
    ap (checked step number count state) (at_command step state line lines command e)
    ∙ check_command step number count state line (said.0 ++ rest) command e wants
    ∙ check_replies step (suc count) said.1 said.0 rest (suc count + command_count lines) replies
    (λ n. ih (suc count) said.1 n) (suc number)
    ∙ ap Ok more
holds_by step only count state line lines Note e ih number =
    let same : count + command_count lines ≡ count + command_count (line ∷ lines) =
    omega (arith, counted line lines Note e) in
    ap (checked step number count state) (at_note step state line lines e)
    ∙ check_note step number count state line (recorded step state lines) e
    ∙ ih count state (suc number) ∙ ap Ok same
holds_by step only count state line lines Reply e ih number =
    let same : count + command_count lines ≡ count + command_count (line ∷ lines) =
    omega (arith, counted line lines Reply e) in
    ap (checked step number count state) (at_reply step state line lines e) ∙ ih count state number
    ∙ ap Ok same

pub recorded_holds : {S : Type 0} (step : Step S) → RepliesOnly step
    → (lines : Lines) (count : ℕ) (state : S) (number : ℕ)
    → checked step number count state (recorded step state lines) ≡ Ok (count + command_count lines)
recorded_holds step only [] count state number = ap Ok (omega arith)
recorded_holds step only (line ∷ lines) count state number =
    holds_by step only count state line lines (kind_of line) refl
    (recorded_holds step only lines) number

-- Recording a recording doesn't change it.
again_by : {S : Type 0} (step : Step S) → RepliesOnly step
    → (state : S) (line : List ℕ) (lines : Lines) (kind : Kind) → kind_of line ≡ kind
    → ((state : S) → recorded step state (recorded step state lines) ≡ recorded step state lines)
    → recorded step state (recorded step state (line ∷ lines)) ≡ recorded step state (line ∷ lines)
again_by step only state line lines (Command command) e ih =
    let said = step command state in
    let rest = recorded step said.1 lines in
    let made = at_command step state line lines command e in
    ap (recorded step state) made
    ∙ at_command step state line (said.0 ++ rest) command e
    ∙ ap (λ l. line ∷ (said.0 ++ l)) (recorded_replies step said.1 said.0 rest (only command state)
    ∙ ih said.1)
    ∙ sym made
again_by step only state line lines Note e ih =
    let made = at_note step state line lines e in
    ap (recorded step state) made ∙ at_note step state line (recorded step state lines) e
    ∙ ap (λ l. line ∷ l) (ih state) ∙ sym made
again_by step only state line lines Reply e ih =
    let made = at_reply step state line lines e in
    ap (recorded step state) made ∙ ih state ∙ sym made

pub recorded_again : {S : Type 0} (step : Step S) → RepliesOnly step → (lines : Lines) (state : S)
    → recorded step state (recorded step state lines) ≡ recorded step state lines
recorded_again step only [] state = refl
recorded_again step only (line ∷ lines) state =
    again_by step only state line lines (kind_of line) refl (recorded_again step only lines)

-- No reply comes before all commands in a recording.
pub early_by : (number : ℕ) (line : List ℕ) (lines : Lines) (kind : Kind) → kind_of line ≡ kind
    → early_reply number (line ∷ lines)
    ≡ by_kind kind (λ command. None) (early_reply (suc number) lines) (Some number)
early_by number line lines kind e = rw (e) refl

not_early_by : {S : Type 0} (step : Step S) (state : S) (number : ℕ) (line : List ℕ) (lines : Lines)
    (kind : Kind) → kind_of line ≡ kind
    → ((number : ℕ) → early_reply number (recorded step state lines) ≡ None)
    → early_reply number (recorded step state (line ∷ lines)) ≡ None
not_early_by step state number line lines (Command command) e ih =
    ap (early_reply number) (at_command step state line lines command e)
    ∙ early_by number line _ (Command command) e
not_early_by step state number line lines Note e ih =
    ap (early_reply number) (at_note step state line lines e) ∙ early_by number line _ Note e
    ∙ ih (suc number)
not_early_by step state number line lines Reply e ih =
    ap (early_reply number) (at_reply step state line lines e) ∙ ih number

pub recorded_not_early : {S : Type 0} (step : Step S) (state : S) (lines : Lines) (number : ℕ)
    → early_reply number (recorded step state lines) ≡ None
recorded_not_early step state [] number = refl
recorded_not_early step state (line ∷ lines) number =
    not_early_by step state number line lines (kind_of line) refl
    (recorded_not_early step state lines)
