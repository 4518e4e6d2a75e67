-- What is found of all commands of a transcript.
use Rattle.std.proofs.Common.{◌≡◌, ◌∙◌, inr, ℕ, zero, suc, ◌+◌, ◌-◌, ◌<◌, ◌≤◌, true, false, Bool, List, [], ◌∷◌, ◌++◌, Option, None, Some, Result, Ok, Err, ap, append-nil, append_assoc, arith, length, refl, sym, take}
use Rattle.std.proofs.lemmas.Bool.{lt-ltb, ltb-false, ltb-true}
use Rattle.std.proofs.lemmas.Grind.{flat_map-append}
use Rattle.std.proofs.lemmas.List.{length-append}
use Rattle.std.proofs.lemmas.List.Elements.{filter-append}
use Rattle.std.proofs.lemmas.List.Splits.{length-slice_split}
use Rattle.std.proofs.lemmas.List.Sums.{count_by-le-length}
use Rattle.std.specs.Prelude.{◌==◌, ◌↔◌, IfOk, filter, nat_lt, if◌then◌else◌}
use Rattle.std.specs.List.{flat_map}
use Rattle.ga_asm.specs.Text.{AtMostOne}
use Rattle.ga_debug.specs.Beginning.{IsLoaded, Start}
use Rattle.ga_debug.specs.Pieces.{pieces}
use Rattle.ga_debug.proofs.OneReplay.{one_loaded}
use Rattle.ga_transcript.specs.declared.differences.Comparison.{Comparison}
use Rattle.ga_transcript.specs.declared.error.TranscriptError.{TranscriptError}
use Rattle.ga_transcript.specs.Check.{Answers, EarlyReply, TooLong, checked_by, checked_from, fault_of, signed, unless_early}
use Rattle.ga_transcript.specs.Compare.{IsCompared, IsComparedIfMet, View, compared_from, comparison_of, comparison_view, difference_text, excerpt, is_same, more_lines, unless_long_report}
use Rattle.ga_transcript.specs.Following.{Compared, Difference, Lines, Step, checked, compared, differs, early_reply, same_lines, wanted}
use Rattle.ga_transcript.specs.Line.{Kind, Command, Note, Reply, kind_of}
use Rattle.ga_transcript.specs.Record.{Holds}
use Rattle.ga_transcript.specs.Reply.{lines_in, step_from}
use Rattle.ga_transcript.specs.inner.Excerpt.{shown_behind, shown_line}
use Rattle.ga_transcript.proofs.OneTranscript.{one_behind, one_met}
use Rattle.ga_transcript.proofs.Starting.{fails}

pub one_compared : (name text : List ℕ) → AtMostOne (IsCompared name text)
one_compared name text = one_behind text (compared_from name)

pub one_compared_if_met : (name text : List ℕ) → AtMostOne (IsComparedIfMet name text)
one_compared_if_met name text = one_met text is_same (IsCompared name text) (one_compared name text)

-- ---- excerpts

pub excerpt_begins : (sign : ℕ) (lines : Lines) → shown_behind sign 0 lines ≡ excerpt sign lines
unfolding shown_behind
excerpt_begins sign lines =
    let same : 0 + length lines ≡ length lines = omega arith in
    ap (λ n. signed sign (take 10 lines) ++ more_lines n) same

take_none : (n : ℕ) (lines : Lines) → lines ≡ [] → take n lines ≡ []
take_none zero lines is = refl
take_none (suc n) lines is = ap (take (suc n)) is

pub excerpt_ends : (sign count : ℕ) → shown_behind sign count [] ≡ more_lines count
unfolding shown_behind
excerpt_ends sign count =
    let same : count + length {A = List ℕ} [] ≡ count = omega arith in
    ap (λ lines. signed sign lines ++ more_lines (count + length {A = List ℕ} []))
    (take_none (10 - count) [] refl) ∙ ap more_lines same

pub excerpt_more : (sign count : ℕ) (line : List ℕ) (lines : Lines)
    → shown_behind sign count (line ∷ lines)
    ≡ shown_line sign count line ++ shown_behind sign (count + 1) lines
unfolding shown_behind
excerpt_more sign count line lines = by (nat_lt count 10) refl
  where
    more : count + length (line ∷ lines) ≡ count + 1 + length lines
    more = omega arith

    shows : (shown : Bool) → nat_lt count 10 ≡ shown
        → (if shown then sign ∷ (line ++ 10 ∷ []) else []) ++ shown_behind sign (count + 1) lines
        ≡ shown_line sign count line ++ shown_behind sign (count + 1) lines
    shows shown e =
        ap (λ b. (if b then sign ∷ (line ++ 10 ∷ []) else [])
        ++ shown_behind sign (count + 1) lines) (sym e)

    by : (shown : Bool) → nat_lt count 10 ≡ shown → shown_behind sign count (line ∷ lines)
        ≡ shown_line sign count line ++ shown_behind sign (count + 1) lines
    by true e =
        let few = ltb-true count 10 e in
        let one : 10 - count ≡ suc (10 - (count + 1)) = omega (arith, few) in
        let first = sign ∷ (line ++ 10 ∷ []) in
        let rest = signed sign (take (10 - (count + 1)) lines) in
        ap (λ n. signed sign (take n (line ∷ lines)) ++ more_lines (count + length (line ∷ lines)))
        one
        ∙ append_assoc first rest (more_lines (count + length (line ∷ lines)))
        ∙ ap (λ n. first ++ (rest ++ more_lines n)) more
        ∙ shows true e
    by false e =
        let many = ltb-false count 10 e in
        let none : 10 - count ≡ 0 = omega (arith, many) in
        let none_more : 10 - (count + 1) ≡ 0 = omega (arith, many) in
        ap (λ n. signed sign (take n (line ∷ lines)) ++ more_lines (count + length (line ∷ lines)))
        none
        ∙ ap more_lines more
        ∙ sym
        (ap (λ n. signed sign (take n lines) ++ more_lines (count + 1 + length lines)) none_more)
        ∙ shows false e

-- one line more
pub shown_more : (sign count : ℕ) (line : List ℕ) (lines : Lines) (text new whole : List ℕ)
    → text ++ shown_behind sign count (line ∷ lines) ≡ whole
    → new ≡ text ++ shown_line sign count line → new ++ shown_behind sign (count + 1) lines ≡ whole
shown_more sign count line lines text new whole is made =
    ap (λ t. t ++ shown_behind sign (count + 1) lines) made
    ∙ append_assoc text (shown_line sign count line) (shown_behind sign (count + 1) lines)
    ∙ ap (λ t. text ++ t) (sym (excerpt_more sign count line lines)) ∙ is

pub wanted_more : (count : ℕ) (line : List ℕ) (lines rest : Lines) (text new whole : List ℕ)
    → lines ≡ line ∷ rest → kind_of line ≡ Reply
    → text ++ shown_behind 45 count (wanted lines) ≡ whole
    → new ≡ text ++ shown_line 45 count line
    → new ++ shown_behind 45 (count + 1) (wanted rest) ≡ whole
wanted_more count line lines rest text new whole first reply is made =
    let one : wanted (line ∷ rest) ≡ line ∷ wanted rest = rw (reply) refl in
    shown_more 45 count line (wanted rest) text new whole
    (ap (λ ls. text ++ shown_behind 45 count ls) (sym (ap wanted first ∙ one)) ∙ is) made

-- a text has few lines
pub few_lines : (text : List ℕ) → length (lines_in text) ≤ length text + 1
few_lines text = by (length text == 0)
  where
    by : (none : Bool) → length (if none then [] else pieces 10 text) ≤ length text + 1
    by true = omega arith
    by false =
        let ends : ℕ → Bool = λ c. c == 10 in
        omega (arith, length-slice_split ends text, count_by-le-length ends text)

pub ruleset excerpts = (excerpt_begins, excerpt_ends, excerpt_more)

-- ---- one command more

abbrev view_at : ℕ → ℕ → List ℕ → View
view_at commands differences report =
    record { commands = commands; differences = differences; report = report }

view_is : (a a' d d' : ℕ) (r r' : List ℕ) → a ≡ a' → d ≡ d' → r ≡ r'
    → view_at a d r ≡ view_at a' d' r'
view_is a a' d d' r r' p q s = cc

filter_last : (command : Compared) (done : List Compared) (other : Bool) → differs command ≡ other
    → filter differs (done ++ command ∷ [])
    ≡ filter differs done ++ (if other then command ∷ [] else [])
filter_last command done other e =
    filter-append differs done (command ∷ [])
    ∙ ap (λ b. filter differs done ++ (if b then command ∷ [] else [])) e

-- a command with the expected reply
pub same_added : (name : List ℕ) (done : List Compared) (command : Compared) (old : View)
    → old ≡ comparison_of name done → differs command ≡ false
    → view_at (old.commands + 1) old.differences old.report
    ≡ comparison_of name (done ++ command ∷ [])
unfolding comparison_of
same_added name done command old is e =
    let all = done ++ command ∷ [] in
    let kept : filter differs all ≡ filter differs done = filter_last command done false e
    ∙ append-nil (filter differs done) in
    let commands : old.commands + 1 ≡ length all =
    omega (arith, ap (λ (v : View). v.commands) is, length-append done (command ∷ [])) in
    view_is (old.commands + 1) (length all) old.differences (length (filter differs all)) old.report
    (flat_map (difference_text name) (filter differs all)) commands
    (ap (λ (v : View). v.differences) is ∙ ap length (sym kept))
    (ap (λ (v : View). v.report) is ∙ ap (flat_map (difference_text name)) (sym kept))

-- a command with another reply
pub other_added : (name : List ℕ) (done : List Compared) (command : Compared) (old : View)
    → old ≡ comparison_of name done → differs command ≡ true
    → view_at (old.commands + 1) (old.differences + 1) (old.report ++ difference_text name command)
    ≡ comparison_of name (done ++ command ∷ [])
unfolding comparison_of
other_added name done command old is e =
    let all = done ++ command ∷ [] in
    let kept : filter differs all ≡ filter differs done ++ command ∷ [] =
    filter_last command done true e in
    let commands : old.commands + 1 ≡ length all =
    omega (arith, ap (λ (v : View). v.commands) is, length-append done (command ∷ [])) in
    let differences : old.differences + 1 ≡ length (filter differs all) =
    omega (
      arith,
      ap (λ (v : View). v.differences) is,
      ap length kept,
      length-append (filter differs done) (command ∷ []),
    ) in
    let text = difference_text name in
    let report : old.report ++ text command ≡ flat_map text (filter differs all) =
    ap (λ (v : View). v.report ++ text command) is
    ∙ ap (λ t. flat_map text (filter differs done) ++ t) (sym (append-nil (text command)))
    ∙ sym (flat_map-append text (filter differs done) (command ∷ []))
    ∙ ap (flat_map text) (sym kept) in
    view_is (old.commands + 1) (length all) (old.differences + 1) (length (filter differs all))
    (old.report ++ text command) (flat_map text (filter differs all)) commands differences report

-- ---- all commands

pub none_found : (name text : List ℕ) → text ≡ [] → view_at 0 0 text ≡ comparison_of name []
unfolding comparison_of
none_found name text empty = ap (view_at 0 0) empty

at_command : {S : Type 0} (step : Step S) (number : ℕ) (state : S) (line : List ℕ) (lines : Lines)
    (command : List ℕ) → kind_of line ≡ Command command
    → compared step number state (line ∷ lines) ≡ record {
      line = number;
      command = command;
      wanted = wanted lines;
      came = (step command state).0;
    } ∷ compared step (suc number) (step command state).1 lines
at_command step number state line lines command e = rw (e) refl

-- one command more
pub compared_more : {S : Type 0} (step : Step S) (number : ℕ) (state new : S) (line : List ℕ)
    (lines rest : Lines) (command : List ℕ) (came : Lines) (done whole : List Compared)
    → lines ≡ line ∷ rest → kind_of line ≡ Command command → came ≡ (step command state).0
    → new ≡ (step command state).1 → done ++ compared step number state lines ≡ whole
    → (done ++ record { line = number; command = command; wanted = wanted rest; came = came } ∷ [])
    ++ compared step (number + 1) new rest ≡ whole
compared_more step number state new line lines rest command came done whole first is came_is
    new_is all =
    let one : Lines → Compared =
    λ came. record { line = number; command = command; wanted = wanted rest; came = came } in
    let next : number + 1 ≡ suc number = omega arith in
    append_assoc done (one came ∷ []) (compared step (number + 1) new rest)
    ∙ ap (λ came. done ++ (one came ∷ compared step (number + 1) new rest)) came_is
    ∙ ap (λ n. done ++ (one (step command state).0 ∷ compared step n new rest)) next
    ∙ ap (λ s. done ++ (one (step command state).0 ∷ compared step (suc number) s rest)) new_is
    ∙ ap (λ (cs : List Compared). done ++ cs)
    (sym (ap (compared step number state) first
    ∙ at_command step number state line rest command is))
    ∙ all

-- the report on the first ones is too long already
pub too_long : (name : List ℕ) (done rest whole : List Compared) (found : View)
    → found ≡ comparison_of name done → done ++ rest ≡ whole → 268435456 < length found.report
    → unless_long_report (comparison_of name whole) ≡ Err TooLong
unfolding comparison_of
too_long name done rest whole found is all long =
    let text = difference_text name in
    let parts : flat_map text (filter differs whole)
    ≡ flat_map text (filter differs done) ++ flat_map text (filter differs rest) =
    ap (λ cs. flat_map text (filter differs cs)) (sym all)
    ∙ ap (flat_map text) (filter-append differs done rest)
    ∙ flat_map-append text (filter differs done) (filter differs rest) in
    let longer : 268435456 < length (flat_map text (filter differs whole)) =
    omega (
      arith,
      long,
      ap (λ (v : View). length v.report) is,
      ap length parts,
      length-append (flat_map text (filter differs done)) (flat_map text (filter differs rest)),
    ) in
    ap (λ b. if b then Err TooLong else Ok (comparison_of name whole))
    (lt-ltb 268435456 (length (flat_map text (filter differs whole))) longer)

-- ---- a whole transcript

abbrev all_of : Start → List Compared
all_of start = compared (step_from start) (start.line + 1) start.chip start.commands

pub early_compared : (name : List ℕ) (start : Start) (line : ℕ)
    → early_reply (start.line + 1) start.commands ≡ Some line
    → compared_from name start ≡ Err (EarlyReply line)
unfolding compared_from
early_compared name start line early =
    ap (λ found. unless_early found (unless_long_report (comparison_of name (all_of start)))) early

pub compared_behind : (name text : List ℕ) (start : Start)
    (result : Result Comparison TranscriptError) → IsLoaded text (Ok start)
    → early_reply (start.line + 1) start.commands ≡ None
    → Answers comparison_view
    (λ answer. unless_long_report (comparison_of name (all_of start)) ≡ answer) result
    → Answers comparison_view (IsCompared name text) result
unfolding compared_from
compared_behind name text start (Ok found) loaded none is = (
  start,
  loaded,
  ap (λ early. unless_early early (unless_long_report (comparison_of name (all_of start)))) none
      ∙ is,
)
compared_behind name text start (Err error) loaded none is =
    let whole = unless_long_report (comparison_of name (all_of start)) in
    fails (λ answer. whole ≡ answer) (IsCompared name text) (fault_of error)
    (λ fault same. inr (start, loaded, ap (λ early. unless_early early whole) none ∙ same)) is

-- ---- no difference

module _ {S : Type 0} (step : Step S) where
  checked_command : (number count : ℕ) (state : S) (line : List ℕ) (lines : Lines)
      (command : List ℕ) (same : Bool) → kind_of line ≡ Command command
      → same_lines (wanted lines) (step command state).0 ≡ same
      → checked step number count state (line ∷ lines)
      ≡ (if same then checked step (suc number) (suc count) (step command state).1 lines
      else Err
      (record { line = number; wanted = wanted lines; came = (step command state).0 }))
  checked_command number count state line lines command same e s = rw (e, s) refl

  -- a test of the first command
  first_test : (number : ℕ) (state : S) (line : List ℕ) (lines : Lines) (command : List ℕ)
      (same : Bool) → kind_of line ≡ Command command
      → same_lines (wanted lines) (step command state).0 ≡ same
      → filter differs (compared step number state (line ∷ lines)) ≡ (if same
      then filter differs (compared step (suc number) (step command state).1 lines)
      else record {
        line = number;
        command = command;
        wanted = wanted lines;
        came = (step command state).0;
      } ∷ filter differs (compared step (suc number) (step command state).1 lines))
  first_test number state line lines command true e s = rw (e, s) refl
  first_test number state line lines command false e s = rw (e, s) refl

  note_compared : (number : ℕ) (state : S) (line : List ℕ) (lines : Lines) → kind_of line ≡ Note
      → compared step number state (line ∷ lines) ≡ compared step (suc number) state lines
  note_compared number state line lines e = rw (e) refl

  reply_compared : (number : ℕ) (state : S) (line : List ℕ) (lines : Lines)
      → kind_of line ≡ Reply
      → compared step number state (line ∷ lines) ≡ compared step (suc number) state lines
  reply_compared number state line lines e = rw (e) refl

  note_checked : (number count : ℕ) (state : S) (line : List ℕ) (lines : Lines)
      → kind_of line ≡ Note
      → checked step number count state (line ∷ lines) ≡ checked step (suc number) count state lines
  note_checked number count state line lines e = rw (e) refl

  reply_checked : (number count : ℕ) (state : S) (line : List ℕ) (lines : Lines)
      → kind_of line ≡ Reply
      → checked step number count state (line ∷ lines) ≡ checked step (suc number) count state lines
  reply_checked number count state line lines e = rw (e) refl

  -- if none differs, the check accepts all
  same_by : (number count : ℕ) (state : S) (line : List ℕ) (lines : Lines) (kind : Kind)
      → kind_of line ≡ kind → ((number count : ℕ) (state : S)
      → filter differs (compared step number state lines) ≡ []
      → (all : ℕ) × (checked step number count state lines ≡ Ok all))
      → filter differs (compared step number state (line ∷ lines)) ≡ []
      → (all : ℕ) × (checked step number count state (line ∷ lines) ≡ Ok all)
  same_by number count state line lines (Command command) e ih none =
      by (same_lines (wanted lines) (step command state).0) refl
    where
      by : (same : Bool) → same_lines (wanted lines) (step command state).0 ≡ same
          → (all : ℕ) × (checked step number count state (line ∷ lines) ≡ Ok all)
      by true s =
          let (all, is) = ih (suc number) (suc count) (step command state).1
          (sym (first_test number state line lines command true e s) ∙ none) in
          (all, checked_command number count state line lines command true e s ∙ is)
      by false s = absurd (cc (sym (first_test number state line lines command false e s) ∙ none))
  same_by number count state line lines Note e ih none =
      let (all, is) = ih (suc number) count state
      (ap (filter differs) (sym (note_compared number state line lines e)) ∙ none) in
      (all, note_checked number count state line lines e ∙ is)
  same_by number count state line lines Reply e ih none =
      let (all, is) = ih (suc number) count state
      (ap (filter differs) (sym (reply_compared number state line lines e)) ∙ none) in
      (all, reply_checked number count state line lines e ∙ is)

  all_same : (lines : Lines) (number count : ℕ) (state : S)
      → filter differs (compared step number state lines) ≡ []
      → (all : ℕ) × (checked step number count state lines ≡ Ok all)
  all_same [] number count state none = (count, refl)
  all_same (line ∷ lines) number count state none =
      same_by number count state line lines (kind_of line) refl (all_same lines) none

  -- and if the check accepts all, none differs
  none_by : (number count : ℕ) (state : S) (line : List ℕ) (lines : Lines) (all : ℕ) (kind : Kind)
      → kind_of line ≡ kind → ((number count : ℕ) (state : S)
      → checked step number count state lines ≡ Ok all
      → filter differs (compared step number state lines) ≡ [])
      → checked step number count state (line ∷ lines) ≡ Ok all
      → filter differs (compared step number state (line ∷ lines)) ≡ []
  none_by number count state line lines all (Command command) e ih is =
      by (same_lines (wanted lines) (step command state).0) refl
    where
      by : (same : Bool) → same_lines (wanted lines) (step command state).0 ≡ same
          → filter differs (compared step number state (line ∷ lines)) ≡ []
      by true s =
          first_test number state line lines command true e s
          ∙ ih (suc number) (suc count) (step command state).1
          (sym (checked_command number count state line lines command true e s) ∙ is)
      by false s =
          absurd (cc (sym (checked_command number count state line lines command false e s) ∙ is))
  none_by number count state line lines all Note e ih is =
      ap (filter differs) (note_compared number state line lines e)
      ∙ ih (suc number) count state (sym (note_checked number count state line lines e) ∙ is)
  none_by number count state line lines all Reply e ih is =
      ap (filter differs) (reply_compared number state line lines e)
      ∙ ih (suc number) count state (sym (reply_checked number count state line lines e) ∙ is)

  none_other : (lines : Lines) (number count : ℕ) (state : S) (all : ℕ)
      → checked step number count state lines ≡ Ok all
      → filter differs (compared step number state lines) ≡ []
  none_other [] number count state all is = refl
  none_other (line ∷ lines) number count state all is =
      none_by number count state line lines all (kind_of line) refl
      (λ number count state is. none_other lines number count state all is) is

empty_by : (list : List Compared) → length list ≡ 0 → list ≡ []
empty_by [] e = refl
empty_by (command ∷ list) e = absurd (omega (arith, e))

-- what was found, if nothing is wrong with the transcript
found_by : (name : List ℕ) (start : Start) (found : View) → compared_from name start ≡ Ok found
    → (early_reply (start.line + 1) start.commands ≡ None)
    × (found ≡ comparison_of name (all_of start))
unfolding compared_from
found_by name start found is = by (early_reply (start.line + 1) start.commands) refl
  where
    made : View
    made = comparison_of name (all_of start)

    short : (long : Bool) → (if long then Err TooLong else Ok made) ≡ Ok found → found ≡ made
    short true e = absurd (cc e)
    short false e = cc e

    by : (early : Option ℕ) → early_reply (start.line + 1) start.commands ≡ early
        → (early_reply (start.line + 1) start.commands ≡ None) × (found ≡ made)
    by None e = (
      e,
      short (nat_lt 268435456 (length made.report))
          (sym (ap (λ early. unless_early early (unless_long_report made)) e) ∙ is),
    )
    by (Some line) e =
        absurd (cc (sym (ap (λ early. unless_early early (unless_long_report made)) e) ∙ is))

counted : (name : List ℕ) (commands : List Compared)
    → (comparison_of name commands).differences ≡ length (filter differs commands)
unfolding comparison_of
counted name commands = refl

checked_whole : (start : Start) (all : ℕ) → early_reply (start.line + 1) start.commands ≡ None
    → checked (step_from start) (start.line + 1) 0 start.chip start.commands ≡ Ok all
    → checked_from start ≡ Ok all
unfolding checked_from
checked_whole start all none is =
    ap (λ early. unless_early early (checked_by
    (checked (step_from start) (start.line + 1) 0 start.chip start.commands))) none
    ∙ ap checked_by is

checked_parts : (start : Start) (all : ℕ) → early_reply (start.line + 1) start.commands ≡ None
    → checked_from start ≡ Ok all
    → checked (step_from start) (start.line + 1) 0 start.chip start.commands ≡ Ok all
unfolding checked_from
checked_parts start all none is =
    by (checked (step_from start) (start.line + 1) 0 start.chip start.commands) refl
  where
    whole : Result ℕ Difference
    whole = checked (step_from start) (start.line + 1) 0 start.chip start.commands

    same : checked_by whole ≡ Ok all
    same = sym (ap (λ early. unless_early early (checked_by whole)) none) ∙ is

    by : (result : Result ℕ Difference) → whole ≡ result → whole ≡ Ok all
    by (Ok count) e = e ∙ cc (sym (ap checked_by e) ∙ same)
    by (Err difference) e = absurd (cc (sym (ap checked_by e) ∙ same))

holds_if_same : (name text : List ℕ) (found : View) → IsCompared name text (Ok found)
    → found.differences ≡ 0 → Holds text
holds_if_same name text found (start, loaded, is) none =
    let (early, made) = found_by name start found is in
    let empty = empty_by (filter differs (all_of start)) (sym (counted name (all_of start))
    ∙ ap (λ (v : View). v.differences) (sym made) ∙ none) in
    let (all, holds) = all_same (step_from start) start.commands (start.line + 1) 0 start.chip
    empty in
    (all, (start, loaded, checked_whole start all early holds))

same_if_holds : (name text : List ℕ) (found : View) → IsCompared name text (Ok found)
    → Holds text → found.differences ≡ 0
same_if_holds name text found (start, loaded, is) (all, (start', loaded', holds)) =
    let same : start' ≡ start = cc (one_loaded text (Ok start') (Ok start) loaded' loaded) in
    let (early, made) = found_by name start found is in
    let whole = checked_parts start all early (ap checked_from (sym same) ∙ holds) in
    let empty =
    none_other (step_from start) start.commands (start.line + 1) 0 start.chip all whole in
    ap (λ (v : View). v.differences) made ∙ counted name (all_of start) ∙ ap length empty

-- nothing differs exactly if the check accepts the text
pub same_exactly : (name text : List ℕ) (result : Result Comparison TranscriptError)
    → Answers comparison_view (IsCompared name text) result
    → IfOk result (λ found. (found.differences ≡ 0) ↔ Holds text)
same_exactly name text (Ok found) is = (
  holds_if_same name text (comparison_view found) is,
  same_if_holds name text (comparison_view found) is,
)
same_exactly name text (Err error) is = tt
