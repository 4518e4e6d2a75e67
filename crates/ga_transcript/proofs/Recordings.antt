-- A recording passes its check, and recording it again doesn't change it.
use Rattle.std.proofs.Common.{◌≡◌, ◌∙◌, ℕ, ◌+◌, Bool, true, false, List, [], ◌∷◌, ◌++◌, Option, Some, None, Result, Ok, Err, ap, arith, length, refl, subst, sym, take}
use Rattle.std.specs.Prelude.{map, nat_lt, if◌then◌else◌}
use Rattle.std.proofs.lemmas.List.Elements.{All-append, All-cons, All-head, All-nil, All-tail}
use Rattle.ga_pack.specs.Model.Text.{lines_of}
use Rattle.ga_chip.specs.Chip.{Chip}
use Rattle.ga_debug.specs.declared.beginning.Program.{Program}
use Rattle.ga_debug.specs.Beginning.{IsLoaded, Start}
use Rattle.ga_debug.specs.Session.{replied, text_or_refusal}
use Rattle.ga_transcript.specs.Check.{Fault, TooLong, checked_by, checked_from, unless_early}
use Rattle.ga_transcript.specs.Following.{Lines, Step, checked, early_reply, recorded}
use Rattle.ga_transcript.specs.Live.{command_count}
use Rattle.ga_transcript.specs.Line.{Kind, Command, Note, Reply, as_reply, kind_of}
use Rattle.ga_transcript.specs.Record.{Holds, IsRecorded, lines_text, recorded_from, recording_of, unless_too_long}
use Rattle.ga_transcript.specs.Reply.{lines_in, program_of, step_from, step_of}
use Rattle.ga_transcript.proofs.Following.{AreReplies, RepliesOnly, recorded_again, recorded_holds, recorded_not_early}
use Rattle.ga_transcript.proofs.Fronts.{head_front, with_commands}
use Rattle.ga_transcript.proofs.Joined.{AreClean, IsClean, lines_clean, lines_of_text, read_as_reply, reply_clean, split_clean}

-- all that a command replies is read as a reply, and no LF is in it
all_replies : (lines : Lines) → AreReplies (map as_reply lines)
all_replies [] = All-nil (λ line. kind_of line ≡ Reply)
all_replies (line ∷ lines) =
    All-cons (λ line. kind_of line ≡ Reply) (as_reply line) (map as_reply lines)
    (read_as_reply line) (all_replies lines)

replies_only : (program : Program) → RepliesOnly (step_of program)
replies_only program command chip =
    all_replies (lines_in (text_or_refusal (Some program) command
    (replied (Some program) command chip).0))

replies_clean : (program : Program) (command : List ℕ) (chip : Chip)
    → AreClean (step_of program command chip).0
replies_clean program command chip =
    let text = text_or_refusal (Some program) command
    (replied (Some program) command chip).0 in
    reply_clean (lines_in text) (lines_clean text)

-- nor is one in what is recorded
clean_by : {S : Type 0} (step : Step S)
    → ((command : List ℕ) (state : S) → AreClean (step command state).0)
    → (state : S) (line : List ℕ) (lines : Lines) (kind : Kind) → kind_of line ≡ kind
    → AreClean (line ∷ lines) → ((state : S) → AreClean (recorded step state lines))
    → AreClean (recorded step state (line ∷ lines))
clean_by step replies state line lines (Command command) e clean ih =
    let said = step command state in
    let is : recorded step state (line ∷ lines) ≡ line ∷ (said.0 ++ recorded step said.1 lines) =
    rw (e) refl in
    subst AreClean (sym is) (All-cons IsClean line _ (All-head IsClean line lines clean)
    (All-append IsClean said.0 (recorded step said.1 lines) (replies command state) (ih said.1)))
clean_by step replies state line lines Note e clean ih =
    let is : recorded step state (line ∷ lines) ≡ line ∷ recorded step state lines = rw (e) refl in
    subst AreClean (sym is) (All-cons IsClean line (recorded step state lines)
    (All-head IsClean line lines clean) (ih state))
clean_by step replies state line lines Reply e clean ih =
    let is : recorded step state (line ∷ lines) ≡ recorded step state lines = rw (e) refl in
    subst AreClean (sym is) (ih state)

recorded_clean : {S : Type 0} (step : Step S)
    → ((command : List ℕ) (state : S) → AreClean (step command state).0) → (lines : Lines)
    → AreClean lines → (state : S) → AreClean (recorded step state lines)
recorded_clean step replies [] clean state = All-nil IsClean
recorded_clean step replies (line ∷ lines) clean state =
    clean_by step replies state line lines (kind_of line) refl clean
    (recorded_clean step replies lines (All-tail IsClean line lines clean))

-- the two parts of clean lines
pub clean_parts : (front back : Lines) → AreClean (front ++ back) → AreClean front × AreClean back
clean_parts [] back clean = (All-nil IsClean, clean)
clean_parts (line ∷ front) back clean =
    let parts = clean_parts front back (All-tail IsClean line (front ++ back) clean) in
    (All-cons IsClean line front (All-head IsClean line (front ++ back) clean) parts.0, parts.1)

pub take_front : (front back : Lines) (n : ℕ) → length front ≡ n → take n (front ++ back) ≡ front
take_front [] back n size = ap (λ k. take k back) (sym size)
take_front (line ∷ front) back n size =
    ap (λ k. take k (line ∷ (front ++ back))) (sym size)
    ∙ ap (λ (ls : Lines). line ∷ ls) (take_front front back (length front) refl)

-- What a recording leads to.
pub record Recording (text recording : List ℕ) : Type 0 where
  pub start : Start
  pub loaded : IsLoaded recording (Ok start)
  -- it isn't too long, and nothing is left to be recorded
  pub short : unless_too_long recording ≡ Ok recording
  pub settled : (lines : Lines)
      × (start.commands ≡ recorded (step_from start) start.chip lines)
  pub is : recording_of recording start ≡ recording

pub not_too_long : (made recording : List ℕ) → unless_too_long made ≡ Ok recording
    → made ≡ recording
not_too_long made recording e = by (nat_lt 268435456 (length made)) e
  where
    by : (long : Bool) → (if long then Err TooLong else Ok made) ≡ Ok recording → made ≡ recording
    by true e = absurd (cc e)
    by false e = cc e

pub not_early : (found : Option ℕ) (made : Result (List ℕ) Fault) (recording : List ℕ)
    → unless_early found made ≡ Ok recording → made ≡ Ok recording
not_early None made recording e = e
not_early (Some line) made recording e = absurd (cc e)

recording_leads : (text recording : List ℕ) → IsRecorded text (Ok recording)
    → Recording text recording
unfolding recorded_from
recording_leads text recording (start, (head, head_is, images, chip_is, line_is, commands_is), is) =
    let step = step_from start in
    let rec = recorded step start.chip start.commands in
    let f = head_front text head head_is in
    let kept : unless_too_long (recording_of text start) ≡ Ok recording =
    not_early _ _ recording is in
    let made : recording_of text start ≡ recording =
    not_too_long (recording_of text start) recording kept in
    let lines : lines_of text ≡ (f.first ∷ f.front) ++ start.commands =
    f.is ∙ ap (λ (cs : Lines). f.first ∷ (f.front ++ cs)) commands_is in
    let size : length (f.first ∷ f.front) ≡ start.line = omega (arith, f.size, line_is) in
    let all_clean : AreClean ((f.first ∷ f.front) ++ start.commands) =
    subst AreClean lines (split_clean text) in
    let parts = clean_parts (f.first ∷ f.front) start.commands all_clean in
    let rest_clean : AreClean (f.front ++ rec) =
    All-append IsClean f.front rec (All-tail IsClean f.first f.front parts.0)
    (recorded_clean step (replies_clean (program_of start)) start.commands parts.1 start.chip) in
    let whole : recording ≡ lines_text (f.first ∷ (f.front ++ rec)) =
    sym made ∙ ap (λ ls. lines_text (take start.line ls ++ rec)) lines
    ∙ ap (λ (ls : Lines). lines_text (ls ++ rec))
    (take_front (f.first ∷ f.front) start.commands start.line size) in
    let cut : lines_of recording ≡ f.first ∷ (f.front ++ rec) =
    ap lines_of whole ∙ lines_of_text f.first
    (f.front ++ rec) (All-head IsClean f.first f.front parts.0) rest_clean in
    let again : recorded step start.chip rec ≡ rec =
    recorded_again step (replies_only (program_of start)) start.commands start.chip in
    record {
      start = record start { commands = rec };
      loaded = (with_commands head rec, f.others recording rec cut, images, chip_is, line_is, refl);
      short = sym (ap unless_too_long made) ∙ kept;
      settled = (start.commands, refl);
      is = ap (λ ls. lines_text (take start.line ls ++ recorded step start.chip rec)) cut
          ∙ ap (λ (ls : Lines). lines_text (ls ++ recorded step start.chip rec))
          (take_front (f.first ∷ f.front) rec start.line size)
          ∙ ap (λ (ls : Lines). lines_text ((f.first ∷ f.front) ++ ls)) again
          ∙ sym whole;
    }

pub recording_holds : (text recording : List ℕ) → IsRecorded text (Ok recording) → Holds recording
unfolding checked_from
recording_holds text recording recorded_is =
    let r = recording_leads text recording recorded_is in
    let start = r.start in
    let step = step_from start in
    let (lines, is) = r.settled in
    let none : early_reply (start.line + 1) start.commands ≡ None = ap
    (early_reply (start.line + 1)) is ∙ recorded_not_early step start.chip lines (start.line + 1) in
    let holds : checked step (start.line + 1) 0 start.chip start.commands
    ≡ Ok (0 + command_count lines) =
    ap (checked step (start.line + 1) 0 start.chip) is
    ∙ recorded_holds step (replies_only (program_of start)) lines 0 start.chip (start.line + 1) in
    let same : checked_from start ≡ Ok (0 + command_count lines) =
    ap (λ e. unless_early e
    (checked_by (checked step (start.line + 1) 0 start.chip start.commands))) none
    ∙ ap checked_by holds in
    (0 + command_count lines, (start, r.loaded, same))

pub recording_again : (text recording : List ℕ) → IsRecorded text (Ok recording)
    → IsRecorded recording (Ok recording)
unfolding recorded_from
recording_again text recording recorded_is =
    let r = recording_leads text recording recorded_is in
    let start = r.start in
    let step = step_from start in
    let (lines, is) = r.settled in
    let none : early_reply (start.line + 1) start.commands ≡ None = ap
    (early_reply (start.line + 1)) is ∙ recorded_not_early step start.chip lines (start.line + 1) in
    let same = ap (λ e. unless_early e (unless_too_long (recording_of recording start))) none in
    (start, r.loaded, same ∙ ap unless_too_long r.is ∙ r.short)
