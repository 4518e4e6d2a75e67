use Rattle.std.proofs.Common.{rules, ◌≡◌, ◌++◌, ◌∷◌, Ok, codes, string_bytes, subst, sym}
use Rattle.ga_transcript.specs.Live.{IsOpened, LiveView}
use Rattle.ga_transcript.specs.Record.{IsRecorded, behind_ends, unless_too_long}
use Rattle.ga_transcript.specs.Reply.{reply_lines}
use Rattle.ga_transcript.proofs.Lives.{said_opened, said_recorded}
use Rattle.ga_transcript.proofs.live.Live.say.Goals as goal

pub invariant_of-self-2 : goal.invariant_of-self-2
invariant_of-self-2 c =
    let live : LiveView = record {
      text = string_bytes c.self.inside.text;
      program = c.self.inside.program;
      chip = c.self.inside.chip;
    } in
    let said : string_bytes c.push_command.new.text
    ≡ live.text ++ 10 ∷ (codes "> " ++ c.args.command.now) = search rules in
    subst (λ text. IsOpened text (Ok (record {
      text = text;
      program = live.program;
      chip = c.reply_or_refusal.new.chip;
    }))) (sym said) (subst (λ chip. IsOpened (live.text ++ 10 ∷ (codes "> " ++ c.args.command.now))
    (Ok (record {
      text = live.text ++ 10 ∷ (codes "> " ++ c.args.command.now);
      program = live.program;
      chip = chip;
    }))) (sym c.in_ok-reply_or_refusal.ensures.chip)
    (said_opened live c.args.command.now c.self.invariant c.requires))

pub returns-clause-shown : goal.returns-clause-shown
returns-clause-shown c = λ recording is.
    let live : LiveView = record {
      text = string_bytes c.self.inside.text;
      program = c.self.inside.program;
      chip = c.self.inside.chip;
    } in
    let command = c.args.command.now in
    let said : string_bytes c.push_command.new.text
    ≡ live.text ++ 10 ∷ (codes "> " ++ command) = search rules in
    let old : IsRecorded live.text (Ok recording) =
    subst (λ (view : LiveView). IsRecorded view.text (Ok recording)) (sym c.self.view_is) is in
    subst (λ text. IsRecorded text (unless_too_long (recording ++ behind_ends
    ((codes "> " ++ command) ∷ reply_lines (string_bytes c.reply_or_refusal.new.text)))))
    (sym said)
    (subst (λ reply. IsRecorded (live.text ++ 10 ∷ (codes "> " ++ command)) (unless_too_long
    (recording ++ behind_ends ((codes "> " ++ command) ∷ reply_lines reply))))
    (sym c.in_ok-reply_or_refusal.ensures.text)
    (said_recorded live command recording c.self.invariant c.requires old))
