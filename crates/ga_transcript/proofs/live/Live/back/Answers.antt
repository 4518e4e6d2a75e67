use Rattle.std.proofs.Common.{◌∙◌, Ok, ap, string_bytes, subst, sym}
use Rattle.ga_transcript.specs.Live.{IsBefore, IsOpened, LiveView}
use Rattle.ga_transcript.proofs.Lives.{session_fault}
use Rattle.ga_transcript.proofs.live.Live.back.Goals as goal

pub text_before-requires : goal.text_before-requires
text_before-requires c =
    let live : LiveView = record {
      text = string_bytes c.self.inside.text;
      program = c.self.inside.program;
      chip = c.self.inside.chip;
    } in
    (live, subst (λ text. IsOpened text (Ok live)) (sym c.as_str.ensures.value) c.self.invariant)

pub unreachable-requires : goal.unreachable-requires
unreachable-requires c =
    let live : LiveView = record {
      text = string_bytes c.self.inside.text;
      program = c.self.inside.program;
      chip = c.self.inside.chip;
    } in
    session_fault c.args.count c.as_str.result.now c.as_str-2.result.now live c.in-Err.error
    c.in_default.not-Memory
    (subst (λ text. IsOpened text (Ok live)) (sym c.as_str.ensures.value) c.self.invariant)
    (subst (IsBefore c.args.count c.as_str.result.now) (sym c.as_str-2.ensures.value)
    c.in_ok-text.ensures) c.in-Err.ensures

pub returns-in-Ok-clause-back : goal.returns-in-Ok-clause-back
returns-in-Ok-clause-back c =
    let before = string_bytes c.in_ok-text.text in
    let opened : IsOpened before (Ok (record {
      text = before;
      program = c.in-Ok.program;
      chip = c.in-Ok.chip;
    })) = subst (λ text. IsOpened text (Ok (record {
      text = text;
      program = c.in-Ok.program;
      chip = c.in-Ok.chip;
    }))) c.as_str-2.ensures.value c.in-Ok.ensures in (
      before,
      subst (λ text. IsBefore c.args.count text before) (c.as_str.ensures.value
          ∙ ap (λ (live : LiveView). live.text) c.self.view_is) c.in_ok-text.ensures,
      subst (λ live. IsOpened before (Ok live)) (sym c.replace.ensures.after) opened,
    )
