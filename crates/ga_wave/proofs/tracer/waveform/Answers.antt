use Rattle.std.proofs.Common.{◌≡◌, ◌∙◌, ◌++◌, ap, arith, sym}
use Rattle.ga_waits.specs.Label.{images_in}
use Rattle.ga_wave.specs.Wave.{shown_names, text_before, time_line, turn_text, waveform}
use Rattle.ga_wave.proofs.Fitting.{one_more}
use Rattle.ga_wave.proofs.tracer.waveform.Goals as goal

pub loop-turn-preserved : goal.loop-turn-preserved
loop-turn-preserved c =
    let images = images_in c.args.images in
    let names = shown_names c.args.nodes.now in
    let start = c.args.chip in
    let turn = c.loop-turn.turn in
    let before = c.loop-turn.invariant.0 in (
      c.in_ok-push_turn.ensures.goes_on start names before,
      c.in_ok-push_turn.ensures.text start names before
          ∙ ap (λ t. t ++ turn_text images names start turn) c.loop-turn.invariant.1
          ∙ sym (one_more images names start turn),
    )

pub returns : goal.returns
unfolding waveform
returns c =
    let all : c.loop-turn.turn ≡ c.args.turns = omega arith in
    c.in_ok-push_end.ensures
    ∙ ap (λ t. t ++ time_line c.args.turns)
    (c.loop-turn.invariant.1
    ∙ ap (text_before (images_in c.args.images) (shown_names c.args.nodes.now) c.args.chip) all)
