use Rattle.std.proofs.Common.{◌≡◌, ◌∙◌, ◌<◌, ◌≤◌, ◌+◌, ◌++◌, ◌-◌, ap, arith, length, string_bytes, sym}
use Rattle.ga_waits.specs.Label.{images_in}
use Rattle.ga_wave.specs.Wave.{shown_names, text_before, time_line, turn_text, waveform}
use Rattle.ga_wave.proofs.Fitting.{at_end, judged, refused, step, too_long}
use Rattle.ga_wave.proofs.tracer.fits.Goals as goal

pub loop-turn-preserved : goal.loop-turn-preserved
loop-turn-preserved c =
    let images = images_in c.args.images in
    let names = shown_names c.args.nodes.now in
    let start = c.args.chip in
    let before = c.loop-turn.invariant.0 in
    let old = string_bytes c.loop-turn.text in
    let few : length old ≤ c.loop-turn.left = omega arith in
    let same : c.loop-turn.left - c.len-left.result ≡ c.loop-turn.left - length old = omega arith in
    let new_is = c.in_ok-push_turn.ensures.text start names before
    ∙ ap (λ t. t ++ turn_text images names start c.loop-turn.turn) c.clear.ensures.bytes in (
      c.in_ok-push_turn.ensures.goes_on start names before,
      ap (λ left. left + length (text_before images names start (c.loop-turn.turn + 1))) same
          ∙ step images names start c.loop-turn.turn c.loop-turn.left c.args.most old _
          c.loop-turn.invariant.1 few new_is,
    )

pub returns-then-len-left : goal.returns-then-len-left
unfolding waveform
returns-then-len-left c =
    let images = images_in c.args.images in
    let names = shown_names c.args.nodes.now in
    let old = string_bytes c.loop-turn.text in
    let long : c.loop-turn.left < length old = omega arith in
    let few : c.loop-turn.turn ≤ c.args.turns = omega arith in
    refused c.args.most _
    (too_long images names c.args.chip c.loop-turn.turn c.args.turns c.loop-turn.left c.args.most
    old c.loop-turn.invariant.1 long few)

pub returns : goal.returns
unfolding waveform
returns c =
    let images = images_in c.args.images in
    let names = shown_names c.args.nodes.now in
    let old = string_bytes c.loop-turn.text in
    let all : c.loop-turn.turn ≡ c.args.turns = omega arith in
    let so_far = ap (λ turn. c.loop-turn.left
    + length (text_before images names c.args.chip turn)) all in
    let new = string_bytes c.push_end.new.text in
    let whole = length (text_before images names c.args.chip c.args.turns
    ++ time_line c.args.turns) in
    let at = at_end images names c.args.chip c.args.turns c.loop-turn.left c.args.most old new
    (sym so_far ∙ c.loop-turn.invariant.1) c.in_ok-push_end.ensures in
    let same : c.loop-turn.left + whole ≡ c.args.most + c.len-2.result = omega arith in
    judged c.loop-turn.left c.args.most c.len-2.result whole same
