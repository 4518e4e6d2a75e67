use Rattle.std.proofs.Common.{◌≡◌, ◌∙◌, ◌≤◌, ◌+◌, ◌++◌, ap, arith, string_bytes}
use Rattle.ga_wave.specs.Wave.{shown_names, text_before, turn_text}
use Rattle.ga_views.proofs.Pieces.{with_front}
use Rattle.ga_views.proofs.Waving.{failed, part, part_before, part_with, turn_more, written}
use Rattle.ga_views.proofs.trace.Waveform.write.Goals as goal

pub returns-in_err-push_turn-clause-part : goal.returns-in_err-push_turn-clause-part
returns-in_err-push_turn-clause-part g c =
    let made = c.args.self.now in
    let (done, wrote, are) = c.loop-turn.invariant.1 in
    let few : c.loop-turn.turn ≤ made.turns = omega arith in
    failed c.from_residual-in_err-push_turn.result
    (part_before made.live.program.images made.nodes.items made.live.chip made.turns _ _ done _
    wrote c.loop-turn.turn few are)

pub returns-in_err-write_large-clause-part : goal.returns-in_err-write_large-clause-part
returns-in_err-write_large-clause-part g c =
    let made = c.args.self.now in
    let images = made.live.program.images in
    let names = shown_names made.nodes.items in
    let start = made.live.chip in
    let turn = c.loop-turn.turn in
    let old = string_bytes c.loop-turn.piece in
    let (done, wrote, are) = c.loop-turn.invariant.1 in
    let (count, more) = c.in_err-write_large.ensures.part in
    let few : turn + 1 ≤ made.turns = omega arith in
    let piece_is = c.in_ok-push_turn.ensures.text start names c.loop-turn.invariant.0
    ∙ ap (λ shown. old ++ turn_text shown names start turn) c.images.ensures in
    failed c.from_residual-in_err-write_large.result
    (part_with images made.nodes.items start made.turns _ _ done _ wrote _ count (turn + 1) few
    (turn_more images made.nodes.items start made.turns _ _ done old wrote _ turn are piece_is)
    more)

pub loop-turn-preserved : goal.loop-turn-preserved
loop-turn-preserved g c =
    let made = c.args.self.now in
    let images = made.live.program.images in
    let names = shown_names made.nodes.items in
    let start = made.live.chip in
    let turn = c.loop-turn.turn in
    let old = string_bytes c.loop-turn.piece in
    let before = c.loop-turn.invariant.0 in
    let (done, wrote, are) = c.loop-turn.invariant.1 in
    let piece_is = c.in_ok-push_turn.ensures.text start names before
    ∙ ap (λ shown. old ++ turn_text shown names start turn) c.images.ensures in (
      c.in_ok-push_turn.ensures.goes_on start names before,
      with_front _ _ done _ _ wrote
          (turn_more images made.nodes.items start made.turns _ _ done old wrote _ turn are
          piece_is)
          _ _ c.in_ok-write_large.ensures.written,
    )

pub returns-in_err-push_end-clause-part : goal.returns-in_err-push_end-clause-part
returns-in_err-push_end-clause-part g c =
    let made = c.args.self.now in
    let (done, wrote, are) = c.loop-turn.invariant.1 in
    let few : c.loop-turn.turn ≤ made.turns = omega arith in
    failed c.from_residual-in_err-push_end.result
    (part_before made.live.program.images made.nodes.items made.live.chip made.turns _ _ done _
    wrote c.loop-turn.turn few are)

pub returns-clause-written : goal.returns-clause-written
returns-clause-written g c =
    let made = c.args.self.now in
    let images = made.live.program.images in
    let start = made.live.chip in
    let (done, wrote, are) = c.loop-turn.invariant.1 in
    let all : c.loop-turn.turn ≡ made.turns = omega arith in
    written images made.nodes.items start made.turns _ _ done _ wrote c.write_output.result _ _
    (are ∙ ap (text_before images (shown_names made.nodes.items) start) all)
    (c.as_bytes.ensures.value ∙ c.in_ok-push_end.ensures) c.write_output.ensures.written

pub returns-clause-part : goal.returns-clause-part
returns-clause-part g c =
    let made = c.args.self.now in
    let images = made.live.program.images in
    let start = made.live.chip in
    let (done, wrote, are) = c.loop-turn.invariant.1 in
    let all : c.loop-turn.turn ≡ made.turns = omega arith in
    part images made.nodes.items start made.turns _ _ done _ wrote c.write_output.result _ _
    (are ∙ ap (text_before images (shown_names made.nodes.items) start) all)
    (c.as_bytes.ensures.value ∙ c.in_ok-push_end.ensures) c.write_output.ensures.part
