use Rattle.std.proofs.Common.{◌∙◌, ◌++◌, ◌+◌, ◌-◌, ap, arith, rules, string_bytes, sym}
use Rattle.ga_waits.specs.Label.{images_in}
use Rattle.ga_trace.proofs.Tracing.{behind, made_told, quiet_bound, trace_done, trace_ended, trace_next, trace_over}
use Rattle.ga_trace.specs.Traced.{quiet_after, traced_from}
use Rattle.ga_trace.proofs.traced.trace_within.Goals as goal

pub returns-then-left-eq0 : goal.returns-then-left-eq0
returns-then-left-eq0 c =
    trace_done (images_in c.args.images) c.args.node _ c.loop-number.number c.loop-number.quiet
    c.loop-number.left c.loop-number.chip (string_bytes c.loop-number.text) _ c.if-left-eq0.true
    c.loop-number.invariant.told

pub returns-then-is_over : goal.returns-then-is_over
returns-then-is_over c =
    trace_over (images_in c.args.images) c.args.node c.args.most c.loop-number.number
    c.loop-number.quiet c.loop-number.left c.loop-number.chip (string_bytes c.loop-number.text) _ _
    c.loop-number-test.true (search rules) (sym c.is_over.ensures ∙ c.if-is_over.true)
    c.in_ok-push_rest_line.ensures c.loop-number.invariant.told

pub loop-number-preserved : goal.loop-number-preserved
loop-number-preserved c =
    let going = sym c.is_over.ensures ∙ c.if-is_over.false in
    let text = string_bytes c.loop-number.text in
    let line = made_told (images_in c.args.images) c.args.node c.loop-number.number
    c.loop-number.chip c.made_turn-made.new.chip c.made_turn-made.result c.state.result.now
    c.made_turn-made.ensures c.state.ensures in
    let made = c.made_turn-made.ensures in
    record {
      told = ap (λ q. behind (string_bytes c.push_made.new.text)
          (traced_from (images_in c.args.images) c.args.node
          (c.args.most - (c.loop-number.number + 1)) (c.loop-number.number + 1) q
          c.less_by-left.result c.made_turn-made.new.chip)) c.quiet_after-quiet.ensures.value
          ∙ ap (λ s. behind (string_bytes c.push_made.new.text)
          (traced_from (images_in c.args.images) c.args.node
          (c.args.most - (c.loop-number.number + 1)) (c.loop-number.number + 1)
          (quiet_after c.loop-number.quiet c.made_turn-made.result.moved) s
          c.made_turn-made.new.chip)) c.less_by-left.ensures
          ∙ trace_next (images_in c.args.images) c.args.node c.args.most c.loop-number.number
          c.loop-number.quiet c.loop-number.left c.loop-number.chip c.made_turn-made.new.chip text
          (string_bytes c.push_made.new.text) c.made_turn-made.result.moved
          c.made_turn-made.result.step _ c.loop-number-test.true (search rules) going made.chip
          made.moved made.step (c.in_ok-push_made.ensures ∙ ap (λ l. text ++ l) line)
          c.loop-number.invariant.told;
      quiet = omega (
        arith,
        c.quiet_after-quiet.ensures.most,
        quiet_bound c.args.node c.loop-number.quiet c.loop-number.chip
            c.loop-number.invariant.quiet going,
      );
    }

pub returns : goal.returns
returns c =
    trace_ended (images_in c.args.images) c.args.node c.args.most c.loop-number.number
    c.loop-number.quiet c.loop-number.left c.loop-number.chip (string_bytes c.loop-number.text) _ _
    c.loop-number-test.false c.in_ok-push_end.ensures c.loop-number.invariant.told
