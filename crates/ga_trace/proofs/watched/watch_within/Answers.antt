use Rattle.std.proofs.Common.{◌∙◌, ◌++◌, ◌+◌, ◌-◌, ap, rules, string_bytes, sym}
use Rattle.ga_waits.specs.Label.{images_in}
use Rattle.ga_trace.specs.Watched.{no_change_line, watched_from}
use Rattle.ga_trace.specs.inner.Traced.{made_line}
use Rattle.ga_trace.proofs.Tracing.{made_told}
use Rattle.ga_trace.proofs.Watching.{made_shown, watch_ended, watch_found, watch_next, watch_quiet}
use Rattle.ga_trace.proofs.watched.watch_within.Goals as goal

pub returns-then-quiet-eq4 : goal.returns-then-quiet-eq4
returns-then-quiet-eq4 c =
    ap (λ t. (t, c.loop-number.chip)) (c.in_ok-push_no_change.ensures
    ∙ ap (λ t. t ++ no_change_line c.args.node c.loop-number.chip) c.loop-number.invariant.nothing)
    ∙ watch_quiet (images_in c.args.images) c.args.node c.args.most c.loop-number.number
    c.loop-number.quiet c.args.what c.args.goal.now c.loop-number.chip _ c.loop-number-test.true
    (search rules) c.loop-number.invariant.told

pub returns-then-changes_to : goal.returns-then-changes_to
returns-then-changes_to c =
    let made = c.made_turn-made.ensures in
    let line = made_told (images_in c.args.images) c.args.node c.loop-number.number
    c.loop-number.chip c.made_turn-made.new.chip c.made_turn-made.result c.state.result.now made
    c.state.ensures in
    let new = made_shown c.args.what c.args.node c.loop-number.number c.loop-number.chip
    c.made_turn-made.new.chip c.made_turn-made.result made c.value_of-end.result
    c.value_in_turn-new.result c.value_of-end.ensures c.value_in_turn-new.ensures in
    watch_found (images_in c.args.images) c.args.node c.args.most c.loop-number.number
    c.loop-number.quiet c.args.what c.args.goal.now c.loop-number.chip c.made_turn-made.new.chip
    c.loop-number.old c.value_in_turn-new.result (string_bytes c.push_made.new.text) _ _
    c.loop-number-test.true (search rules) made.chip c.loop-number.invariant.old
    new (sym c.changes_to.ensures ∙ c.if-changes_to.true)
    (c.in_ok-push_made.ensures ∙ ap (λ t. t
    ++ made_line (images_in c.args.images) c.made_turn-made.result c.state.result.now)
    c.loop-number.invariant.nothing ∙ line)
    c.in_ok-push_change.ensures c.loop-number.invariant.told

pub loop-number-preserved : goal.loop-number-preserved
loop-number-preserved c =
    let made = c.made_turn-made.ensures in
    let new = made_shown c.args.what c.args.node c.loop-number.number c.loop-number.chip
    c.made_turn-made.new.chip c.made_turn-made.result made c.value_of-end.result
    c.value_in_turn-new.result c.value_of-end.ensures c.value_in_turn-new.ensures in
    record {
      told = ap (λ q. watched_from (images_in c.args.images) c.args.node c.args.what c.args.goal.now
          (c.args.most - (c.loop-number.number + 1)) (c.loop-number.number + 1) q
          c.made_turn-made.new.chip) c.quiet_after-quiet.ensures.value
          ∙ watch_next (images_in c.args.images) c.args.node c.args.most c.loop-number.number
          c.loop-number.quiet c.args.what c.args.goal.now c.loop-number.chip
          c.made_turn-made.new.chip c.loop-number.old c.value_in_turn-new.result
          c.made_turn-made.result.moved _ c.loop-number-test.true (search rules) made.chip
          made.moved
          c.loop-number.invariant.old new
          (sym c.changes_to.ensures ∙ c.if-changes_to.false) c.loop-number.invariant.told;
      nothing = c.loop-number.invariant.nothing;
      old = c.value_of-end.ensures;
      quiet = search rules;
    }

pub returns : goal.returns
returns c =
    ap (λ t. (t, c.loop-number.chip)) (c.in_ok-push_no_change-2.ensures
    ∙ ap (λ t. t ++ no_change_line c.args.node c.loop-number.chip) c.loop-number.invariant.nothing)
    ∙ watch_ended (images_in c.args.images) c.args.node c.args.most c.loop-number.number
    c.loop-number.quiet c.args.what c.args.goal.now c.loop-number.chip _ c.loop-number-test.false
    c.loop-number.invariant.told
