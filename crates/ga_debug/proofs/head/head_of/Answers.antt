use Rattle.std.proofs.Common.{◌≡◌, ◌∙◌, ap, arith, rules, length, option_map, sym}
use Rattle.std.specs.Prelude.{ok_or}
use Rattle.ga_path.specs.Names.{lists_in}
use Rattle.ga_debug.specs.Head.{Loading, head_in, loading_by, up_to_go}
use Rattle.ga_debug.specs.Command.{words_of}
use Rattle.ga_debug.specs.inner.HeadView.{head_view}
use Rattle.ga_debug.specs.Profile.{profile_line}
use Rattle.ga_debug.specs.declared.replay_error.ReplayError.TheVariants.{BadRoute}
use Rattle.ga_debug.proofs.Heads.{bad_loading, behind_two_lines, fails_as, good_loading, hands_on, nine}
use Rattle.ga_debug.proofs.Room.{lines_left}
use Rattle.ga_debug.proofs.head.head_of.Goals as goal

pub source_of-requires : goal.source_of-requires
source_of-requires c =
    let first = c.in-Some.first.now in
    let room =
    lines_left 10 c.args.text.now first _ (sym c.new-lines.ensures ∙ c.in-Some.ensures.steps) in
    let more = ap length c.in-Some-next.ensures.steps in
    let is : first ≡ profile_line c.args.profile = search rules in
    let size : length first ≡ 9 = ap length is ∙ nine c.args.profile in
    omega arith

pub returns-in_err-routes-clause-head : goal.returns-in_err-routes-clause-head
returns-in_err-routes-clause-head c =
    let line = c.in-Some-next.line.now in
    let rest = c.next-2.new.self in
    let expected = head_in c.args.profile c.args.text.now in
    let head = behind_two_lines c.args.profile c.args.text.now c.in-Some.first.now line _ _ rest
    c.new-lines.ensures c.in-Some.ensures.steps c.in-Some-next.ensures.steps (search rules) in
    hands_on head_view c.from_residual.result expected c.in_err-routes.field-0.0
    c.from_residual.ensures.1
    (fails_as (ok_or (loading_by (words_of line)) BadRoute) expected c.in_err-routes.field-0.0
    (λ e h. head ∙ bad_loading (loading_by (words_of line)) rest e h) c.in_err-routes.ensures)

pub returns-in_err-source-clause-head : goal.returns-in_err-source-clause-head
returns-in_err-source-clause-head c =
    let line = c.in-Some-next.line.now in
    let rest = c.next-2.new.self in
    let expected = head_in c.args.profile c.args.text.now in
    let loading : Loading = option_map (λ list. lists_in list.items) c.in_ok-routes.routes in
    let head = behind_two_lines c.args.profile c.args.text.now c.in-Some.first.now line _ _ rest
    c.new-lines.ensures c.in-Some.ensures.steps c.in-Some-next.ensures.steps (search rules)
    ∙ good_loading (loading_by (words_of line)) loading rest c.in_ok-routes.ensures in
    hands_on head_view c.from_residual-in_err-source.result expected c.in_err-source.field-0.0
    c.from_residual-in_err-source.ensures.1
    (fails_as (up_to_go loading 3 rest) expected c.in_err-source.field-0.0
    (λ e h. head ∙ h) (c.in_err-source.ensures.head loading))

pub returns-clause-head : goal.returns-clause-head
returns-clause-head c =
    let line = c.in-Some-next.line.now in
    let rest = c.next-2.new.self in
    let loading : Loading = option_map (λ list. lists_in list.items) c.in_ok-routes.routes in
    behind_two_lines c.args.profile c.args.text.now c.in-Some.first.now line _ _ rest
    c.new-lines.ensures c.in-Some.ensures.steps c.in-Some-next.ensures.steps (search rules)
    ∙ good_loading (loading_by (words_of line)) loading rest c.in_ok-routes.ensures
    ∙ c.in_ok-source.ensures.head loading
