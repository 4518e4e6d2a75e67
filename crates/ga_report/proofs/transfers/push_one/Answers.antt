use Rattle.std.proofs.Common.{◌∙◌, ◌≤◌, [], ◌∷◌, ◌++◌, arith, length, length-append, sym}
use Rattle.std.proofs.lemmas.List.{take-append-le, take_all}
use Rattle.ga_report.proofs.transfers.push_one.Goals as goal

pub returns-in_ok-push-clause-kept : goal.returns-in_ok-push-clause-kept
returns-in_ok-push-clause-kept c =
    let old = c.args.transfers.now.items in
    let new = old ++ c.args.transfer ∷ [] in
    let few : length new ≤ 401 =
    omega (arith, length-append old (c.args.transfer ∷ []), c.len.ensures, c.if-len-lt401.true) in
    c.in_ok-push.ensures.items ∙ sym (take_all 401 new few)

pub returns-else-len-lt401-clause-kept : goal.returns-else-len-lt401-clause-kept
returns-else-len-lt401-clause-kept c =
    let old = c.args.transfers.now.items in
    let full : 401 ≤ length old = omega (arith, c.len.ensures, c.if-len-lt401.false) in
    sym (take_all 401 old c.requires)
    ∙ sym (take-append-le 401 old (c.args.transfer ∷ []) full)
