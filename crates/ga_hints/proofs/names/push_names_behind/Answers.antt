use Rattle.std.proofs.Common.{map}
use Rattle.ga_hints.proofs.Lists.{names_all, names_more, now}
use Rattle.ga_hints.proofs.names.push_names_behind.Goals as goal

pub loop-token-preserved : goal.loop-token-preserved
loop-token-preserved c =
    names_more c.args.keyword.now c.args.tokens.now c.loop-token.token-index _
    c.loop-token.is_behind c.eq-is_behind.result (map now c.loop-token.names.items)
    (map now c.push_if.new.names.items) _ c.loop-token-test.true c.loop-token.invariant
    c.in_ok-push_if.ensures c.eq-is_behind.ensures

pub returns : goal.returns
returns c =
    names_all c.args.keyword.now c.args.tokens.now c.loop-token.token-index
    c.loop-token.is_behind (map now c.loop-token.names.items) _ c.loop-token-test.false
    c.loop-token.invariant
