use Rattle.std.proofs.Common.{rules, arith}
use Rattle.ga_chip.proofs.Members.{none_before, none_before_whole, none_left, none_left_whole, none_yet, found_from, found_whole}
use Rattle.ga_chip.proofs.node_set.NodeSet.next.Goals as goal

pub returns-then-here-ne0-clause-first : goal.returns-then-here-ne0-clause-first
returns-then-here-ne0-clause-first c =
    λ other h below. none_before c.args.self.now c.args.from other (search rules)
    (omega arith) h below

pub loop-at-init : goal.loop-at-init
loop-at-init c =
    λ other h below. none_left c.args.self.now c.args.from other c.if-here-ne0.false h below

pub returns-then-word-ne0-clause-first : goal.returns-then-word-ne0-clause-first
returns-then-word-ne0-clause-first c =
    λ other h below. none_yet c.args.self.now c.args.from c.loop-at.at other c.loop-at.invariant
    (λ later. none_before_whole c.args.self.now c.loop-at.at other (search rules)
    (omega arith) later below) h

pub loop-at-preserved : goal.loop-at-preserved
loop-at-preserved c =
    λ other h below. none_yet c.args.self.now c.args.from c.loop-at.at other c.loop-at.invariant
    (λ later. none_left_whole c.args.self.now c.loop-at.at other c.if-word-ne0.false later below) h

pub returns-then-here-ne0-clause-found : goal.returns-then-here-ne0-clause-found
returns-then-here-ne0-clause-found c =
    λ below. found_from c.args.self.now c.args.from (search rules) (omega arith)

pub returns-then-word-ne0-clause-found : goal.returns-then-word-ne0-clause-found
returns-then-word-ne0-clause-found c =
    λ below. found_whole c.args.self.now c.loop-at.at (search rules) (omega arith)
