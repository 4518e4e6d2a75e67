use Rattle.ga_source.proofs.Names.{label_read, no_label}
use Rattle.ga_source.proofs.meaning.label_name.Goals as goal

pub returns-then-last-ne58-clause-value : goal.returns-then-last-ne58-clause-value
returns-then-last-ne58-clause-value c =
    no_label c.args.text.now c.in_ok-last.name.now c.in_ok-last.last.now
    c.in_ok-last.ensures.cases.0 c.if-last-ne58.true

pub returns-clause-value : goal.returns-clause-value
returns-clause-value c =
    label_read (λ n. n.now) c.args.text.now c.in_ok-last.name.now c.in_ok-last.last.now
    c.name_in.result c.in_ok-last.ensures.cases.0 c.if-last-ne58.false c.name_in.ensures.value
