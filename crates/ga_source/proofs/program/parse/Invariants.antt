use Rattle.ga_source.specs.inner.Token.{texts_left}
use Rattle.ga_source.proofs.Reading.{Taking}
use Rattle.ga_source.proofs.program.parse.Given as goal

abbrev pub invariant-loop-run : goal.invariant-loop-run
invariant-loop-run l = Taking l.text l.taken l.is_behind_node l.parser (texts_left l.run-iterator)
