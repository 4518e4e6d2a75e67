use Rattle.std.proofs.Common.{◌∙◌, ap}
use Rattle.ga_expand.specs.inner.Constants.{constants_in}
use Rattle.ga_expand.proofs.Names.{constant_last}
use Rattle.ga_expand.proofs.Opcodes.{free_after}
use Rattle.ga_expand.proofs.constants.Constants.define.Goals as goal

pub invariant_of-self : goal.invariant_of-self
invariant_of-self c = record {
  free = free_after c.insert.result c.args.name c.args.value c.args.self.now.values.entries
      c.insert.new.self.entries c.requires.free c.args.self.now.free
      c.insert.ensures.entries c.insert.ensures.err;
}

pub returns-clause-ok : goal.returns-clause-ok
returns-clause-ok c =
    ap constants_in c.in_ok-insert.ensures.entries
    ∙ constant_last c.args.name c.args.value c.args.self.now.values.entries c.requires.new
