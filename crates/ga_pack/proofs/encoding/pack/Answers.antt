use Rattle.ga_pack.proofs.Encoded.{shapeless_few, shapeless_many}
use Rattle.ga_pack.proofs.encoding.pack.Goals as goal

pub returns-in-empty-clause-refused : goal.returns-in-empty-clause-refused
returns-in-empty-clause-refused c =
    shapeless_few c.args.ops.now c.args.dest c.args.spare c.in-empty.len_below

pub returns-in-len5-up-clause-refused : goal.returns-in-len5-up-clause-refused
returns-in-len5-up-clause-refused c =
    shapeless_many c.args.ops.now c.args.dest c.args.spare c.in-len5-up.len_at_least
