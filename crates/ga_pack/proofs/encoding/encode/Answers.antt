use Rattle.std.proofs.lemmas.Result.{IfOk-weaker}
use Rattle.ga_pack.proofs.Encoded.{answers_part, answers_word, readable}
use Rattle.ga_pack.proofs.encoding.encode.Goals as goal

pub returns-clause-ops : goal.returns-clause-ops
returns-clause-ops c =
    rw (← c.as_slice.ensures.value)
    (answers_part (λ reading. reading.ops) c.pack.result c.as_slice.result.now
    c.args.packed.now.dest c.args.packed.now.spare
    c.pack.ensures.below c.pack.ensures.reading)

pub returns-clause-dest : goal.returns-clause-dest
returns-clause-dest c =
    answers_part (λ reading. reading.dest) c.pack.result c.as_slice.result.now
    c.args.packed.now.dest c.args.packed.now.spare
    c.pack.ensures.below c.pack.ensures.reading

pub returns-clause-spare : goal.returns-clause-spare
returns-clause-spare c =
    answers_part (λ reading. reading.spare) c.pack.result c.as_slice.result.now
    c.args.packed.now.dest c.args.packed.now.spare
    c.pack.ensures.below c.pack.ensures.reading

pub returns-clause-accepted : goal.returns-clause-accepted
returns-clause-accepted c =
    rw (← c.as_slice.ensures.value)
    (IfOk-weaker c.pack.result _ _ (λ word reading. readable reading) c.pack.ensures.reading)

pub returns-clause-all : goal.returns-clause-all
returns-clause-all c =
    rw (← c.as_slice.ensures.value)
    (answers_word c.pack.result c.as_slice.result.now c.args.packed.now.dest c.args.packed.now.spare
    c.pack.ensures.below c.pack.ensures.reading c.pack.ensures.refused)
