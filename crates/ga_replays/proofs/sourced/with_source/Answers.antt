use Rattle.std.proofs.Common.{◌==◌, ap, arith, length}
use Rattle.std.proofs.lemmas.List.Splits.{length-slice_split}
use Rattle.std.proofs.lemmas.List.Sums.{count_by-le-length}
use Rattle.ga_replays.proofs.sourced.with_source.Goals as goal

pub count_of-requires : goal.count_of-requires
count_of-requires c =
    let text = c.as_str.result.now in
    let lines = ap length c.new-lines.ensures in
    let count = length-slice_split (λ byte. byte == 10) text in
    let few = count_by-le-length (λ byte. byte == 10) text in
    omega arith
