use Rattle.std.proofs.Common.{arith, ap, length}
use Rattle.std.proofs.lemmas.List.Splits.{length-slice_split}
use Rattle.std.proofs.lemmas.List.Sums.{count_by-le-length}
use Rattle.std.specs.Prelude.{◌==◌}
use Rattle.ga_transcript.specs.Unmet.{unmet_behind_go}
use Rattle.ga_transcript.proofs.unmet.lines_behind_go.Goals as goal

pub loop-line-init : goal.loop-line-init
loop-line-init c =
    let text = c.args.text.now in (
      ap (unmet_behind_go 1) c.new.ensures,
      omega (
        arith,
        ap length c.new.ensures,
        length-slice_split (λ c. c == 10) text,
        count_by-le-length (λ c. c == 10) text,
      ),
    )
