use Rattle.std.proofs.Common.{◌∙◌, ap, sym}
use Rattle.std.proofs.lemmas.Iterator.Consumers.{count_from_yields_List}
use Rattle.std.proofs.lemmas.Iterator.Splits.{YieldsList-from_lines}
use Rattle.ga_input.specs.TranscriptFault as spec
use Rattle.ga_input.proofs.transcript_fault.head_line.Goals as goal

pub returns-in-NoGo : goal.returns-in-NoGo
returns-in-NoGo c =
    count_from_yields_List _ c.count.result c.count.ensures.ran
    (YieldsList-from_lines c.args.text.now c.lines.ensures.rest)
    ∙ ap (spec.head_line c.args.text.now) (sym c.in-NoGo.is)
