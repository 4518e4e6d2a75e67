use Rattle.ga_report.proofs.Plain.{texts_are_plain}
use Rattle.ga_report.proofs.laws.escaped_texts.Goals as goal

pub returns : goal.returns
returns c = texts_are_plain
