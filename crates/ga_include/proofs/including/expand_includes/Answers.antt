use Rattle.std.proofs.Common.{map}
use Rattle.std.proofs.lemmas.Result.{IfErr-weaker, IfOk-weaker}
use Rattle.ga_include.specs.File.{file_of}
use Rattle.ga_include.specs.Including.{whole_of}
use Rattle.ga_include.proofs.Fine.{lines_have_origins, wants_absent}
use Rattle.ga_include.proofs.Plain.{plain_stays}
use Rattle.ga_include.proofs.including.expand_includes.Goals as goal

pub returns-clause-lines : goal.returns-clause-lines
returns-clause-lines c =
    IfOk-weaker c.whole_text.result _ _ (λ made h.
    lines_have_origins (map file_of c.args.files.now) (whole_of made) h) c.whole_text.ensures.text

pub returns-clause-wanted : goal.returns-clause-wanted
returns-clause-wanted c =
    IfErr-weaker c.whole_text.result _ _ (λ error h.
    wants_absent (map file_of c.args.files.now) error h) c.whole_text.ensures.trouble

pub returns-clause-plain : goal.returns-clause-plain
returns-clause-plain c = plain_stays (map file_of c.args.files.now)
