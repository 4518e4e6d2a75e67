use Rattle.std.proofs.Common.{rules, tests}
use Rattle.std.specs.Str.{str_eq_ignore_ascii_case}
use Rattle.std.proofs.lemmas.Iterator.{YieldsList-from_slice}
use Rattle.std.proofs.lemmas.Iterator.Consumers.{YieldsList-from_copied}
use Rattle.std.proofs.lemmas.Iterator.Search.{find_from_yields_List}
use Rattle.ga_hints.proofs.Lists.{found_map, now}
use Rattle.ga_hints.proofs.nearest.recased.Goals as goal

pub returns : goal.returns
returns c =
    found_map now (str_eq_ignore_ascii_case c.args.word.now) c.args.names.now c.find.result
    (find_from_yields_List (λ name. str_eq_ignore_ascii_case c.args.word.now name.now) _ _
    c.find.result c.find.ensures.ran
    (YieldsList-from_copied (YieldsList-from_slice c.args.names.now cc))
    (λ x b q k. search (rules, tests)))
