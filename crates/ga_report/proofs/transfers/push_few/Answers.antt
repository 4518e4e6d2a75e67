use Rattle.std.proofs.Common.{◌∙◌, ◌++◌, ap, append-nil, sym, take}
use Rattle.std.specs.Option.{option_to_list}
use Rattle.std.proofs.lemmas.List.{take_all}
use Rattle.ga_report.proofs.transfers.push_few.Goals as goal

pub returns-in-None-clause-kept : goal.returns-in-None-clause-kept
returns-in-None-clause-kept c =
    let old = c.args.transfers.now.items in
    sym (take_all 401 old c.requires) ∙ ap (take 401) (sym (append-nil old))
    ∙ ap (λ more. take 401 (old ++ option_to_list more)) (sym c.in-None.is)
