use Rattle.std.proofs.Common.{◌≡◌, rules, string_bytes, true}
use Rattle.ga_views.proofs.Reported.{has_shown, witnessed}
use Rattle.ga_views.proofs.race.shown.Goals as goal

pub returns-in-Race : goal.returns-in-Race
returns-in-Race c =
    let report = c.args.report.now in
    let wanted : c.args.witness ≡ true = search rules in
    λ most few made. witnessed string_bytes c.args.chip c.args.loading.now c.args.text.now report
    c.args.witness report.verdict c.in-Race.found c.witness_text.result wanted c.in-Race.is
    (c.witness_text.ensures
    (has_shown c.args.chip most report c.in-Race.found few c.in-Race.is made))
