use Rattle.std.proofs.Common.{◌<◌, ◌^◌, arith, string_bytes}
use Rattle.ga_views.specs.Race.{IsReport}
use Rattle.ga_views.proofs.Reported.{reported}
use Rattle.ga_views.proofs.race.judged.Goals as goal

pub returns-in-Ok : goal.returns-in-Ok
returns-in-Ok c =
    let few : c.args.turns < 2 ^ 32 = omega (arith, c.ranges.turns.fits) in
    let made : IsReport c.args.chip c.args.turns c.in-Ok.report = record {
      so = c.in-Ok.ensures.verdict;
      steps = c.in-Ok.ensures.steps;
      reads = c.in-Ok.ensures.reads;
      shown = c.in-Ok.ensures.shown;
      turn = c.in-Ok.ensures.turn;
      within = c.in-Ok.ensures.most;
      all = c.in-Ok.ensures.open;
    } in
    reported string_bytes c.args.chip c.in_ok-start.start c.args.turns c.args.loading.now
    c.args.witness c.args.text.now c.in-Ok.report c.shown.result c.in_ok-start.ensures made
    (c.shown.ensures c.args.turns few)
