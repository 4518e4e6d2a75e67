use Rattle.std.proofs.Common.{◌∙◌, Some, ap, refl, sym}
use Rattle.ga_race.specs.Shown.{take_count}
use Rattle.ga_race.specs.declared.found.SideWord.{SideWord}
use Rattle.ga_race.proofs.Details.{early_by}
use Rattle.ga_race.proofs.race_watch.RaceWatch.look_back.Goals as goal

pub returns-in-Some-clause-race : goal.returns-in-Some-clause-race
returns-in-Some-clause-race c = λ w shown race is.
    let left_out : SideWord = record {
      side = c.args.side;
      word = c.args.word;
      writer = c.args.node;
      post = Some c.args.post;
    } in
    early_by w c.args.self.now c.find.new.self c.args.node c.args.cell c.args.side c.in-Some.take
    left_out c.args.post race c.in-Some.ensures.kept
    (sym (shown.left_at c.args.cell c.in-Some.ensures.bound) ∙ ap take_count c.in-Some.ensures.kept)
    (c.in-Some.ensures.early w shown) refl refl refl c.find.ensures.race is
