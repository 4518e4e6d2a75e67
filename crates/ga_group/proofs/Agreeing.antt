-- Runs of workers agree on their common steps, since they are runs.
use Rattle.std.proofs.Common.{◌≡◌, ◌∙◌, List, Some, refl, sym, ap}
use Rattle.ga_chip.specs.declared.outcome.Try.{Try}
use Rattle.ga_chip.specs.Chip.{Chip, part_of}
use Rattle.ga_chip.specs.Laws.{Agree}
use Rattle.ga_chip.specs.Run.{ran, tries_of}
use Rattle.ga_chip.proofs.Confluence.{confluence}
use Rattle.ga_chip.proofs.Streams.{pieces_agree, same_pieces}
use Rattle.ga_group.specs.Laws.{AreAlike, LeaveAlike, PlansAgree, RunAgrees}

agree : (one two : Chip) (tries others : List Try) → AreAlike one two tries others
    → Agree one two (tries_of tries) (tries_of others)
agree one two tries others alike =
    confluence one two (tries_of tries) (tries_of others) alike.first alike.second alike.chips
    alike.sides (pieces_agree one two tries others)

leave_alike : (one two next other : Chip) (tries others : List Try) → AreAlike one two tries others
    → next ≡ ran one (tries_of tries) → other ≡ ran two (tries_of others) → LeaveAlike next other
leave_alike one two next other tries others alike is also name here there at then steps =
    let agreed = agree one two tries others alike in
    let at' : part_of (ran one (tries_of tries)) name ≡ Some here =
    ap (λ c. part_of c name) (sym is) ∙ at in
    let then' : part_of (ran two (tries_of others)) name ≡ Some there =
    ap (λ c. part_of c name) (sym also) ∙ then in
    record {
      state = agreed.ends name here there at' then' steps;
      stream = agreed.left name here there at' then' steps (same_pieces one two name tries others);
    }

pub plans_agree : PlansAgree
plans_agree one two next other plan another turns more run again alike = (
  agree one two run.tries again.tries alike,
  leave_alike one two next other run.tries again.tries alike run.leads again.leads,
)

pub run_agrees : RunAgrees
run_agrees one two next plan turns tries run alike = (
  agree one two run.tries tries alike,
  leave_alike one two next (ran two (tries_of tries)) run.tries tries alike run.leads refl,
)
