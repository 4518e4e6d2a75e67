use Rattle.std.proofs.Common.{◌≡◌, [], refl, sym, subst, rules}
use Rattle.ga_chip.specs.Chip.{reset_chip, stream_opened}
use Rattle.ga_chip.specs.Legal.{DifferInBreaks}
use Rattle.ga_chip.specs.Run.{SetBreak, happened}
use Rattle.ga_law_examples.proofs.Fed.{broken}
use Rattle.ga_law_examples.proofs.pieces.opened.Goals as goal

pub returns : goal.returns
returns c =
    let chip = stream_opened reset_chip c.args.root in
    let is : c.set_break.new.self ≡ happened chip (SetBreak c.args.held 0x1D5) = search rules in
    record {
      first = c.set_break.new.self;
      legal = c.legal.ensures;
      opened = subst (λ one. DifferInBreaks one chip) (sym is) (broken chip c.args.held 0x1D5);
      events = [];
      leads = refl;
      fed = refl;
    }
