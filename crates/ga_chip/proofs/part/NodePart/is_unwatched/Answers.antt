use Rattle.std.proofs.Common.{◌∙◌, ◌%◌, ◌^◌, ap, refl, sym, rules, ◌≡◌, false}
use Rattle.ga_node.specs.Need.{need_of}
use Rattle.ga_node.specs.State.{is_fetch}
use Rattle.ga_chip.proofs.Plain.{free_asks, unset_free}
use Rattle.ga_chip.proofs.part.NodePart.is_unwatched.Goals as goal

pub returns : goal.returns
returns c = λ yes side.
    let off : c.is_on.result ≡ false = search rules in
    free_asks c.args.self.now side (need_of c.args.self.now.state)
    (unset_free (is_fetch c.args.self.now.state.place) c.args.self.now.pass c.args.self.now.breaks
    (c.args.self.now.state.p % 2 ^ 9)
    (ap (λ part. part.breaks) (sym c.self.view_is) ∙ (c.is_on.ensures off).0)) refl
