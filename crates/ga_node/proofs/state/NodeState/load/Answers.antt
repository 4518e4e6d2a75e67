-- If the place is none of the header's, it is the frame's body.
use Rattle.std.proofs.Common.{◌∙◌, ap, sym}
use Rattle.ga_node.proofs.Loading.{awaits, took}
use Rattle.ga_node.proofs.state.NodeState.load.Goals as goal

pub take_body-requires : goal.take_body-requires
take_body-requires c =
    let body =
    awaits c.self.inside.place c.args.self.now (ap (λ state. state.place) (sym c.self.view_is))
    c.requires c.in_default.not-Completion c.in_default.not-Transfer c.in_default.not-Count in
    record { input = body.input; free = body.free }

pub returns-in_default : goal.returns-in_default
returns-in_default c =
    let body =
    awaits c.self.inside.place c.args.self.now (ap (λ state. state.place) (sym c.self.view_is))
    c.requires c.in_default.not-Completion c.in_default.not-Transfer c.in_default.not-Count in
    c.take_body.ensures ∙ sym (took c.args.self.now c.args.word body)
