use Rattle.std.proofs.Common.{◌≡◌, ap, ◌∙◌, sym, None}
use Rattle.ga_node.specs.Need.{need_of}
use Rattle.ga_node.specs.declared.need.Need.TheVariants as need
use Rattle.ga_chip.specs.Part.{Post}
use Rattle.ga_chip.proofs.Asked.{asked_after, post_need, told_post}
use Rattle.ga_chip.proofs.Parts.{name_after}
use Rattle.ga_chip.proofs.part.NodePart.done_post.Goals as goal

pub unreachable-requires : goal.unreachable-requires
unreachable-requires c =
    c.in_default.not-Post c.args.to c.requires.2
    (c.need.ensures ∙ ap (λ p. need_of p.state) c.self.view_is
    ∙ post_need c.args.self.now c.requires.0 c.args.to c.requires.1 c.requires.2
    (told_post _ c.args.to c.requires.1 c.requires.2 c.requires.3))

pub post-requires : goal.post-requires
post-requires c =
    let by_need : need_of c.args.self.now.state ≡ need.Post c.args.to c.requires.2 =
    post_need c.args.self.now c.requires.0 c.args.to c.requires.1 c.requires.2
    (told_post _ c.args.to c.requires.1 c.requires.2 c.requires.3) in
    let by_call : need_of c.args.self.now.state ≡ need.Post c.in-Post.field-0 c.in-Post.word =
    sym (c.need.ensures ∙ ap (λ p. need_of p.state) c.self.view_is) ∙ c.in-Post.is in
    cc

pub returns-clause-part : goal.returns-clause-part
returns-clause-part c = λ side cell word post.
    asked_after c.args.self.now side None (Post c.args.to cell word)
    (c.post.result, c.post.new.self) (told_post _ c.args.to cell word post) (c.post.ensures cell)

pub returns-clause-node : goal.returns-clause-node
returns-clause-node c =
    ap (λ r. r.1.state.node) (returns-clause-part c c.requires.0 c.requires.1 c.requires.2
    c.requires.3) ∙ name_after c.args.self.now c.requires.0 None
