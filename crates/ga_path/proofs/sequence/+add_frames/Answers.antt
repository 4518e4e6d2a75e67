use Rattle.std.proofs.Common.{◌∙◌, ◌++◌, rules, sym, ap}
use Rattle.ga_path.specs.Sequences.{frames, pumps, sent}
use Rattle.ga_path.specs.Stream.{grove, image_of}
use Rattle.ga_path.specs.inner.Branches.{subtrees_of}
use Rattle.ga_path.proofs.Patched.{first_frame, framed}
use Rattle.ga_path.proofs.sequence.+add_frames.Goals as goal

pub returns-clause-words : goal.returns-clause-words
returns-clause-words t c =
    let inner = subtrees_of c.deref.result.now in
    let beside = subtrees_of c.deref-2.result.now in
    let sent_words = sent c.args.part c.in-Branch.node c.unwrap-side.result
    (image_of c.args.images.now c.in-Branch.node)
    (pumps c.args.part (grove c.args.images.now c.in-Branch.node inner)) in
    let beside_words = frames c.args.part (grove c.args.images.now c.args.root beside) in
    c.in_ok-add_frames.ensures.words
    ∙ framed c.args.words.now.items c.extend_from_slice.new.self.items c.add_sent.new.words.items
    sent_words beside_words c.unwrap-side.result c.len-start.result c.word-3.result
    (search rules) (search rules) c.in_ok-add_sent.ensures.words (search rules)
    ∙ ap (λ l. c.args.words.now.items ++ l) (first_frame c.args.part c.args.images.now c.args.root
    c.in-Branch.node c.unwrap-side.result (subtrees_of c.args.branches.now) inner beside
    (search rules) (sym c.side_to.ensures.value ∙ c.unwrap-side.ensures))
