use Rattle.std.proofs.Common.{◌∙◌, ap, sym}
use Rattle.ga_chip.specs.Chip.{Chip, unless_refused, with_words}
use Rattle.ga_chip.specs.Run.{Piece, happened}
use Rattle.ga_chip.specs.Stream.{feed_refusal}
use Rattle.ga_chip.proofs.Awake.{placed_knows}
use Rattle.ga_chip.proofs.Feeding.{fed_at, feed_refused_at, same_part}
use Rattle.ga_chip.proofs.chip.Chip.feed.Goals as goal

pub returns-in-Some-clause-refused : goal.returns-in-Some-clause-refused
returns-in-Some-clause-refused c =
    let chip : Chip = record { parts = c.self.inside.parts.items; cells = c.self.inside.cells } in
    let refused = feed_refused_at chip chip c.args.node c.index-index.result
    c.index_mut-part.result.now c.in-Some.fault c.self.invariant.legal c.index-index.ensures.value
    c.index-index.ensures.bound c.index_mut-part.ensures.value
    (sym c.feed_refusal.ensures ∙ c.in-Some.is) in
    sym (ap (with_words c.args.words)
    (ap (λ z. feed_refusal z c.args.node) (sym c.self.view_is) ∙ refused.0))

pub returns-in-Some-clause-chip : goal.returns-in-Some-clause-chip
returns-in-Some-clause-chip c =
    let chip : Chip = record { parts = c.self.inside.parts.items; cells = c.self.inside.cells } in
    (feed_refused_at chip (happened chip (Piece c.args.node c.args.words.items)) c.args.node
    c.index-index.result c.index_mut-part.result.now c.in-Some.fault c.self.invariant.legal
    c.index-index.ensures.value c.index-index.ensures.bound c.index_mut-part.ensures.value
    (sym c.feed_refusal.ensures ∙ c.in-Some.is)).1
    ∙ ap (λ z. unless_refused (feed_refusal z c.args.node)
    (happened z (Piece c.args.node c.args.words.items)) z) c.self.view_is

pub invariant_of-self-2 : goal.invariant_of-self-2
invariant_of-self-2 c =
    let chip : Chip = record { parts = c.self.inside.parts.items; cells = c.self.inside.cells } in
    let after = fed_at chip c.args.node c.index-index.result c.index_mut-part.result.now
    c.feed.new.self c.args.words.items c.self.invariant.legal c.index-index.ensures.value
    c.index-index.ensures.bound c.index_mut-part.ensures.value
    (sym c.feed_refusal.ensures ∙ c.in_default.is) c.feed.ensures.part in
    placed_knows chip c.self.inside.awake c.insert.new.self c.index-index.result c.feed.new.self
    c.self.invariant c.insert.ensures after.2

pub returns-clause-refused : goal.returns-clause-refused
returns-clause-refused c =
    let chip : Chip = record { parts = c.self.inside.parts.items; cells = c.self.inside.cells } in
    let after = fed_at chip c.args.node c.index-index.result c.index_mut-part.result.now
    c.feed.new.self c.args.words.items c.self.invariant.legal c.index-index.ensures.value
    c.index-index.ensures.bound c.index_mut-part.ensures.value
    (sym c.feed_refusal.ensures ∙ c.in_default.is) c.feed.ensures.part in
    sym (ap (with_words c.args.words)
    (ap (λ z. feed_refusal z c.args.node) (sym c.self.view_is) ∙ after.0))

pub returns-clause-chip : goal.returns-clause-chip
returns-clause-chip c =
    let chip : Chip = record { parts = c.self.inside.parts.items; cells = c.self.inside.cells } in
    let after = fed_at chip c.args.node c.index-index.result c.index_mut-part.result.now
    c.feed.new.self c.args.words.items c.self.invariant.legal c.index-index.ensures.value
    c.index-index.ensures.bound c.index_mut-part.ensures.value
    (sym c.feed_refusal.ensures ∙ c.in_default.is) c.feed.ensures.part in
    after.1 ∙ ap (λ z. unless_refused (feed_refusal z c.args.node)
    (happened z (Piece c.args.node c.args.words.items)) z) c.self.view_is

pub returns-clause-empty : goal.returns-clause-empty
returns-clause-empty c = λ none.
    let chip : Chip = record { parts = c.self.inside.parts.items; cells = c.self.inside.cells } in
    same_part chip c.args.node c.index-index.result c.index_mut-part.result.now c.feed.new.self
    c.self.invariant.legal c.index-index.ensures.value c.index-index.ensures.bound
    c.index_mut-part.ensures.value (c.feed.ensures.empty none) ∙ c.self.view_is
