use Rattle.std.proofs.Common.{◌∙◌, ap, refl, sym}
use Rattle.ga_chip.specs.Chip.{Chip, streamed, streaming, with_words}
use Rattle.ga_chip.proofs.Awake.{placed_knows}
use Rattle.ga_chip.proofs.Placed.{given_at, stream_begun_at, stream_refused_at}
use Rattle.ga_chip.proofs.chip.Chip.give_stream.Goals as goal

pub returns-in-Some : goal.returns-in-Some
returns-in-Some c =
    let chip : Chip = record { parts = c.self.inside.parts.items; cells = c.self.inside.cells } in
    let left = stream_refused_at chip c.args.self.now (streamed c.args.self.now c.args.node
    c.args.words.items) c.args.node c.index-index.result c.index_mut-part.result.now c.in-Some.fault
    c.self.view_is (sym c.is_edge.ensures.value ∙ c.if-not-is_edge.false) c.self.invariant.legal
    c.index-index.ensures.value c.index-index.ensures.bound c.index_mut-part.ensures.value
    (sym c.refusal.ensures ∙ c.in-Some.is) in
    record { refused = sym (ap (with_words c.args.words) left.0); chip = left.1 }

pub invariant_of-self-2 : goal.invariant_of-self-2
invariant_of-self-2 c =
    let chip : Chip = record { parts = c.self.inside.parts.items; cells = c.self.inside.cells } in
    let after = given_at (streaming c.args.words.items) chip c.args.node c.index-index.result
    c.index_mut-part.result.now c.give_stream.new.self c.self.invariant.legal
    c.index-index.ensures.value c.index-index.ensures.bound c.index_mut-part.ensures.value
    (sym c.refusal.ensures ∙ c.in_default.is) c.give_stream.ensures refl refl refl in
    placed_knows chip c.self.inside.awake c.insert.new.self c.index-index.result
    c.give_stream.new.self c.self.invariant c.insert.ensures after.2

pub returns : goal.returns
unfolding streamed
returns c =
    let chip : Chip = record { parts = c.self.inside.parts.items; cells = c.self.inside.cells } in
    let left = stream_begun_at (streaming c.args.words.items) chip c.args.self.now c.args.node
    c.index-index.result c.index_mut-part.result.now c.give_stream.new.self c.self.view_is
    (sym c.is_edge.ensures.value ∙ c.if-not-is_edge.false) c.self.invariant.legal
    c.index-index.ensures.value c.index-index.ensures.bound c.index_mut-part.ensures.value
    (sym c.refusal.ensures ∙ c.in_default.is) c.give_stream.ensures refl refl refl in
    record { refused = sym (ap (with_words c.args.words) left.0); chip = left.1 }
