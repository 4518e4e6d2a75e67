use Rattle.std.proofs.Common.{◌∙◌, ap, refl, sym}
use Rattle.ga_chip.specs.Chip.{Chip, answer_of, given, placed, refusal, unless_refused}
use Rattle.ga_chip.proofs.Awake.{placed_knows}
use Rattle.ga_chip.proofs.Placed.{given_at, placed_is, refused_at}
use Rattle.ga_chip.proofs.chip.Chip.place.Goals as goal

pub returns-in-Some-clause-chip : goal.returns-in-Some-clause-chip
returns-in-Some-clause-chip c =
    let chip : Chip = record { parts = c.self.inside.parts.items; cells = c.self.inside.cells } in
    (refused_at chip (placed chip c.args.node c.args.words.now c.args.entry) c.args.node
    c.index-index.result c.index_mut-part.result.now c.in-Some.fault c.self.invariant.legal
    c.index-index.ensures.value c.index-index.ensures.bound c.index_mut-part.ensures.value
    (sym c.refusal.ensures ∙ c.in-Some.is)).1
    ∙ ap (λ z. unless_refused (refusal z c.args.node)
    (placed z c.args.node c.args.words.now c.args.entry) z) c.self.view_is

pub invariant_of-self-2 : goal.invariant_of-self-2
invariant_of-self-2 c =
    let chip : Chip = record { parts = c.self.inside.parts.items; cells = c.self.inside.cells } in
    let after = given_at (given c.args.words.now c.args.entry) chip c.args.node c.index-index.result
    c.index_mut-part.result.now c.give.new.self c.self.invariant.legal c.index-index.ensures.value
    c.index-index.ensures.bound c.index_mut-part.ensures.value
    (sym c.refusal.ensures ∙ c.in_default.is) c.give.ensures refl refl refl in
    (placed_knows chip c.self.inside.awake c.insert.new.self c.index-index.result c.give.new.self
    c.self.invariant c.insert.ensures after.2)

pub returns-clause-refused : goal.returns-clause-refused
returns-clause-refused c =
    let chip : Chip = record { parts = c.self.inside.parts.items; cells = c.self.inside.cells } in
    let after = given_at (given c.args.words.now c.args.entry) chip c.args.node c.index-index.result
    c.index_mut-part.result.now c.give.new.self c.self.invariant.legal c.index-index.ensures.value
    c.index-index.ensures.bound c.index_mut-part.ensures.value
    (sym c.refusal.ensures ∙ c.in_default.is) c.give.ensures refl refl refl in
    sym (ap answer_of (ap (λ z. refusal z c.args.node) (sym c.self.view_is) ∙ after.0))

pub returns-clause-chip : goal.returns-clause-chip
returns-clause-chip c =
    let chip : Chip = record { parts = c.self.inside.parts.items; cells = c.self.inside.cells } in
    let after = given_at (given c.args.words.now c.args.entry) chip c.args.node c.index-index.result
    c.index_mut-part.result.now c.give.new.self c.self.invariant.legal c.index-index.ensures.value
    c.index-index.ensures.bound c.index_mut-part.ensures.value
    (sym c.refusal.ensures ∙ c.in_default.is) c.give.ensures refl refl refl in
    after.1
    ∙ ap (λ p. unless_refused (refusal chip c.args.node) p chip)
    (sym (placed_is chip c.args.node c.args.entry c.args.words.now))
    ∙ ap (λ z. unless_refused (refusal z c.args.node)
    (placed z c.args.node c.args.words.now c.args.entry) z) c.self.view_is
