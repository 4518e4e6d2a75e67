use Rattle.std.proofs.Common.{◌≡◌, ◌≢◌, Bool, false, true, not, refl, subst, sym, ◌∙◌}
use Rattle.ga_place.specs.Cell.{name_at}
use Rattle.ga_chip.specs.Chip.{tried}
use Rattle.ga_chip.specs.declared.outcome.Outcome.TheVariants.{Moved}
use Rattle.ga_chip.proofs.chip.Chip.sleeps_at.Goals as goal

is_false : (b : Bool) → not b ≡ true → b ≡ false
is_false false h = refl
is_false true h = absurd (cc)

pub returns : goal.returns
returns c = λ side asleep.
    subst (λ chip. (tried chip (name_at c.args.index) side).0 ≢ Moved) c.self.view_is
    (c.self.invariant.still c.args.index side c.requires
    (sym c.contains.ensures ∙ is_false c.contains.result asleep))
