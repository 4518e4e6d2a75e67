use Rattle.std.specs.Prelude.{is_some}
use Rattle.std.proofs.Common.{◌≡◌, ℕ, ◌+◌, ap, ◌∙◌, length, refl, sym, Option, Some, None}
use Rattle.std.specs.Option.{option_to_list}
use Rattle.ga_chip.specs.Part.{count_at}
use Rattle.ga_chip.proofs.Tries.{part_at}
use Rattle.ga_chip.proofs.chip.Chip.ledger.Goals as goal
use mir.Val.{bool_byte}

pending_byte : (o : Option ℕ) → length (option_to_list o) ≡ bool_byte (is_some o)
pending_byte None = refl
pending_byte (Some word) = refl

pub returns-clause-balanced : goal.returns-clause-balanced
returns-clause-balanced c =
    c.written.ensures
    ∙ c.self.invariant.legal.balanced c.args.node c.in-Some-Some.other c.in-Some-Some.at c.args.side
    c.index-2.result.now c.index-4.result.now (sym c.in-Some-Some.ensures'.number)
    (sym c.in-Some-Some.ensures.value)
    (part_at (record { parts = c.self.inside.parts.items; cells = c.self.inside.cells }) c.args.node
    c.index.result c.index-2.result.now c.self.invariant.legal.parts c.index.ensures.value
    c.index.ensures.bound c.index-2.ensures)
    (part_at (record { parts = c.self.inside.parts.items; cells = c.self.inside.cells })
    c.in-Some-Some.other c.index-3.result c.index-4.result.now c.self.invariant.legal.parts
    c.index-3.ensures.value c.index-3.ensures.bound c.index-4.ensures)
    ∙ ap (λ n. count_at c.args.side c.index-4.result.now.read + n)
    (ap (λ o. length (option_to_list o)) (sym c.pending.ensures)
    ∙ pending_byte c.pending.result ∙ ap bool_byte (sym c.is_some.ensures) ∙ sym c.from.ensures)
    ∙ ap (λ n. n + c.from.result) (sym c.read.ensures)
