use Rattle.std.proofs.Common.{◌≡◌, ◌∙◌, arith, ap, sym, subst}
use Rattle.std.specs.Prelude.{IsUtf8}
use Rattle.std.specs.List.{flat_map, range_with_len}
use Rattle.ga_dump.specs.Memory.{memory_dump, memory_row}
use Rattle.ga_dump.proofs.Characters.{utf8-lines, utf8-memory_row}
use Rattle.ga_dump.proofs.memory.memory_text.Goals as goal

pub text_of-requires : goal.text_of-requires
text_of-requires c =
    let ram = c.ram-ram.result.now in
    subst IsUtf8 (sym c.loop-row.invariant)
    (utf8-lines (memory_row ram) (utf8-memory_row ram) (range_with_len 0 c.loop-row.row))

pub returns : goal.returns
unfolding memory_dump
returns c =
    let all : c.loop-row.row ≡ 8 = omega arith in
    c.text_of.ensures ∙ c.loop-row.invariant
    ∙ ap (λ rows. flat_map (memory_row c.ram-ram.result.now) (range_with_len 0 rows)) all
    ∙ ap (λ ram. flat_map (memory_row ram) (range_with_len 0 8)) c.ram-ram.ensures.value
