use Rattle.std.proofs.Common.{◌∙◌, ap, length, subst}
use Rattle.ga_port.specs.Rule.{AreSmall, row_of}
use Rattle.ga_port.proofs.Ends.{starts}
use Rattle.ga_port.proofs.Rows.{row_length}
use Rattle.ga_port.proofs.cells.Cells.open.Goals as goal

pub of_words-requires : goal.of_words-requires
of_words-requires c =
    let cells = c.words.ensures.words ∙ c.cells.ensures in
    starts c.args.chip.now c.as_slice.result.now c.legal.ensures
    (subst AreSmall cells c.in_ok-words.ensures.small)
    (c.as_slice.ensures.value ∙ c.in_ok-words.ensures.words ∙ ap row_of cells)

pub invariant_of-result : goal.invariant_of-result
invariant_of-result c =
    let cells = c.words.ensures.words ∙ c.cells.ensures in (
      c.in_ok-table.ensures.0
          ∙ ap length (c.as_slice.ensures.value ∙ c.in_ok-words.ensures.words ∙ ap row_of cells)
          ∙ row_length c.args.chip.now.cells c.legal.ensures.cells,
      c.in_ok-table.ensures.1,
      c.in_ok-room.ensures.len,
      c.in_ok-room.ensures.capacity,
    )
