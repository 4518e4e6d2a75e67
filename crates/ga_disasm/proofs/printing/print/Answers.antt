use Rattle.std.proofs.Common.{ap, map, arith, string_bytes}
use Rattle.std.proofs.lemmas.List.{drop_all}
use Rattle.ga_disasm.specs.Disassembling.{item_view}
use Rattle.ga_disasm.proofs.RoundTrip.{is_source_text}
use Rattle.ga_disasm.proofs.Writing.{all_written}
use Rattle.ga_disasm.proofs.printing.print.Goals as goal

pub returns-clause-text : goal.returns-clause-text
returns-clause-text c =
    all_written _ _ c.loop-item.in_data _ (ap (map item_view)
    (drop_all c.loop-item.item-index c.args.items.now (omega arith))) c.loop-item.invariant

pub returns-clause-source : goal.returns-clause-source
returns-clause-source c =
    is_source_text (string_bytes c.loop-item.text) (map item_view c.args.items.now)
    (returns-clause-text c)
