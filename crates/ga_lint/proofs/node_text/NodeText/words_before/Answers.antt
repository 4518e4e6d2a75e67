use Rattle.std.proofs.Common.{◌∙◌, map, ap, sym}
use Rattle.std.proofs.lemmas.List.{take-map}
use Rattle.ga_disasm.specs.Disassembling.{item_view}
use Rattle.ga_lint.proofs.node_text.NodeText.words_before.Goals as goal

pub returns : goal.returns
returns c =
    ap (map item_view) c.front.ensures
    ∙ sym (take-map item_view c.args.address c.args.self.now.words.now)
