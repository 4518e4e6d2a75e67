use Rattle.std.proofs.Common.{◌∙◌, map, ap, sym}
use Rattle.std.proofs.lemmas.List.{drop-map}
use Rattle.ga_disasm.specs.Disassembling.{item_view}
use Rattle.ga_lint.proofs.node_text.NodeText.words_from.Goals as goal

pub returns : goal.returns
returns c =
    ap (map item_view) c.rest.ensures
    ∙ sym (drop-map item_view c.args.address c.args.self.now.words.now)
