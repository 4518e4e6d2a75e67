use Rattle.std.proofs.Common.{◌≡◌, ◌∙◌, None, true, sym, rules}
use Rattle.ga_place.specs.Node.{node_named}
use Rattle.ga_source.proofs.Names.{no_node_read}
use Rattle.ga_source.proofs.meaning.meaning_at.Goals as goal
use Rattle.ga_source.proofs.meaning.meaning_at.Goals.{then-is_behind_node+in_default, else-is_behind_node}

pub returns-clause-value : goal.returns-clause-value
returns-clause-value c =
    let none : c.args.is_behind_node ≡ true → node_named c.args.text.now ≡ None =
    elim c.if-is_behind_node.branch [
      | then-is_behind_node+in_default w ↦ λ behind. search rules
      | else-is_behind_node w ↦ λ behind. cc
    ] in
    c.plain_meaning.ensures.value ∙ sym (no_node_read c.args.is_behind_node c.args.text.now none)
