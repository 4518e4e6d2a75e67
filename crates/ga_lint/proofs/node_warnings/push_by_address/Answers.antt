use Rattle.std.proofs.Common.{◌≡◌, ◌∙◌, ℕ, List, ◌++◌, length, ap, sym, append_assoc, arith}
use Rattle.std.proofs.lemmas.List.{length-map}
use Rattle.std.specs.List.{flat_map, range_with_len}
use Rattle.ga_disasm.specs.Disassembling.{item_view}
use Rattle.ga_lint.specs.LabelWarnings.{unused_labels}
use Rattle.ga_lint.specs.NodeWarnings.{by_address, word_kinds, word_warnings}
use Rattle.ga_lint.specs.declared.warning.Warning.{Warning}
use Rattle.ga_lint.specs.inner.NodeText.{node_of}
use Rattle.ga_lint.proofs.Words.{one_more}
use Rattle.ga_lint.proofs.node_warnings.push_by_address.Goals as goal

pub loop-address-preserved : goal.loop-address-preserved
loop-address-preserved c =
    let node = node_of c.args.node.now in
    let name = c.args.name in
    let found : ℕ → List Warning = λ address. unused_labels name node address
    ++ word_warnings name node address word_kinds in
    let address = c.loop-address.address in
    one_more found address c.args.warnings.now.items c.loop-address.warnings.items _
    c.loop-address.invariant
    (c.in_ok-push_word.ensures
    ∙ ap (λ t. t ++ word_warnings name node address word_kinds) c.in_ok-push_labels.ensures
    ∙ append_assoc c.loop-address.warnings.items (unused_labels name node address)
    (word_warnings name node address word_kinds))

pub returns : goal.returns
unfolding by_address
returns c =
    let node = node_of c.args.node.now in
    let name = c.args.name in
    let found : ℕ → List Warning = λ address. unused_labels name node address
    ++ word_warnings name node address word_kinds in
    let words = c.args.node.now.words.now in
    let all : c.loop-address.address ≡ length words = omega (arith, c.loop-address-test.false) in
    c.loop-address.invariant
    ∙ ap (λ n. c.args.warnings.now.items ++ flat_map found (range_with_len 0 n))
    (all ∙ sym (length-map words item_view))
