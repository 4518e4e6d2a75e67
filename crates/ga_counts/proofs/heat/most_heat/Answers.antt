use Rattle.std.proofs.Common.{◌∙◌, ◌≤◌, ap, map, subst, sym}
use Rattle.std.proofs.lemmas.List.{length-map}
use Rattle.ga_disasm.specs.Disassembling.{item_view}
use Rattle.ga_counts.specs.declared.word_counts.WordCounts.{WordCounts}
use Rattle.ga_counts.specs.Counts.{word_counts}
use Rattle.ga_counts.specs.Heat.{heat, most_heat}
use Rattle.ga_counts.proofs.Heating.{most_end, most_next}
use Rattle.ga_counts.proofs.heat.most_heat.Goals as goal

pub loop-address-preserved : goal.loop-address-preserved
loop-address-preserved c =
    let item = c.index-items-address.result in
    most_next (word_counts c.args.counts.now.words.items c.args.node) c.args.items.now
    c.loop-address.address item c.heat.result c.loop-address.most c.max-most.result _
    c.loop-address-test.true c.index-items-address.is c.loop-address.invariant
    (c.heat.ensures ∙ ap (λ (own : WordCounts). heat c.loop-address.address (item_view item) own)
    c.word.ensures) c.max-most.ensures

pub returns : goal.returns
unfolding most_heat
returns c =
    let items = c.args.items.now in
    most_end (word_counts c.args.counts.now.words.items c.args.node) (map item_view items)
    c.loop-address.address c.loop-address.most _
    (subst (λ n. n ≤ c.loop-address.address) (sym (length-map items item_view))
    c.loop-address-test.false) c.loop-address.invariant
