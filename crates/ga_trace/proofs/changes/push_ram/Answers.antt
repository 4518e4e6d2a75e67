use Rattle.std.proofs.Common.{◌≡◌, ◌∙◌, ◌++◌, ap, append_assoc, arith, string_bytes, sym}
use Rattle.std.specs.List.{flat_map, range_with_len}
use Rattle.ga_dump.proofs.Lines.{next_line}
use Rattle.ga_trace.specs.Line.{ram_change, ram_changes}
use Rattle.ga_trace.proofs.changes.push_ram.Goals as goal

pub loop-index-preserved : goal.loop-index-preserved
loop-index-preserved c =
    let word = ram_change c.args.old.now c.args.new.now in
    let index = c.loop-index.index in
    let old = string_bytes c.args.text.now in
    c.in_ok-push_ram_word.ensures ∙ ap (λ text. text ++ word index) c.loop-index.invariant
    ∙ append_assoc old (flat_map word (range_with_len 0 index)) (word index)
    ∙ ap (λ text. old ++ text) (sym (next_line word index))

pub returns : goal.returns
unfolding ram_changes
returns c =
    let word = ram_change c.args.old.now c.args.new.now in
    let all : c.loop-index.index ≡ 64 = omega arith in
    c.loop-index.invariant
    ∙ ap (λ count. string_bytes c.args.text.now ++ flat_map word (range_with_len 0 count)) all
