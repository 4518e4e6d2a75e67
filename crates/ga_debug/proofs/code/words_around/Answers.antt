use Rattle.std.proofs.Common.{◌≡◌, ◌∙◌, ℕ, ◌+◌, List, ◌++◌, ap, arith, map, string_bytes, sym}
use Rattle.ga_asm.specs.Image.{labels_of}
use Rattle.ga_disasm.specs.Disassembling.{item_view}
use Rattle.ga_dump.proofs.Lines.{next_line}
use Rattle.ga_debug.specs.Code.{word_line}
use Rattle.ga_debug.proofs.code.words_around.Goals as goal

pub loop-index-preserved : goal.loop-index-preserved
loop-index-preserved c =
    let line : ℕ → List ℕ = λ index. word_line (labels_of c.args.labels.now.entries) c.args.at
    c.args.ram.now (map item_view c.args.items.now) (c.args.first + index) in
    let index = c.loop-index.index in
    c.in_ok-push_word_line.ensures ∙ ap (λ text. text ++ line index) c.loop-index.invariant
    ∙ sym (next_line line index)
