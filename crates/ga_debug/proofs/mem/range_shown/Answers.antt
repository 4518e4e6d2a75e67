use Rattle.std.proofs.Common.{◌≡◌, ◌∙◌, ℕ, List, ◌++◌, ap, arith, string_bytes, sym}
use Rattle.ga_dump.proofs.Lines.{next_line}
use Rattle.ga_debug.specs.Mem.{word_shown}
use Rattle.ga_debug.proofs.mem.range_shown.Goals as goal

pub loop-index-preserved : goal.loop-index-preserved
loop-index-preserved c =
    let word : ℕ → List ℕ = word_shown c.args.ram.now c.args.from in
    let index = c.loop-index.index in
    c.in_ok-push_word.ensures ∙ ap (λ text. text ++ word index) c.loop-index.invariant
    ∙ sym (next_line word index)
