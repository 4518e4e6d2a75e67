use Rattle.std.proofs.Common.{rules, string_bytes}
use Rattle.ga_place.specs.Side.{SIDES}
use Rattle.ga_place.specs.declared.side.Side.TheVariants.{Right}
use Rattle.ga_dump.proofs.Lines.{line_more}
use Rattle.ga_report.specs.Words.{side_word}
use Rattle.ga_report.proofs.words.push_node_words.Goals as goal

pub loop-side-preserved : goal.loop-side-preserved
loop-side-preserved c =
    line_more (side_word c.args.chip.now c.args.node) SIDES c.loop-side.side-index Right
    (string_bytes c.loop-side.text) _ _ (search rules) c.loop-side.invariant
    c.in_ok-push_side_word.ensures
