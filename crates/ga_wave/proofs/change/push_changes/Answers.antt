use Rattle.std.proofs.Common.{rules, string_bytes}
use Rattle.ga_dump.proofs.Lines.{line_more}
use Rattle.ga_waits.specs.Label.{images_in}
use Rattle.ga_wave.specs.Change.{change}
use Rattle.ga_wave.specs.Signal.{SIGNALS}
use Rattle.ga_wave.specs.declared.signal.Signal.TheVariants.{Did}
use Rattle.ga_wave.proofs.change.push_changes.Goals as goal

pub loop-signal-preserved : goal.loop-signal-preserved
loop-signal-preserved c =
    line_more (change (images_in c.args.images) c.args.node c.args.number c.args.old.now
    c.args.new.now) SIGNALS c.loop-signal.signal-index Did (string_bytes c.loop-signal.text) _ _
    (search rules) c.loop-signal.invariant c.in_ok-push_change.ensures
