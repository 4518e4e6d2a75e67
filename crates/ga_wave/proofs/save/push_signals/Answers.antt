use Rattle.std.proofs.Common.{rules, string_bytes}
use Rattle.ga_dump.proofs.Lines.{line_more}
use Rattle.ga_wave.specs.Save.{SAVED, saved_signal}
use Rattle.ga_wave.specs.declared.signal.Signal.TheVariants.{Did}
use Rattle.ga_wave.proofs.save.push_signals.Goals as goal

pub loop-signal-preserved : goal.loop-signal-preserved
loop-signal-preserved c =
    line_more (saved_signal c.args.node) SAVED c.loop-signal.signal-index Did
    (string_bytes c.loop-signal.text) _ _ (search rules) c.loop-signal.invariant
    c.in_ok-push_signal.ensures
