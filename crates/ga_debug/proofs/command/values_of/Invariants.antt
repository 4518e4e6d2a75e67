use Rattle.std.proofs.Common.{◌≡◌, ◌-◌}
use Rattle.std.specs.Prelude.{None, replicate}
use Rattle.ga_waits.specs.Label.{images_in}
use Rattle.ga_debug.specs.Command.{values_from}
use Rattle.ga_debug.proofs.command.values_of.Given as goal

-- it rests with the words that are left
abbrev pub invariant-loop-index : goal.invariant-loop-index
invariant-loop-index l =
    values_from (images_in l.images) l.node l.what (l.most - l.index) l.index l.values l.words
    ≡ values_from (images_in l.images) l.node l.what l.most 0 (replicate 8 None) l.initial.words
