use Rattle.std.proofs.Common.{◌≡◌, string_bytes}
use Rattle.ga_waits.specs.Label.{images_in}
use Rattle.ga_wave.specs.Tracer.{IsBehind}
use Rattle.ga_wave.specs.Wave.{shown_names, text_before}
use Rattle.ga_wave.proofs.tracer.waveform.Given as goal

-- as many turns are made and written
abbrev pub invariant-loop-turn : goal.invariant-loop-turn
invariant-loop-turn l =
    IsBehind l.fn.chip (shown_names l.nodes) l.turn l.tracer
    × (string_bytes l.text
    ≡ text_before (images_in l.images) (shown_names l.nodes) l.fn.chip l.turn)
