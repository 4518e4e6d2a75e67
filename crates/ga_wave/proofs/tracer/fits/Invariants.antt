use Rattle.std.proofs.Common.{◌≡◌, ◌+◌, length, string_bytes}
use Rattle.ga_waits.specs.Label.{images_in}
use Rattle.ga_wave.specs.Tracer.{IsBehind}
use Rattle.ga_wave.specs.Wave.{shown_names, text_before}
use Rattle.ga_wave.proofs.tracer.fits.Given as goal

-- as many turns are made, and the text of the last one isn't counted yet
abbrev pub invariant-loop-turn : goal.invariant-loop-turn
invariant-loop-turn l =
    IsBehind l.fn.chip (shown_names l.nodes) l.turn l.tracer
    × (l.left
    + length (text_before (images_in l.images) (shown_names l.nodes) l.fn.chip l.turn)
    ≡ l.most + length (string_bytes l.text))
