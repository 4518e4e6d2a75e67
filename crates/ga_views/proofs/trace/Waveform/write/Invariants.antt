use Rattle.std.proofs.Common.{◌≡◌, ◌++◌, ℕ, List, string_bytes}
use Rattle.std.specs.Io.KnownBytes.{Appends}
use Rattle.ga_wave.specs.Tracer.{IsBehind}
use Rattle.ga_wave.specs.Wave.{shown_names, text_before}
use Rattle.ga_views.proofs.trace.Waveform.write.Given as goal

-- what was written, and the piece behind it, is the text of the turns so far
abbrev pub invariant-loop-turn : goal.invariant-loop-turn
invariant-loop-turn g l =
    IsBehind l.self.live.chip (shown_names l.self.nodes.items) l.turn l.tracer
    × ((done : List ℕ)
    × Appends (g.W.Write.contents l.initial.writer) (g.W.Write.contents l.writer) done
    × (done ++ string_bytes l.piece
    ≡ text_before l.self.live.program.images (shown_names l.self.nodes.items) l.self.live.chip
    l.turn))
