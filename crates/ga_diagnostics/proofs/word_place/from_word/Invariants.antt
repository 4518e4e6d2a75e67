use Rattle.std.proofs.Common.{◌≡◌}
use Rattle.ga_diagnostics.specs.WordPlace.{behind_words}
use Rattle.ga_diagnostics.proofs.word_place.from_word.Given as goal

abbrev pub invariant-loop : goal.invariant-loop
invariant-loop l = l.rest ≡ behind_words l.counter l.initial.text
