use Rattle.std.proofs.Common.{◌≡◌, ◌≤◌, ◌+◌, ◌*◌, ◌-◌, ◌++◌, drop, length, string_bytes, string_capacity, string_len}
use Rattle.ga_word.specs.Text.{text_from, text_of_words}
use Rattle.ga_word.proofs.text.push_words.Given as goal

abbrev pub invariant-loop-place : goal.invariant-loop-place
invariant-loop-place l =
    (string_bytes l.text ++ text_from l.place (drop l.place l.words) ≡ string_bytes l.fn.text
    ++ text_of_words l.words)
    × (string_len l.text + 6 * (length l.words - l.place) ≤ string_capacity l.text)
