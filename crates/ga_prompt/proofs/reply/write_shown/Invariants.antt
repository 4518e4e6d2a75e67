use Rattle.std.proofs.Common.{◌≡◌, ◌++◌, ℕ, IsUtf8, List, chars, encode_utf8_all}
use Rattle.std.specs.Prelude.{map}
use Rattle.std.specs.Io.KnownBytes.{Appends}
use Rattle.std.specs.Str.Iter.{chars_rest}
use Rattle.ga_messages.specs.Shown.{shown_char}
use Rattle.ga_prompt.proofs.reply.write_shown.Given as goal

-- what was written, and the characters that are left
abbrev pub invariant-loop-c : goal.invariant-loop-c
invariant-loop-c g l =
    (front : List ℕ) × IsUtf8 (chars_rest l.c-iterator)
    × Appends (g.W.Write.contents l.initial.writer) (g.W.Write.contents l.writer) front
    × (encode_utf8_all (map shown_char (chars l.fn.text))
    ≡ front ++ encode_utf8_all (map shown_char (chars (chars_rest l.c-iterator))))
