use Rattle.std.proofs.Common.{◌≡◌, ◌++◌, IsUtf8, chars, string_bytes}
use Rattle.std.specs.List.{flat_map}
use Rattle.std.specs.Str.Iter.{chars_rest}
use Rattle.ga_report.specs.Escape.{escaped_char}
use Rattle.ga_report.proofs.escape.push_escaped.Given as goal

-- what is written, and the characters that are left
abbrev pub invariant-loop-character : goal.invariant-loop-character
invariant-loop-character l =
    IsUtf8 (chars_rest l.character-iterator)
    × (string_bytes l.text ++ flat_map escaped_char (chars (chars_rest l.character-iterator))
    ≡ string_bytes l.initial.text ++ flat_map escaped_char (chars l.shown))
