use Rattle.std.proofs.Common.{◌∙◌, ◌++◌, ℕ, List, ap, append-nil, append_assoc, string_bytes, sym}
use Rattle.std.specs.List.{flat_map}
use Rattle.std.specs.Str.{chars}
use Rattle.std.specs.Str.Iter.{chars_rest}
use Rattle.std.proofs.StrCases.{chars_of_empty}
use Rattle.std.proofs.lemmas.Str.{IsUtf8-past_char, chars_past_char}
use Rattle.ga_report.specs.Escape.{escaped, escaped_char}
use Rattle.ga_report.proofs.escape.push_escaped.Goals as goal

pub loop-character-preserved : goal.loop-character-preserved
loop-character-preserved c =
    let (utf8, is) = c.loop-character.invariant in
    let parts = c.in-Some.ensures.steps.0 in
    let one = escaped_char c.in-Some.character in
    let rest = flat_map escaped_char (chars (chars_rest c.next.new.self)) in
    let old = string_bytes c.loop-character.text in (
      IsUtf8-past_char _ _ c.in-Some.character utf8 parts,
      ap (λ text. text ++ rest) c.in_ok-push_character.ensures ∙ append_assoc old one rest
          ∙ ap (λ (cs : List ℕ). old ++ flat_map escaped_char cs)
          (sym (chars_past_char _ _ c.in-Some.character utf8 parts)) ∙ is,
    )

pub returns : goal.returns
unfolding escaped
returns c =
    let (utf8, is) = c.loop-character.invariant in
    let text = string_bytes c.loop-character.text in
    sym (append-nil text)
    ∙ ap (λ (cs : List ℕ). text ++ flat_map escaped_char cs)
    (sym (chars_of_empty _ c.in-None.ensures.steps.0.0)) ∙ is
