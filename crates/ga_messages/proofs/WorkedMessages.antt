-- Messages that were worked out by hand.
use Rattle.std.proofs.Common.{◌≡◌, ℕ, List, [], ◌∷◌, map, None, Option, Some, refl}
use Rattle.std.specs.Prelude.{codes}
use Rattle.std.specs.Fmt.{digits}
use Rattle.std.specs.Str.{chars}
use Rattle.ga_messages.specs.Message.{kind_text, lines_text, place_text, report_text, written}
use Rattle.ga_messages.specs.Report.{Report}
use Rattle.ga_messages.specs.Shown.{shown_char}
use Rattle.ga_messages.specs.declared.message.Form.TheVariants.{Text}
use Rattle.ga_messages.specs.declared.message.Level.TheVariants.{Error}

-- a control character other than the tab is a blank, and so is one that isn't drawn
shown_alike : map shown_char
    (27 ∷ 9 ∷ 0x7F ∷ 0x200A ∷ 0x200B ∷ 0x200F ∷ 0x2010 ∷ 0x202E ∷ 0x202F ∷ 0x2066 ∷ 0x206A ∷ [])
    ≡ 32 ∷ 9 ∷ 32 ∷ 0x200A ∷ 32 ∷ 32 ∷ 0x2010 ∷ 32 ∷ 0x202F ∷ 32 ∷ 0x206A ∷ []
shown_alike = refl

-- a label of 709 that no item has
unknown : Option (List ℕ) → Report
unknown hint = record {
  file = codes "a";
  line = 2;
  column = 3;
  level = Error;
  kind = codes "K";
  node = Some 709;
  hint = hint;
  shown = codes "  x\n  ^\nwhy";
}

with_hint : written Text (unknown (Some (codes "the nearest name is y")))
    ≡ codes "a:2:3: error: K: why (node 709); the nearest name is y\n  x\n  ^\n"
unfolding unknown report_text place_text kind_text lines_text digits chars lib.Utf8.encode
with_hint = refl

without_hint : written Text (unknown None) ≡ codes "a:2:3: error: K: why (node 709)\n  x\n  ^\n"
unfolding unknown report_text place_text kind_text lines_text digits chars lib.Utf8.encode
without_hint = refl
