-- A fault of a text has one hint, or none.
use Rattle.std.proofs.Common.{◌≡◌, ◌∙◌, ◌==◌, ℕ, false, List, [], ◌∷◌, Option, Some, None, drop, map, refl, sym, ap, subst}
use Rattle.std.specs.List.{find}
use Rattle.std.specs.Option.{option_and_then, option_map}
use Rattle.ga_pack.specs.Model.Program.{IsProgram, PlacedSection, placed_items, placed_sections, tokens_of}
use Rattle.ga_pack.specs.Model.Source.{Item, Section, Source}
use Rattle.ga_pack.specs.Model.Text.{Place}
use Rattle.ga_pack.specs.Model.Token.{meanings}
use Rattle.ga_pack.proofs.OneSource.{one_source}
use Rattle.ga_source.specs.Program.{sections_in}
use Rattle.ga_asm.specs.Error.{error_place}
use Rattle.ga_asm.specs.Text.{AtMostOne}
use Rattle.ga_asm.specs.declared.error.AsmError.{AsmError}
use Rattle.ga_faults.specs.declared.fault.Fault.{Fault}
use Rattle.ga_faults.specs.declared.fault.Fault.TheVariants.{Asm, Expand, Source as In}
use Rattle.ga_faults.specs.Sections.{part_of}
use Rattle.ga_hints.specs.Hints.{ExpandsTo, Hint, IsHint, IsProgramHint, items_hint, program_hint}
use Rattle.ga_hints.specs.Names.{word_at}
use Rattle.ga_hints.proofs.Programs.{same_tokens}

-- items and sections, back from those with places
items_back : (is : List Item) (places : List Place)
    → map (λ placed. placed.item) (placed_items places is) ≡ is
unfolding placed_items
items_back [] places = refl
items_back (i ∷ is) places = ap (λ rest. i ∷ rest) (items_back is _)

sections_back : (ss : List Section) (places : List Place)
    → sections_in (placed_sections places ss) ≡ ss
unfolding placed_sections
sections_back [] places = refl
sections_back (s ∷ ss) places =
    let items = map (λ placed. placed.item) (placed_items (drop 2 places) s.items) in
    ap (λ (rest : List Section). record { name = s.name; items = items } ∷ rest)
    (sections_back ss _)
    ∙ ap (λ (is : List Item). record { name = s.name; items = is } ∷ ss)
    (items_back s.items (drop 2 places))

-- all programs of a text's expansions have the same sections
same_sections : (text : List ℕ) (one other : List PlacedSection) → ExpandsTo text one
    → ExpandsTo text other → sections_in one ≡ sections_in other
unfolding IsProgram tokens_of
same_sections text one other has has_too =
    let texts = same_tokens text has_too.0 has.0 has_too.1 has.1 in
    let there = subst (λ ts. Source (meanings false ts) has_too.2.0) texts has_too.2.1 in
    let same = one_source _ has.2.0 has_too.2.0 has.2.1 there in
    ap sections_in has.2.2 ∙ sections_back has.2.0 _ ∙ same ∙ sym (sections_back has_too.2.0 _)
    ∙ sym (ap sections_in has_too.2.2)

same_hint : (text part : List ℕ) (error : AsmError) (one other : List PlacedSection)
    → sections_in one ≡ sections_in other
    → program_hint text part error one ≡ program_hint text part error other
same_hint text part error one other same =
    ap (λ sections. option_and_then
    (items_hint error.kind part (word_at text (error_place error)))
    (option_map (λ section. section.items)
    (find (λ section. error.node == section.name) sections))) same

one_program_hint : (text : List ℕ) (error : AsmError) (hint other : Option Hint)
    → IsProgramHint text error hint → IsProgramHint text error other → hint ≡ other
one_program_hint text error hint other (Some one, has, is) (Some more, has_too, is_too) =
    let part = part_of text error.line error.node in
    is ∙ same_hint text part error one more (same_sections part one more has has_too) ∙ sym is_too
one_program_hint text error hint other (Some one, has, is) (None, none, is_too) =
    absurd (none one has)
one_program_hint text error hint other (None, none, is) (Some more, has, is_too) =
    absurd (none more has)
one_program_hint text error hint other (None, none, is) (None, none_too, is_too) = is ∙ sym is_too

pub one_hint : (text : List ℕ) (fault : Fault) → AtMostOne (IsHint text fault)
one_hint text (Expand error) hint other is is_too = is ∙ sym is_too
one_hint text (In error) hint other is is_too = is ∙ sym is_too
one_hint text (Asm error) hint other is is_too = one_program_hint text error hint other is is_too
