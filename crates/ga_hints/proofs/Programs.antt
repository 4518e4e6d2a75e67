-- The program of a text, and its sections.
use Rattle.std.proofs.Common.{◌≡◌, ◌≢◌, ◌∙◌, ◌==◌, ◌++◌, ℕ, Bool, true, false, cond, List, [], ◌∷◌, Option, Some, None, Bor, map, refl, sym, ap, subst, if◌then◌else◌, lit<, string_bytes}
use Rattle.std.specs.List.{find}
use Rattle.std.specs.Map.{lookup}
use Rattle.std.specs.Option.{option_copied, option_map}
use Rattle.std.proofs.Math.Utf8.{encode}
use Rattle.std.proofs.lemmas.Bool.{eqb-true}
use Rattle.std.proofs.lemmas.Str.{encode_ascii}
use Rattle.ga_pack.specs.Model.Program.{IsProgram, PlacedSection, placed_sections, tokens_of}
use Rattle.ga_pack.specs.Model.Source.{Section, Source}
use Rattle.ga_pack.specs.Model.Text.{places_of, texts_of}
use Rattle.ga_pack.specs.Model.Token.{meanings}
use Rattle.ga_source.specs.Item.{item_of}
use Rattle.ga_source.specs.Program.{HasNoProgram}
use Rattle.ga_source.specs.Section.{section_of}
use Rattle.ga_source.specs.declared.section.Section as written
use Rattle.ga_expand.specs.Texts.{IsExpansion}
use Rattle.ga_expand.specs.declared.expansion.Expansion.{Expansion}
use Rattle.ga_hints.specs.Hints.{ExpandsTo, label_in}

-- ---- the section of a node

section_by : (entry : ℕ × written.Section) (found : Option written.Section)
    (rest : Option Section) (b : Bool)
    → option_map (λ section. map item_of section.items.items) found
    ≡ option_map (λ section. section.items) rest
    → option_map (λ section. map item_of section.items.items) (if b then Some entry.1 else found)
    ≡ option_map (λ section. section.items) (cond b (Some (section_of entry)) rest)
section_by entry found rest true same = refl
section_by entry found rest false same = same

pub section_found : (node : ℕ) (entries : List (ℕ × written.Section))
    → option_map (λ section. map item_of section.items.items)
    (lookup (λ other. node == other) entries)
    ≡ option_map (λ section. section.items)
    (find (λ section. node == section.name) (map section_of entries))
section_found node [] = refl
section_found node (entry ∷ entries) =
    section_by entry (lookup (λ other. node == other) entries)
    (find (λ section. node == section.name) (map section_of entries)) (node == entry.0)
    (section_found node entries)

-- the items of a section that is borrowed
pub items_borrowed : (found : Option (Bor written.Section))
    → option_map (λ section. map item_of section.now.items.items) found
    ≡ option_map (λ section. map item_of section.items.items) (option_copied found)
items_borrowed None = refl
items_borrowed (Some section) = refl

-- ---- a text without a program

-- all expansions of a text have the same tokens
pub same_tokens : (text : List ℕ) (one other : Expansion) → IsExpansion text one
    → IsExpansion text other
    → texts_of (string_bytes one.text) ≡ texts_of (string_bytes other.text)
same_tokens text one other is is_too =
    let pieces : is.pieces ≡ is_too.pieces = cc (is.is, is_too.is) in
    is.tokens ∙ ap (map (λ piece. piece.text)) pieces ∙ sym is_too.tokens

pub no_program : (text : List ℕ) (made : Expansion) → IsExpansion text made
    → HasNoProgram (string_bytes made.text) → (program : List PlacedSection)
    → ExpandsTo text program → ⊥
unfolding IsProgram tokens_of
no_program text made is none program has =
    let texts = same_tokens text has.0 made has.1 is in
    let sections = has.2.0 in
    none (placed_sections (places_of (string_bytes made.text)) sections)
    (sections, subst (λ ts. Source (meanings false ts) sections) texts has.2.1, refl)

-- ---- the name of a label

kept_by : (c : ℕ) (word : List ℕ) → ((rest : List ℕ) → c ∷ word ≢ encode 38 ++ rest)
    → (b : Bool) → (c == 38) ≡ b → ◌≡◌ {A = List ℕ} (c ∷ word) (if b then word else c ∷ word)
kept_by c word other true is =
    absurd (other word (ap (λ n. n ∷ word) (eqb-true c 38 is)
    ∙ ap (λ front. front ++ word) (sym (encode_ascii 38 (lit< tt)))))
kept_by c word other false is = refl

-- a word that doesn't begin with `&`
pub label_kept : (word : List ℕ) → ((rest : List ℕ) → word ≢ encode 38 ++ rest)
    → word ≡ label_in word
label_kept [] other = refl
label_kept (c ∷ word) other = kept_by c word other (c == 38) refl
