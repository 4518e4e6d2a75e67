-- The words of each image read as its section's items are laid.
use Rattle.std.proofs.Common.{◌+◌, ◌≡◌, ℕ, List, [], ◌∷◌, ◌++◌, length, drop, map, refl, sym, ap, subst}
use Rattle.ga_pack.specs.Model.Program.{IsProgram, PlacedItem, PlacedSection, placed_items, placed_sections, tokens_of}
use Rattle.ga_pack.specs.Model.Source.{Item, Items, Section, Sections, Source, item_tokens, items_tokens, start}
use Rattle.ga_pack.specs.Model.Text.{Place, places_of}
use Rattle.ga_asm.specs.Assembling.{IsAssembled}
use Rattle.ga_disasm.proofs.NamedItems.{items_named}
use Rattle.ga_path.specs.Stream.{Images}
use Rattle.ga_laws.specs.Laws.{GiveBack, WordsGiveBack}

-- items without their places
erased : (places : List Place) (items : List Item)
    → map (λ (placed : PlacedItem). placed.item) (placed_items places items) ≡ items
unfolding placed_items
erased places [] = refl
erased places (item ∷ items) =
    ap (λ l. item ∷ l) (erased (drop (length (item_tokens item [])) places) items)

give_back : (seen : List ℕ) (places : List Place) (sections : List Section) (images : Images)
    → Sections seen sections → IsAssembled (placed_sections places sections) images
    → GiveBack (placed_sections places sections) images
unfolding placed_sections Sections IsAssembled
give_back seen places [] [] right assembled = tt
give_back seen places [] (image ∷ images) right assembled = absurd assembled
give_back seen places (section ∷ sections) [] right assembled = absurd assembled
give_back seen places (section ∷ sections) (image ∷ images) right assembled = (
  λ laid. items_named (map (λ (placed : PlacedItem). placed.item)
      (placed_items (drop 2 places) section.items)) image.1.words image.1.labels image.1.code_len
      (subst (Items start) (sym (erased (drop 2 places) section.items)) right.1) laid,
  give_back (seen ++ section.name ∷ []) (drop (2 + length (items_tokens section.items [])) places)
      sections images right.2 assembled.2,
)

sections_right : (text : List ℕ) (sections : List Section) → Source (tokens_of text) sections
    → Sections [] sections
unfolding Source
sections_right text [] source = absurd source
sections_right text (section ∷ sections) source = source.1

program_gives_back : (text : List ℕ) (program : List PlacedSection) (images : Images)
    → IsProgram text program → IsAssembled program images → GiveBack program images
unfolding IsProgram
program_gives_back text program images (sections, source, is) assembled =
    subst (λ p. GiveBack p images) (sym is) (give_back [] (places_of text) sections images
    (sections_right text sections source) (subst (λ p. IsAssembled p images) is assembled))

pub words_give_back : WordsGiveBack
words_give_back text images assembled =
    program_gives_back text assembled.program images assembled.program_is assembled.assembled
