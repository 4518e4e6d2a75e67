-- Each word of a text that goes to a name is listed with a label of that name's address.
use Rattle.std.proofs.Common.{◌≡◌, ◌∙◌, ◌≤◌, ℕ, zero, suc, true, false, List, [], ◌∷◌, ◌++◌, length, map, Option, Some, sym, ap, subst, arith}
use Rattle.std.specs.Prelude.{All, codes}
use Rattle.std.specs.List.{list_all, slice_get, zip}
use Rattle.std.specs.Option.{option_map_or}
use Rattle.ga_word.specs.Op.{name_of}
use Rattle.ga_pack.specs.Decoded.{Reading}
use Rattle.ga_pack.specs.Model.Layout.{Group, Arrangement, Laid, address_after, address_of, all_in_reach, dest_in, is_defined, labels_after, names_in}
use Rattle.ga_pack.specs.Model.Layout as layout
use Rattle.ga_pack.specs.Model.LayoutFault.{AllPass, AllRight, plain_items}
use Rattle.ga_pack.specs.Model.Program.{IsProgram, PlacedSection}
use Rattle.ga_pack.specs.Model.Source.{Item, Items, Label, Sections, Source, is_among, is_item, start}
use Rattle.ga_disasm.specs.Disassembling.{items_of}
use Rattle.ga_disasm.specs.Instructions as named
use Rattle.ga_disasm.specs.Instructions.{named_items}
use Rattle.ga_disasm.specs.Printing.{line, number_text, spare_texts}
use Rattle.ga_disasm.proofs.NamedItems.{items_named}
use Rattle.ga_pack.specs.Model.Text.{places_of}
use Rattle.ga_source.specs.Program.{sections_in}
use Rattle.ga_source.proofs.ItemPlaces.{sections_erased}
use Rattle.ga_asm.specs.Assembling.{IsAssembled}
use Rattle.ga_asm.specs.Image.{ImageView, label_at}
use Rattle.ga_asm.proofs.Groups.{front_within}
use Rattle.ga_asm.proofs.LabelLists.{near_found}
use Rattle.ga_asm.proofs.RightItems.{items_right}
use Rattle.ga_asm.proofs.RightNodes.{all_right, near_laid}
use Rattle.ga_list.specs.Laws.{IsListedFor, ListsNames, NamesAreListed, dest_name}
use Rattle.ga_list.specs.Reading.{dest_texts}
use Rattle.ga_list.proofs.Names.{Named, defined_after, found_after, label_there, labels_append, named_at}
use Rattle.ga_list.proofs.Targets.{target_is}

-- ---- a word of a node

module _ (items : List Item) (image : ImageView) (right : Items start items)
    (passed : AllPass (names_in items) [] items)
    (laid : Laid items image.words image.labels image.code_len)
    (front : List Group) (group : Group) (back : List Group) (s : List ℕ)
    (cut : laid.groups ≡ front ++ group ∷ back) (goes : dest_name group ≡ Some s) where
  items_are : layout.items_of (front ++ group ∷ back) ≡ items
  items_are = ap layout.items_of (sym cut) ∙ laid.stand_in.in_order

  labels_are : image.labels ≡ labels_after [] 0 (front ++ group ∷ back)
  labels_are = laid.labels_are ∙ ap (labels_after [] 0) cut

  arranged : Arrangement [] 0 (front ++ group ∷ back)
  arranged = subst (Arrangement [] 0) cut laid.stand_in.arranged

  later : (at : ℕ) → address_of (labels_after [] 0 front) s ≡ Some at
      → address_of image.labels s ≡ Some at
  later at there =
      ap (λ t. address_of t s) (labels_are ∙ labels_append [] 0 front (group ∷ back))
      ∙ found_after (labels_after [] 0 front) (address_after 0 front) (group ∷ back) s at there

  found : Named (names_in items) image.labels (address_after 0 front) s
      (slice_get (items_of image.code_len image.words) (address_after 0 front))
  unfolding named_items
  found =
      let groups = front ++ group ∷ back in
      let all : items_of image.code_len image.words ≡ named.items_in image.labels false groups =
      items_named items image.words image.labels image.code_len right laid
      ∙ ap (named_items image.labels) cut in
      let address = address_after 0 front in
      subst (λ t. Named (names_in items) image.labels address s (slice_get t address)) (sym all)
      (named_at (names_in items) image.labels s group back [] 0 false front (address_after 0 front)
      (omega arith) later arranged
      (subst (λ t. all_in_reach image.labels 0 t ≡ true) cut laid.in_reach)
      (ap (list_all is_item) items_are ∙ items_right start items right)
      (ap (list_all (is_defined (names_in items))) items_are ∙ laid.all_defined) goes)

  -- the word's line has the first label with the name's address
  listed : IsListedFor image (address_after 0 front) s
  listed =
      let address = address_after 0 front in
      let labels = image.labels in
      let near = near_laid laid passed in
      let word = found in
      let goes = word.goes in
      let there =
      defined_after [] 0 (front ++ group ∷ back) s arranged
      (ap (λ t. is_among s (names_in t)) items_are ∙ goes.known) in
      let at = there.0 in
      let at_is : address_of labels s ≡ Some at = ap (λ t. address_of t s) labels_are ∙ there.1 in
      let at_near = near_found labels s at near.labels_near at_is in
      let label = label_there labels s at at_is in
      let dest = dest_in labels (length goes.ops) (Label s) in
      let reading : Reading =
      record { ops = goes.ops ++ goes.o ∷ []; dest = Some dest; spare = word.spare } in
      let few : address ≤ 64 =
      omega (arith, near.few, ap (address_after 0) cut, front_within 0 front (group ∷ back)) in
      let means =
      target_is labels address goes.ops goes.o s at goes.stays few at_near at_is
      (goes.reach at at_near at_is) in
      record {
        reading = reading;
        is_code =
            word.item_is ∙ ap (λ t. Some (named.code t word.dest word.spare)) goes.all_are
            ∙ ap (λ t. Some (named.code (goes.ops ++ goes.o ∷ []) t word.spare)) goes.dest_is;
        target = at;
        target_is = at_is;
        label = label.0;
        label_is = label.1;
        line_is =
            let rest = spare_texts word.spare in
            let text = λ (o : Option (List ℕ)). option_map_or (λ name. name) o (number_text dest) in
            let texts = dest_texts labels address reading.ops (Some dest) word.spare in
            let shown : texts ≡ label.0 ∷ rest =
            ap (λ t. text (label_at labels t) ∷ rest) means ∙ ap (λ t. text t ∷ rest) label.1 in
            ap (λ t. line (codes "[") (map name_of reading.ops ++ t ++ codes "]" ∷ [])) shown;
      }

-- ---- the nodes of a text

-- the sections of a text's program are right
sections_right : (text : List ℕ) (program : List PlacedSection) → IsProgram text program
    → Sections [] (sections_in program)
unfolding IsProgram Source
sections_right text program ([], source, is) = absurd source
sections_right text program (s ∷ sections, source, is) =
    let same = sections_erased (places_of text) (s ∷ sections) in
    subst (Sections []) (sym same ∙ ap sections_in (sym is)) source.1

nodes_listed : (seen : List ℕ) (program : List PlacedSection) (images : List (ℕ × ImageView))
    → Sections seen (sections_in program) → AllRight program → IsAssembled program images
    → All (λ node. ListsNames (plain_items node.0) node.1.1) (zip program images)
unfolding Sections AllRight IsAssembled
nodes_listed seen [] images right all assembled k d h = absurd (omega arith)
nodes_listed seen (section ∷ program) [] right all assembled k d h = absurd assembled
nodes_listed seen (section ∷ program) (image ∷ images) right all assembled zero d h =
    λ laid front group back s cut goes.
    listed (plain_items section) image.1 right.1 all.0.passed laid front group back s cut goes
nodes_listed seen (section ∷ program) (image ∷ images) right all assembled (suc k) d h =
    nodes_listed (seen ++ section.name ∷ []) program images right.2 all.1 assembled.2 k d
    (omega arith)

pub names_listed : NamesAreListed
names_listed text images has =
    let right = sections_right text has.program has.program_is in
    nodes_listed [] has.program images right
    (all_right has.program right has.faultless) has.assembled
