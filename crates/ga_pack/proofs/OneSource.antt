-- A list of tokens is spelled by one program at most.
use Rattle.std.proofs.Common.{◌≡◌, ◌∙◌, ℕ, suc, true, List, [], ◌∷◌, ◌++◌, Option, Some, None, refl, sym, ap}
use Rattle.ga_word.specs.declared.op.Op.{Op}
use Rattle.ga_word.specs.Op.{takes_dest}
use Rattle.ga_pack.specs.Model.Token.{Token, op, close_mark}
use Rattle.ga_pack.specs.Model.Program.{IsProgram, PlacedSection, placed_sections, tokens_of}
use Rattle.ga_pack.specs.Model.Text.{places_of}
use Rattle.ga_pack.specs.Model.Source.{Value, Number, Label, Item, Instruction, Transfer, Literal, Here, Align, Word, WordTo, Plain, Data, Section, Before, Items, Sections, Source, after, is_item, item_tokens, items_tokens, op_tokens, spare_tokens, stand_from, start, text_tokens, value_token}
use Rattle.ga_pack.proofs.ItemParts.{instruction_parts, stand_parts, transfer_parts, word_parts, word_to_parts}

-- the tokens behind an item, and the item, are those of another
abbrev Same : Item → List Token → Item → List Token → Type 0
Same i rest j rest' = (i ≡ j) × (rest ≡ rest')

one_value : (v w : Value) (rest rest' : List Token) → value_token v ∷ rest ≡ value_token w ∷ rest'
    → (v ≡ w) × (rest ≡ rest')
one_value (Number n) (Number m) rest rest' e = ((cc), (cc))
one_value (Label s) (Label t) rest rest' e = ((cc), (cc))
one_value v w rest rest' e = absurd (cc)

one_word : (ops ops' : List Op) (rest rest' : List Token)
    → op_tokens ops (close_mark ∷ rest) ≡ op_tokens ops' (close_mark ∷ rest')
    → (ops ≡ ops') × (rest ≡ rest')
one_word [] [] rest rest' e = (refl, (cc))
one_word [] (o ∷ ops') rest rest' e = absurd (cc)
one_word (o ∷ ops) [] rest rest' e = absurd (cc)
one_word (o ∷ ops) (p ∷ ops') rest rest' e =
    let same : o ≡ p = cc in
    let more = one_word ops ops' rest rest' (cc) in
    (ap (λ (t : List Op). o ∷ t) more.0 ∙ ap (λ (t : Op). t ∷ ops') same, more.1)

-- opcodes before one that takes a destination
one_front : (slot : ℕ) (ops ops' : List Op) (o o' : Op) (rest rest' : List Token)
    → stand_from slot ops ≡ true → stand_from slot ops' ≡ true → takes_dest o ≡ true
    → takes_dest o' ≡ true → op_tokens ops (op o ∷ rest) ≡ op_tokens ops' (op o' ∷ rest')
    → (ops ≡ ops') × (o ≡ o') × (rest ≡ rest')
one_front slot [] [] o o' rest rest' h h' t t' e = (refl, (cc), (cc))
one_front slot [] (p ∷ ops') o o' rest rest' h h' t t' e =
    absurd (let none = (stand_parts slot p ops' h').0 in let same : o ≡ p = cc in cc)
one_front slot (p ∷ ops) [] o o' rest rest' h h' t t' e =
    absurd (let none = (stand_parts slot p ops h).0 in let same : p ≡ o' = cc in cc)
one_front slot (p ∷ ops) (q ∷ ops') o o' rest rest' h h' t t' e =
    let same : p ≡ q = cc in
    let more = one_front (suc slot) ops ops' o o' rest rest' (stand_parts slot p ops h).2
    (stand_parts slot q ops' h').2 t t' (cc) in
    (ap (λ (x : List Op). p ∷ x) more.0 ∙ ap (λ (x : Op). x ∷ ops') same, more.1, more.2)

-- a word without destination is none with one
no_front : (slot : ℕ) (ops ops' : List Op) (o : Op) (rest rest' : List Token)
    → stand_from slot ops ≡ true → takes_dest o ≡ true
    → op_tokens ops (close_mark ∷ rest) ≡ op_tokens ops' (op o ∷ rest') → ⊥
no_front slot [] [] o rest rest' h t e = cc
no_front slot [] (q ∷ ops') o rest rest' h t e = cc
no_front slot (p ∷ ops) [] o rest rest' h t e =
    let none = (stand_parts slot p ops h).0 in let same : p ≡ o = cc in cc
no_front slot (p ∷ ops) (q ∷ ops') o rest rest' h t e =
    no_front (suc slot) ops ops' o rest rest' (stand_parts slot p ops h).2 t (cc)

one_spare : (spare spare' : Option ℕ) (rest rest' : List Token)
    → spare_tokens spare rest ≡ spare_tokens spare' rest' → (spare ≡ spare') × (rest ≡ rest')
one_spare None None rest rest' e = (refl, (cc))
one_spare (Some n) (Some m) rest rest' e = ((cc), (cc))
one_spare None (Some m) rest rest' e = absurd (cc)
one_spare (Some n) None rest rest' e = absurd (cc)

one_item : (i j : Item) (rest rest' : List Token) → is_item i ≡ true → is_item j ≡ true
    → item_tokens i rest ≡ item_tokens j rest' → Same i rest j rest'
one_item (Instruction o) (Instruction p) rest rest' h h' e = ((cc), (cc))
one_item (Instruction o) (Transfer p w) rest rest' h h' e =
    absurd (let none = (instruction_parts o h).0 in let some = (transfer_parts p w h').0 in
    let same : o ≡ p = cc in cc)
one_item (Transfer o v) (Instruction p) rest rest' h h' e =
    absurd (let none = (instruction_parts p h').0 in let some = (transfer_parts o v h).0 in
    let same : o ≡ p = cc in cc)
one_item (Transfer o v) (Transfer p w) rest rest' h h' e =
    let same : o ≡ p = cc in let value = one_value v w rest rest' (cc) in
    (ap (Transfer o) value.0 ∙ ap (λ (x : Op). Transfer x w) same, value.1)
one_item (Literal n) (Literal m) rest rest' h h' e = ((cc), (cc))
one_item (Here s) (Here t) rest rest' h h' e = ((cc), (cc))
one_item Align Align rest rest' h h' e = (refl, (cc))
one_item (Word ops) (Word ops') rest rest' h h' e =
    let same = one_word ops ops' rest rest' (cc) in (ap Word same.0, same.1)
one_item (Word ops) (WordTo ops' o w spare) rest rest' h h' e =
    absurd (no_front 0 ops ops' o rest (value_token w ∷ spare_tokens spare rest')
    (word_parts ops h).1 (word_to_parts ops' o w spare h').dest (cc))
one_item (WordTo ops o v spare) (Word ops') rest rest' h h' e =
    absurd (no_front 0 ops' ops o rest' (value_token v ∷ spare_tokens spare rest)
    (word_parts ops' h').1 (word_to_parts ops o v spare h).dest (cc))
one_item (WordTo ops o v spare) (WordTo ops' o' w spare') rest rest' h h' e =
    let parts = word_to_parts ops o v spare h in
    let parts' = word_to_parts ops' o' w spare' h' in
    let same = one_front 0 ops ops' o o' (value_token v ∷ spare_tokens spare rest) (value_token w
    ∷ spare_tokens spare' rest') parts.stands parts'.stands parts.dest parts'.dest (cc) in
    let value = one_value v w (spare_tokens spare rest) (spare_tokens spare' rest') same.2 in
    let bits = one_spare spare spare' rest rest' value.1 in
    let a = same.0 in
    let b = same.1 in
    let c = value.0 in
    let d = bits.0 in
    ((cc), bits.1)
one_item (Plain v) (Plain w) rest rest' h h' e =
    let value = one_value v w rest rest' (cc) in (ap Plain value.0, value.1)
one_item Data Data rest rest' h h' e = (refl, (cc))
one_item i j rest rest' h h' e = absurd (cc)

-- ---- items, sections and texts

-- no item begins with `node` or the text's end
no_item : (i : Item) (rest : List Token) (ss : List Section) → text_tokens ss ≡ item_tokens i rest
    → ⊥
no_item (Instruction o) rest [] e = cc
no_item (Instruction o) rest (s ∷ ss) e = cc
no_item _ rest [] e = cc
no_item _ rest (s ∷ ss) e = cc

one_list : (b b' : Before) (is js : List Item) (ss ss' : List Section) → Items b is → Items b' js
    → items_tokens is (text_tokens ss) ≡ items_tokens js (text_tokens ss')
    → (is ≡ js) × (text_tokens ss ≡ text_tokens ss')
unfolding Items
one_list b b' [] [] ss ss' right right' e = (refl, e)
one_list b b' [] (j ∷ js) ss ss' right right' e =
    absurd (no_item j (items_tokens js (text_tokens ss')) ss e)
one_list b b' (i ∷ is) [] ss ss' right right' e =
    absurd (no_item i (items_tokens is (text_tokens ss)) ss' (sym e))
one_list b b' (i ∷ is) (j ∷ js) ss ss'
    (p, right, new, next, more) (p', right', new', next', more') e =
    let same = one_item i j (items_tokens is (text_tokens ss))
    (items_tokens js (text_tokens ss')) right right' e in
    let rest = one_list (after b i p) (after b' j p') is js ss ss' more more' same.1 in
    (ap (λ (t : List Item). i ∷ t) rest.0 ∙ ap (λ (t : Item). t ∷ js) same.0, rest.1)

one_section : (s t : Section) → s.name ≡ t.name → s.items ≡ t.items → s ≡ t
one_section s t named items =
    ap (λ (n : ℕ). record { name = n; items = s.items }) named
    ∙ ap (λ (is : List Item). record { name = t.name; items = is }) items

one_text : (seen seen' : List ℕ) (ss ss' : List Section) → Sections seen ss → Sections seen' ss'
    → text_tokens ss ≡ text_tokens ss' → ss ≡ ss'
unfolding Sections
one_text seen seen' [] [] right right' e = refl
one_text seen seen' [] (t ∷ ss') right right' e = absurd (cc)
one_text seen seen' (s ∷ ss) [] right right' e = absurd (cc)
one_text seen seen' (s ∷ ss) (t ∷ ss') (new, right, more) (new', right', more') e =
    let named : s.name ≡ t.name = cc in
    let items = one_list start start s.items t.items ss ss' right right' (cc) in
    let rest = one_text (seen ++ s.name ∷ []) (seen' ++ t.name ∷ []) ss ss' more more' items.1 in
    ap (λ (x : List Section). s ∷ x) rest
    ∙ ap (λ (x : Section). x ∷ ss') (one_section s t named items.0)

-- a list of tokens is a text with one program at most
pub one_source : (ts : List Token) (p q : List Section) → Source ts p → Source ts q → p ≡ q
unfolding Source
one_source ts [] q a b = absurd a
one_source ts (s ∷ ss) [] a b = absurd b
one_source ts (s ∷ ss) (t ∷ ss') a b = one_text [] [] (s ∷ ss) (t ∷ ss') a.1 b.1 (sym a.0 ∙ b.0)

-- a text has one program at most
pub one_program : (text : List ℕ) (p q : List PlacedSection) → IsProgram text p → IsProgram text q
    → p ≡ q
unfolding IsProgram
one_program text p q (sections, source, is) (sections', source', is') =
    is ∙ ap (placed_sections (places_of text))
    (one_source (tokens_of text) sections sections' source source') ∙ sym is'
