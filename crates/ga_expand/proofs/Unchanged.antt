-- Tokens that stay as they are: those without shared bodies, and those without lists of nodes.
use Rattle.std.proofs.Common.{◌≡◌, ◌∙◌, ℕ, Bool, true, false, not, List, [], ◌∷◌, ◌++◌, refl, sym, ap, append-nil, append_assoc, Ok}
use Rattle.std.specs.Prelude.{◌||◌, codes, if◌then◌else◌}
use Rattle.std.specs.List.{list_all}
use Rattle.std.specs.Str.{bytes_eq}
use Rattle.std.proofs.lemmas.Bool.{and_parts}
use Rattle.ga_expand.specs.Bodies.{ConstantName, ConstantValue, Definitions, Reading, Tokens, Unfolding, behind, first, is_body, is_use, most_unfolded, read_at, unfolded, unfolded_from}
use Rattle.ga_expand.specs.Expanding.{Body, Piece, Stage, is_const}
use Rattle.ga_expand.specs.NodeLists.{NoList, NodeNext, Section, Spreading, begins_section, in_section, is_list, spread, spread_from, with_piece}
use Rattle.ga_expand.specs.inner.Making.{has_list, is_apart}

neither : (a b : Bool) → (a || b) ≡ false → (a ≡ false) × (b ≡ false)
neither false false h = (refl, refl)
neither false true h = absurd (cc)
neither true b h = absurd (cc)

not_either : (a b : Bool) → not (a || b) ≡ true → (a ≡ false) × (b ≡ false)
not_either false false h = (refl, refl)
not_either false true h = absurd (cc)
not_either true b h = absurd (cc)

-- ---- without bodies

apart : (piece : Piece) → is_apart piece ≡ true
    → (bytes_eq piece.text (codes "use") ≡ false) × (is_body piece.text ≡ false)
apart piece h = not_either (bytes_eq piece.text (codes "use")) (is_body piece.text) h

no_use : (stage : Stage) (piece : Piece) → is_apart piece ≡ true
    → is_use stage piece.text ≡ false
no_use Body piece h = (apart piece h).0
no_use stage piece h = refl

abbrev head_state : List (List ℕ) → List Piece → Reading → Unfolding
head_state constants definitions reading =
    record first { constants = constants; definitions = definitions; reading = reading }

abbrev text_state : List (List ℕ) → List Piece → List Piece → Stage → Unfolding
text_state constants definitions text stage =
    record (head_state constants definitions (Tokens stage)) { text = text }

one_more : (definitions text : List Piece) (piece : Piece) (pieces : List Piece)
    → (definitions ++ (text ++ piece ∷ [])) ++ pieces ≡ (definitions ++ text) ++ piece ∷ pieces
one_more definitions text piece pieces =
    ap (λ (ps : List Piece). ps ++ pieces) (sym (append_assoc definitions text (piece ∷ [])))
    ∙ append_assoc (definitions ++ text) (piece ∷ []) pieces

text_unfolds : (constants : List (List ℕ)) (definitions : List Piece) (stage : Stage)
    (pieces : List Piece) → list_all is_apart pieces ≡ true → (text : List Piece)
    → unfolded_from (text_state constants definitions text stage) pieces
    ≡ Ok ((definitions ++ text) ++ pieces)
unfolding unfolded_from read_at
text_unfolds constants definitions stage [] h text =
    ap Ok (sym (append-nil (definitions ++ text)))
text_unfolds constants definitions stage (piece ∷ pieces) h text =
    let two = and_parts (is_apart piece) (list_all is_apart pieces) h in
    rw (no_use stage piece two.0)
    (text_unfolds constants definitions (behind stage piece.text) pieces two.1
    (text ++ piece ∷ []) ∙ ap Ok (one_more definitions text piece pieces))

abbrev HeadUnfolds : Reading → List Piece → Type 0
HeadUnfolds reading pieces = (constants : List (List ℕ)) (definitions : List Piece)
    → unfolded_from (head_state constants definitions reading) pieces
    ≡ Ok (definitions ++ pieces)

record HeadsUnfold (pieces : List Piece) : Type 0 where
  at_definitions : HeadUnfolds Definitions pieces
  at_name : HeadUnfolds ConstantName pieces
  at_value : HeadUnfolds ConstantValue pieces

heads_unfold : (pieces : List Piece) → list_all is_apart pieces ≡ true → HeadsUnfold pieces
unfolding unfolded_from read_at
heads_unfold [] h = record {
  at_definitions = λ constants definitions. refl;
  at_name = λ constants definitions. refl;
  at_value = λ constants definitions. refl;
}
heads_unfold (piece ∷ pieces) h =
    let two = and_parts (is_apart piece) (list_all is_apart pieces) h in
    let none = apart piece two.0 in
    let more = heads_unfold pieces two.1 in
    record {
      at_definitions = λ constants definitions. by constants definitions none two.1 more
          (is_const piece.text) refl;
      at_name = λ constants definitions.
          more.at_value (constants ++ piece.text ∷ []) (definitions ++ piece ∷ [])
          ∙ ap Ok (append_assoc definitions (piece ∷ []) pieces);
      at_value = λ constants definitions.
          more.at_definitions constants (definitions ++ piece ∷ [])
          ∙ ap Ok (append_assoc definitions (piece ∷ []) pieces);
    }
  where
    by : (constants : List (List ℕ)) (definitions : List Piece)
        → (bytes_eq piece.text (codes "use") ≡ false) × (is_body piece.text ≡ false)
        → list_all is_apart pieces ≡ true → HeadsUnfold pieces → (b : Bool)
        → is_const piece.text ≡ b
        → unfolded_from (head_state constants definitions Definitions) (piece ∷ pieces)
        ≡ Ok (definitions ++ piece ∷ pieces)
    by constants definitions none all more true is =
        rw is (more.at_name constants (definitions ++ piece ∷ [])
        ∙ ap Ok (append_assoc definitions (piece ∷ []) pieces))
    by constants definitions none all more false is =
        rw (is, none.1, none.0) (text_unfolds constants definitions (behind Body piece.text)
        pieces all (piece ∷ [])
        ∙ ap Ok (append_assoc definitions (piece ∷ []) pieces))

pub apart_unfolds : (pieces : List Piece) → list_all is_apart pieces ≡ true
    → unfolded pieces ≡ Ok pieces
apart_unfolds pieces h = (heads_unfold pieces h).at_definitions [] []

-- ---- without lists of nodes

abbrev pub plain_spread : List Piece → Section → Spreading
plain_spread done section =
    record { done = done; left = most_unfolded; section = section }

-- the section of a token, behind `node` or not, and the `node` in front
abbrev pub section_by : Bool → Piece → Section
section_by true node = NodeNext node
section_by false node = NoList

abbrev pub in_front : Bool → Piece → List Piece
in_front true node = node ∷ []
in_front false node = []

abbrev pub SpreadsAt : Bool → List Piece → Type 0
SpreadsAt b pieces = (done : List Piece) (node : Piece)
    → spread_from (plain_spread done (section_by b node)) pieces
    ≡ Ok (done ++ (in_front b node ++ pieces))

pub item_spreads : (piece : Piece) (pieces done : List Piece) (b : Bool) → SpreadsAt b pieces
    → spread_from (if b then in_section (plain_spread done NoList) (NodeNext piece)
    else with_piece (plain_spread done NoList) piece) pieces ≡ Ok (done ++ piece ∷ pieces)
item_spreads piece pieces done true more = more done piece
item_spreads piece pieces done false more =
    more (done ++ piece ∷ []) piece ∙ ap Ok (append_assoc done (piece ∷ []) pieces)

pub name_spreads : (node piece : Piece) (pieces done : List Piece)
    → is_list piece.text ≡ false → SpreadsAt false pieces
    → spread_from (plain_spread done (NodeNext node)) (piece ∷ pieces)
    ≡ Ok (done ++ node ∷ piece ∷ pieces)
unfolding spread_from
name_spreads node piece pieces done none more =
    rw none (more ((done ++ node ∷ []) ++ piece ∷ []) piece
    ∙ ap Ok (append_assoc (done ++ node ∷ []) (piece ∷ []) pieces
    ∙ append_assoc done (node ∷ []) (piece ∷ pieces)))

-- tokens without a list behind `node` have none without `node` in front of them either
none_behind : (b : Bool) (pieces : List Piece) → has_list b pieces ≡ false
    → has_list false pieces ≡ false
none_behind false pieces h = h
none_behind true [] h = refl
none_behind true (piece ∷ pieces) h =
    (neither (is_list piece.text) (has_list (begins_section piece.text) pieces) h).1

listless_spread : (b : Bool) (pieces : List Piece) → has_list b pieces ≡ false
    → SpreadsAt b pieces
unfolding spread_from
listless_spread false [] h done node = ap Ok (sym (append-nil done))
listless_spread true [] h done node = refl
listless_spread false (piece ∷ pieces) h done node =
    item_spreads piece pieces done (begins_section piece.text)
    (listless_spread (begins_section piece.text) pieces h)
listless_spread true (piece ∷ pieces) h done node =
    let two = neither (is_list piece.text) (has_list (begins_section piece.text) pieces) h in
    name_spreads node piece pieces done two.0
    (listless_spread false pieces (none_behind (begins_section piece.text) pieces two.1))

pub listless_spreads : (pieces : List Piece) → has_list false pieces ≡ false
    → spread (Ok pieces) ≡ Ok pieces
unfolding spread_from
listless_spreads [] h = refl
listless_spreads (piece ∷ pieces) h = listless_spread false (piece ∷ pieces) h [] piece
