-- Lists of nodes, and the copies of their sections.
use Rattle.std.proofs.Common.{◌≡◌, ◌∙◌, ◌+◌, ◌-◌, ◌*◌, ◌<◌, ℕ, Bool, true, false, not, List, [], ◌∷◌, ◌++◌, length, map, get_or, take, Option, Some, None, Result, Ok, Err, refl, sym, ap, append_assoc, arith}
use Rattle.std.specs.Prelude.{◌==◌, ◌&&◌, codes, nat_lt, option_map, if◌then◌else◌}
use Rattle.std.specs.Borrow.{Bor}
use Rattle.std.specs.Char.{is_digit}
use Rattle.std.specs.List.{find, flat_map, list_all}
use Rattle.std.specs.Option.{is_some}
use Rattle.std.specs.Str.{bytes_eq}
use Rattle.std.specs.Str.Parse.{digits_value}
use Rattle.std.proofs.lemmas.Bool.{and_from, and_parts}
use Rattle.std.proofs.lemmas.Bool.Decides.{nat_tests}
use Rattle.std.proofs.lemmas.List.{flat_map_more, length-map, map-append, take_more}
use Rattle.ga_word.specs.Text.{is_blank}
use Rattle.ga_pack.specs.Model.Text.{Place}
use Rattle.ga_place.specs.Node.{is_node_name, node_named}
use Rattle.ga_expand.specs.declared.error.ExpandErrorKind.TheVariants.{BadToken, TooLarge}
use Rattle.ga_expand.specs.declared.piece.Piece as here
use Rattle.ga_expand.specs.Error.{Fault}
use Rattle.ga_expand.specs.Expanding.{Piece}
use Rattle.ga_expand.specs.NodeLists.{NoList, Spreading, all_of, are_nodes, at_end, copied, copies, copy, further_on, is_long, list_ended, name_at, named_by, names_in, spread_at, spread_from, with_copies}
use Rattle.ga_expand.specs.inner.Bodies.{texts_in}
use Rattle.ga_expand.specs.inner.Piece.{piece_in}
use Rattle.ga_expand.specs.inner.Plain.{is_token}

-- ---- the names of a list

tested : {X : Type 0} (b : Bool) (x : X) → is_some (if b then Some x else None) ≡ b
tested true x = refl
tested false x = refl

digit_is_written : (c : ℕ) → is_digit c 10 ≡ true → not (is_blank c) ≡ true
digit_is_written c h = grind (arith, nat_tests)

digits_are_written : (text : List ℕ) → list_all (λ c. is_digit c 10) text ≡ true
    → list_all (λ c. not (is_blank c)) text ≡ true
digits_are_written [] h = refl
digits_are_written (c ∷ cs) h =
    let two = and_parts (is_digit c 10) (list_all (λ c. is_digit c 10) cs) h in
    and_from (not (is_blank c)) (list_all (λ c. not (is_blank c)) cs)
    (digit_is_written c two.0) (digits_are_written cs two.1)

digit_no_comment : (c : ℕ) (cs : List ℕ) → is_digit c 10 ≡ true
    → not (bytes_eq (c ∷ cs) (codes "\\")) ≡ true
digit_no_comment c cs h =
    let other : (c == 92) ≡ false = grind (arith, nat_tests) in
    rw other refl

pub node_token : (name : List ℕ) → is_some (node_named name) ≡ true → is_token name ≡ true
node_token [] h = absurd (cc)
node_token (c ∷ cs) h =
    let text = c ∷ cs in
    let all : ((length text == 3) && list_all (λ c. is_digit c 10) text
    && is_node_name (digits_value 10 text)) ≡ true =
    sym (tested ((length text == 3) && list_all (λ c. is_digit c 10) text
    && is_node_name (digits_value 10 text)) (digits_value 10 text)) ∙ h in
    let both = and_parts ((length text == 3) && list_all (λ c. is_digit c 10) text)
    (is_node_name (digits_value 10 text)) all in
    let digits = (and_parts (length text == 3) (list_all (λ c. is_digit c 10) text) both.0).1 in
    let first = (and_parts (is_digit c 10) (list_all (λ c. is_digit c 10) cs) digits).0 in
    and_from (not (bytes_eq text (codes "\\"))) (list_all (λ c. not (is_blank c)) text)
    (digit_no_comment c cs first) (digits_are_written text digits)

pub names_all : (place : Place) (texts : List (Bor (List ℕ)))
    → map (λ t. name_at place t.now) texts ≡ map (name_at place) (texts_in texts)
names_all place [] = refl
names_all place (text ∷ texts) =
    ap (λ (ps : List Piece). name_at place text.now ∷ ps) (names_all place texts)

-- ---- copies

-- one copy more
module _ (node : here.Piece) (tokens names : List here.Piece) (i : ℕ) (name : here.Piece)
    (inside : i < length names) (at : name ≡ get_or names i name) where
  pub copies_more : (old before one two after : List here.Piece)
      → before ≡ old ++ flat_map (λ name. node ∷ name ∷ tokens) (take i names)
      → one ≡ before ++ node ∷ [] → two ≡ one ++ name ∷ [] → after ≡ two ++ tokens
      → after ≡ old ++ flat_map (λ name. node ∷ name ∷ tokens) (take (i + 1) names)
  copies_more old before one two after so_far first second third =
      let copy : here.Piece → List here.Piece = λ name. node ∷ name ∷ tokens in
      third ∙ ap (λ (ps : List here.Piece). ps ++ tokens)
      (second ∙ ap (λ (ps : List here.Piece). ps ++ name ∷ []) first)
      ∙ append_assoc (before ++ node ∷ []) (name ∷ []) tokens
      ∙ append_assoc before (node ∷ []) (name ∷ tokens)
      ∙ ap (λ (ps : List here.Piece). ps ++ copy name) so_far
      ∙ flat_map_more copy old (take i names) name
      ∙ ap (λ (ps : List here.Piece). old ++ flat_map copy ps)
      (sym (take_more names i name inside
      ∙ ap (λ (n : here.Piece). take i names ++ n ∷ []) (sym at)))

copies_are : (node : here.Piece) (tokens names : List here.Piece)
    → map piece_in (flat_map (λ name. node ∷ name ∷ tokens) names)
    ≡ flat_map (copy (piece_in node) (map piece_in tokens)) (map piece_in names)
copies_are node tokens [] = refl
copies_are node tokens (name ∷ names) =
    let all = flat_map (λ name. node ∷ name ∷ tokens) names in
    map-append piece_in (node ∷ name ∷ tokens) all
    ∙ ap (λ (ps : List Piece). (piece_in node ∷ piece_in name ∷ map piece_in tokens) ++ ps)
    (copies_are node tokens names)

pub with_all : (node list : here.Piece) (old new tokens names : List here.Piece)
    → map piece_in names ≡ named_by (piece_in list)
    → new ≡ old ++ flat_map (λ name. node ∷ name ∷ tokens) names
    → map piece_in old ++ copies (piece_in node) (piece_in list) (map piece_in tokens)
    ≡ map piece_in new
with_all node list old new tokens names are is =
    sym (ap (map piece_in) is
    ∙ map-append piece_in old (flat_map (λ name. node ∷ name ∷ tokens) names)
    ∙ ap (λ (ps : List Piece). map piece_in old ++ ps) (copies_are node tokens names
    ∙ ap (flat_map (copy (piece_in node) (map piece_in tokens))) are))

pub how_many : (list : here.Piece) (tokens names : List here.Piece)
    → map piece_in names ≡ named_by (piece_in list)
    → copied (piece_in list) (map piece_in tokens) ≡ length names * (length tokens + 2)
how_many list tokens names are =
    let each : length (map piece_in tokens) ≡ length tokens = length-map tokens piece_in in
    let all : length (names_in list.text.now) ≡ length names =
    sym (length-map (names_in list.text.now) (name_at (piece_in list).place))
    ∙ ap length (sym are) ∙ length-map names piece_in in
    rw (each, all) refl

-- ---- the end of a section

pub long_found : (tokens : List here.Piece)
    → option_map piece_in (find (λ piece. nat_lt 64 (length piece.text.now)) tokens)
    ≡ find is_long (map piece_in tokens)
long_found [] = refl
long_found (token ∷ tokens) =
    by (find (λ piece. nat_lt 64 (length piece.text.now)) tokens)
    (find is_long (map piece_in tokens)) (nat_lt 64 (length token.text.now)) (long_found tokens)
  where
    by : (o : Option here.Piece) (p : Option Piece) (b : Bool) → option_map piece_in o ≡ p
        → option_map piece_in (if b then Some token else o)
        ≡ (if b then Some (piece_in token) else p)
    by o p true e = refl
    by o p false e = e

pub list_ends : (now : Spreading) (node list : Piece) (tokens : List Piece)
    → are_nodes list.text ≡ true → nat_lt now.left (copied list tokens) ≡ false
    → find is_long tokens ≡ None
    → list_ended now node list tokens ≡ Ok (with_copies now node list tokens)
list_ends now node list tokens nodes fits short = rw (nodes, fits, short) refl

-- no more tokens than are left
fits_by : (left n : ℕ) (b : Bool) (m : ℕ)
    → ◌≡◌ {A = Option ℕ} (Some m) (if b then None else Some (left - n))
    → (b ≡ false) × (left - n ≡ m)
fits_by left n true m e = absurd (cc)
fits_by left n false m e = (refl, (let same : m ≡ left - n = cc in sym same))

pub fits : (left n m : ℕ)
    → ◌≡◌ {A = Option ℕ} (Some m) (if nat_lt left n then None else Some (left - n))
    → (nat_lt left n ≡ false) × (left - n ≡ m)
fits left n m e = fits_by left n (nat_lt left n) m e

fits_not_by : (left n : ℕ) (b : Bool)
    → ◌≡◌ {A = Option ℕ} None (if b then None else Some (left - n)) → b ≡ true
fits_not_by left n true e = refl
fits_not_by left n false e = absurd (cc)

pub fits_not : (left n : ℕ)
    → ◌≡◌ {A = Option ℕ} None (if nat_lt left n then None else Some (left - n))
    → nat_lt left n ≡ true
fits_not left n e = fits_not_by left n (nat_lt left n) e

pub list_too_large : (now : Spreading) (node list : Piece) (tokens : List Piece)
    → are_nodes list.text ≡ true → nat_lt now.left (copied list tokens) ≡ true
    → list_ended now node list tokens
    ≡ Err (record { kind = TooLarge; place = list.place })
list_too_large now node list tokens nodes large = rw (nodes, large) refl

pub list_too_long : (now : Spreading) (node list long : Piece) (tokens : List Piece)
    → are_nodes list.text ≡ true → nat_lt now.left (copied list tokens) ≡ false
    → find is_long tokens ≡ Some long
    → list_ended now node list tokens
    ≡ Err (record { kind = BadToken; place = long.place })
list_too_long now node list long tokens nodes fits some = rw (nodes, fits, some) refl

pub list_done : (now : Spreading) (node list : Piece) (tokens done : List Piece) (left : ℕ)
    → now.done ++ copies node list tokens ≡ done → now.left - copied list tokens ≡ left
    → ◌≡◌ {A = Result Spreading Fault} (Ok (with_copies now node list tokens))
    (Ok (record { done = done; left = left; section = NoList }))
list_done now node list tokens done left all less =
    ap {B = Result Spreading Fault} (λ (ps : List Piece). Ok (record {
      done = ps;
      left = now.left - copied list tokens;
      section = NoList;
    })) all
    ∙ ap {B = Result Spreading Fault}
    (λ (n : ℕ). Ok (record { done = done; left = n; section = NoList })) less

-- ---- all tokens

module _ (all : Result (List Piece) Fault) (before : Spreading) (piece : Piece)
    (left others : List Piece) (cut : left ≡ piece ∷ others)
    (so_far : spread_from before left ≡ all) where
  spread_here : further_on (spread_at before piece before.section)
      (λ next. spread_from next others) ≡ all
  unfolding spread_from
  spread_here = ap (spread_from before) (sym cut) ∙ so_far

  pub one_spread : (after : Spreading) → spread_at before piece before.section ≡ Ok after
      → spread_from after others ≡ all
  one_spread after e =
      ap (λ (r : Result Spreading Fault). further_on r (λ next. spread_from next others)) (sym e)
      ∙ spread_here

  pub one_refused : (fault : Fault) → spread_at before piece before.section ≡ Err fault
      → all ≡ Err fault
  one_refused fault e =
      sym spread_here
      ∙ ap (λ (r : Result Spreading Fault). further_on r (λ next. spread_from next others)) e

pub all_spread : (all : Result (List Piece) Fault) (now : Spreading) (left : List Piece)
    → left ≡ [] → spread_from now left ≡ all → all ≡ all_of (at_end now now.section)
unfolding spread_from
all_spread all now left none so_far = sym so_far ∙ ap (spread_from now) none
