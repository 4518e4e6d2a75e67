-- Lists of the code, as definitions have them.
use Rattle.std.proofs.Common.{◌≡◌, ◌∙◌, ◌+◌, ◌-◌, ◌<◌, ◌≤◌, ℕ, Bool, true, false, List, [], ◌∷◌, ◌++◌, length, map, get_or, take, Option, Some, None, Result, Ok, refl, sym, ap, append_assoc, arith}
use Rattle.std.specs.Prelude.{◌==◌, nat_lt, option_map, slice_get, if◌then◌else◌}
use Rattle.std.specs.Borrow.{Bor}
use Rattle.std.specs.List.{find, list_any, position}
use Rattle.std.specs.Option.{is_some, option_and_then, unwrap_or}
use Rattle.std.specs.Str.{bytes_eq}
use Rattle.std.proofs.lemmas.Bool.Decides.{nat_tests}
use Rattle.std.proofs.lemmas.List.{length-map, map-append, take_more}
use Rattle.std.proofs.lemmas.Option.{slice_get-map}
use Rattle.ga_expand.specs.declared.bodies.Part as part
use Rattle.ga_expand.specs.declared.bodies.SharedBody as body
use Rattle.ga_expand.specs.declared.piece.Piece as written
use Rattle.ga_pack.specs.Model.Text.{Place}
use Rattle.ga_expand.specs.declared.error.ExpandErrorKind.TheVariants.{TooLarge}
use Rattle.ga_expand.specs.Error.{Fault}
use Rattle.ga_expand.specs.Bodies.{Arguments, Draft, Part, Reading, SharedBody, Tokens, Unfolding, begun, behind, behind_all, body_named, failed, filled, missing, use_of, used, with_parts}
use Rattle.ga_expand.specs.Constants.{is_among}
use Rattle.ga_expand.specs.Expanding.{Body, Piece, Stage}
use Rattle.ga_expand.specs.inner.Bodies.{body_in, filled_in, part_in, texts_in}
use Rattle.ga_expand.specs.inner.Piece.{piece_in}
use Rattle.ga_expand.proofs.Origins.{position_map}

-- ---- names

pub names_among : (names : List (Bor (List ℕ))) (text : List ℕ)
    → list_any (λ name. bytes_eq text name.now) names ≡ is_among (texts_in names) text
names_among [] text = refl
names_among (name ∷ names) text = rw (names_among names text) refl

pub number_named : (names : List (Bor (List ℕ))) (text : List ℕ)
    → position (λ name. bytes_eq name text) (texts_in names)
    ≡ position (λ name. bytes_eq name.now text) names
number_named names text = position_map (λ name. name.now) (λ name. bytes_eq name text) names

found_by : (entry : body.SharedBody) (o : Option body.SharedBody) (p : Option SharedBody) (b : Bool)
    → option_map body_in o ≡ p
    → option_map body_in (if b then Some entry else o) ≡ (if b then Some (body_in entry) else p)
found_by entry o p true e = refl
found_by entry o p false e = e

pub body_found : (bodies : List body.SharedBody) (name : List ℕ)
    → option_map body_in (find (λ body. bytes_eq body.name.now name) bodies)
    ≡ body_named (map body_in bodies) name
body_found [] name = refl
body_found (entry ∷ bodies) name =
    found_by entry (find (λ body. bytes_eq body.name.now name) bodies)
    (body_named (map body_in bodies) name) (bytes_eq entry.name.now name) (body_found bodies name)

-- ---- what a `use` stands for

filled_by : (arguments : List part.Part) (one : part.Part) (o : Option ℕ)
    → part_in (unwrap_or (option_and_then (slice_get arguments) o) one)
    ≡ unwrap_or (option_and_then (slice_get (map part_in arguments)) o) (part_in one)
filled_by arguments one None = refl
filled_by arguments one (Some n) =
    by (slice_get arguments n)
    ∙ ap (λ o. unwrap_or o (part_in one)) (sym (slice_get-map part_in arguments n))
  where
    by : (o : Option part.Part) → part_in (unwrap_or o one)
        ≡ unwrap_or (option_map part_in o) (part_in one)
    by None = refl
    by (Some x) = refl

pub filled_parts : (arguments parts : List part.Part)
    → map part_in (map (filled_in arguments) parts)
    ≡ map (filled (map part_in arguments)) (map part_in parts)
filled_parts arguments [] = refl
filled_parts arguments (one ∷ parts) =
    rw (filled_by arguments one one.parameter, filled_parts arguments parts) refl

pub with_filled : (old arguments parts : List part.Part)
    → map part_in (old ++ map (filled_in arguments) parts)
    ≡ map part_in old ++ map (filled (map part_in arguments)) (map part_in parts)
with_filled old arguments parts =
    map-append part_in old (map (filled_in arguments) parts)
    ∙ ap (λ ps. map part_in old ++ ps) (filled_parts arguments parts)

pub behind_one_more : (stage : Stage) (parts : List Part) (one : Part)
    → behind_all stage (parts ++ one ∷ []) ≡ behind (behind_all stage parts) one.piece.text
behind_one_more stage [] one = refl
behind_one_more stage (part ∷ parts) one =
    behind_one_more (behind stage part.piece.text) parts one

-- one token more of a body
module _ (arguments body : List part.Part) (i : ℕ) (one new : part.Part) (inside : i < length body)
    (at : one ≡ get_or body i one) (is : new ≡ filled_in arguments one) where
  one_more : map (filled_in arguments) (take (i + 1) body)
      ≡ map (filled_in arguments) (take i body) ++ new ∷ []
  one_more =
      ap (map (filled_in arguments)) (take_more body i one inside
      ∙ ap (λ (x : part.Part). take i body ++ x ∷ []) (sym at))
      ∙ map-append (filled_in arguments) (take i body) (one ∷ [])
      ∙ ap (λ (x : part.Part). map (filled_in arguments) (take i body) ++ x ∷ []) (sym is)

  pub parts_more : (old before after : List part.Part)
      → before ≡ old ++ map (filled_in arguments) (take i body) → after ≡ before ++ new ∷ []
      → after ≡ old ++ map (filled_in arguments) (take (i + 1) body)
  parts_more old before after b a =
      a ∙ ap (λ (ps : List part.Part). ps ++ new ∷ []) b
      ∙ append_assoc old (map (filled_in arguments) (take i body)) (new ∷ [])
      ∙ ap (λ (ps : List part.Part). old ++ ps) (sym one_more)

  pub pieces_more : (old before after : List written.Piece)
      → before ≡ old ++ map (λ part. part.piece) (map (filled_in arguments) (take i body))
      → after ≡ before ++ new.piece ∷ []
      → after ≡ old ++ map (λ part. part.piece) (map (filled_in arguments) (take (i + 1) body))
  pieces_more old before after b a =
      let so_far = map (filled_in arguments) (take i body) in
      a ∙ ap (λ (ps : List written.Piece). ps ++ new.piece ∷ []) b
      ∙ append_assoc old (map (λ part. part.piece) so_far) (new.piece ∷ [])
      ∙ ap (λ (ps : List written.Piece). old ++ ps) (sym
      (ap (map (λ (one : part.Part). one.piece)) one_more
      ∙ map-append (λ (one : part.Part). one.piece) so_far (new ∷ [])))

  pub stage_more : (before after : Stage)
      → before ≡ behind_all Body (map part_in (map (filled_in arguments) (take i body)))
      → after ≡ behind before new.piece.text.now
      → after ≡ behind_all Body (map part_in (map (filled_in arguments) (take (i + 1) body)))
  stage_more before after b a =
      let so_far = map (filled_in arguments) (take i body) in
      a ∙ ap (λ (s : Stage). behind s new.piece.text.now) b
      ∙ sym (behind_one_more Body (map part_in so_far) (part_in new))
      ∙ ap (behind_all Body) (sym (ap (map part_in) one_more
      ∙ map-append part_in so_far (new ∷ [])))

-- the tokens of a `use` in a body
pub used_parts : (now : Unfolding) (draft : Draft) (old new body arguments : List part.Part)
    (stage : Stage) → now.draft ≡ Some draft → now.parts ≡ map part_in old
    → new ≡ old ++ map (filled_in arguments) body
    → stage ≡ behind_all Body (map part_in (map (filled_in arguments) body))
    → ◌≡◌ {A = Unfolding} (record now { parts = map part_in new; reading = Tokens stage })
    (used now (map part_in body) (map part_in arguments))
used_parts now draft old new body arguments stage inside had is after =
    let all = map (filled (map part_in arguments)) (map part_in body) in
    let parts : now.parts ++ all ≡ map part_in new =
    ap (λ (ps : List Part). ps ++ all) had ∙ sym (with_filled old arguments body)
    ∙ ap (map part_in) (sym is) in
    let last : behind_all Body all ≡ stage =
    ap (behind_all Body) (sym (filled_parts arguments body)) ∙ sym after in
    sym (ap {B = Unfolding}
    (λ (d : Option Draft). with_parts now d all (behind_all Body all)) inside
    ∙ ap {B = Unfolding}
    (λ (ps : List Part). record now { parts = ps; reading = Tokens (behind_all Body all) }) parts
    ∙ ap {B = Unfolding}
    (λ (s : Stage). record now { parts = map part_in new; reading = Tokens s }) last)

pieces_of_parts : (parts : List part.Part)
    → map piece_in (map (λ part. part.piece) parts) ≡ map (λ part. part.piece) (map part_in parts)
pieces_of_parts [] = refl
pieces_of_parts (one ∷ parts) =
    ap (λ (ps : List Piece). piece_in one.piece ∷ ps) (pieces_of_parts parts)

-- the tokens of a `use` in the text
pub used_pieces : (now : Unfolding) (old new : List written.Piece)
    (body arguments : List part.Part) (stage : Stage) → now.draft ≡ None
    → now.text ≡ map piece_in old
    → new ≡ old ++ map (λ part. part.piece) (map (filled_in arguments) body)
    → stage ≡ behind_all Body (map part_in (map (filled_in arguments) body))
    → ◌≡◌ {A = Unfolding} (record now { text = map piece_in new; reading = Tokens stage })
    (used now (map part_in body) (map part_in arguments))
used_pieces now old new body arguments stage outside had is after =
    let all = map (filled (map part_in arguments)) (map part_in body) in
    let added = map (filled_in arguments) body in
    let filled_pieces : map piece_in (map (λ part. part.piece) added)
    ≡ map (λ part. part.piece) all =
    pieces_of_parts added
    ∙ ap (map (λ (one : Part). one.piece)) (filled_parts arguments body) in
    let text : now.text ++ map (λ part. part.piece) all ≡ map piece_in new =
    ap (λ (ps : List Piece). ps ++ map (λ part. part.piece) all) had
    ∙ ap (λ (ps : List Piece). map piece_in old ++ ps) (sym filled_pieces)
    ∙ sym (map-append piece_in old (map (λ part. part.piece) added))
    ∙ ap (map piece_in) (sym is) in
    let last : behind_all Body all ≡ stage =
    ap (behind_all Body) (sym (filled_parts arguments body)) ∙ sym after in
    sym (ap {B = Unfolding}
    (λ (d : Option Draft). with_parts now d all (behind_all Body all)) outside
    ∙ ap {B = Unfolding}
    (λ (ps : List Piece). record now { text = ps; reading = Tokens (behind_all Body all) }) text
    ∙ ap {B = Unfolding}
    (λ (s : Stage). record now { text = map piece_in new; reading = Tokens s }) last)

other_parts : (now : Unfolding) (next : Reading) (draft : Option Draft) (parts : List Part)
    (stage : Stage) → with_parts (record now { reading = next }) draft parts stage
    ≡ with_parts now draft parts stage
other_parts now next (Some draft) parts stage = refl
other_parts now next None parts stage = refl

pub other_reading : (now : Unfolding) (next : Reading) (place : Place) (more : ℕ)
    (parts arguments : List Part)
    → missing (record now { reading = next }) place more parts arguments
    ≡ missing now place more parts arguments
other_reading now next place more parts arguments = by (more == 0)
  where
    by : (b : Bool) → ◌≡◌ {A = Unfolding} (if b then used (record now { reading = next }) parts
        arguments else record now { reading = Arguments place (more - 1) parts arguments })
        (if b then used now parts arguments
        else record now { reading = Arguments place (more - 1) parts arguments })
    by true =
        other_parts now next now.draft (map (filled arguments) parts)
        (behind_all Body (map (filled arguments) parts))
    by false = refl

-- ---- the body that a `use` names

is_some_map : {X Y : Type 0} (f : X → Y) (o : Option X) → is_some (option_map f o) ≡ is_some o
is_some_map f None = refl
is_some_map f (Some x) = refl

module _ (bodies : List body.SharedBody) (name : List ℕ) (o : Option (Bor body.SharedBody))
    (e : option_map (λ body. body.now) o ≡ find (λ body. bytes_eq body.name.now name) bodies) where
  pub the_found : option_map (λ body. body_in body.now) o ≡ body_named (map body_in bodies) name
  the_found = by o ∙ ap (option_map body_in) e ∙ body_found bodies name
    where
      by : (p : Option (Bor body.SharedBody)) → option_map (λ body. body_in body.now) p
          ≡ option_map body_in (option_map (λ body. body.now) p)
      by None = refl
      by (Some x) = refl

  pub is_found : is_some o ≡ is_some (body_named (map body_in bodies) name)
  is_found = sym (is_some_map (λ body. body_in body.now) o) ∙ ap is_some the_found

pub too_large : (now : Unfolding) (start place : Place) (one : body.SharedBody)
    → now.left < length one.parts.items
    → use_of now start place (Some (body_in one)) ≡ failed TooLarge place
too_large now start place one h =
    let is : nat_lt now.left (length (map part_in one.parts.items)) ≡ true =
    grind (arith, nat_tests, length-map one.parts.items part_in) in
    rw is refl

pub not_too_large : (now : Unfolding) (start place : Place) (one : body.SharedBody)
    → length one.parts.items ≤ now.left
    → use_of now start place (Some (body_in one)) ≡ Ok (begun now start (body_in one))
not_too_large now start place one h =
    let is : nat_lt now.left (length (map part_in one.parts.items)) ≡ false =
    grind (arith, nat_tests, length-map one.parts.items part_in) in
    rw is refl

-- what a `use` begins, as the code has it
pub begun_by : (now : Unfolding) (next : Reading) (place : Place) (one : body.SharedBody)
    (parts arguments : List part.Part) (left : ℕ) → left ≡ now.left - length one.parts.items
    → parts ≡ one.parts.items → arguments ≡ []
    → missing (record now { left = left; reading = next }) place one.arity (map part_in parts)
    (map part_in arguments) ≡ begun now place (body_in one)
begun_by now next place one parts arguments left less same none =
    let fewer : left ≡ now.left - length (map part_in one.parts.items) =
    less ∙ ap (λ (n : ℕ). now.left - n) (sym (length-map one.parts.items part_in)) in
    other_reading (record now { left = left }) next place one.arity (map part_in parts)
    (map part_in arguments)
    ∙ ap (λ (n : ℕ). missing (record now { left = n }) place one.arity (map part_in parts)
    (map part_in arguments)) fewer
    ∙ ap (λ (ps : List part.Part). missing
    (record now { left = now.left - length (map part_in one.parts.items) }) place one.arity
    (map part_in ps) (map part_in arguments)) same
    ∙ ap (λ (ps : List part.Part). missing
    (record now { left = now.left - length (map part_in one.parts.items) }) place one.arity
    (map part_in one.parts.items) (map part_in ps)) none

-- ---- arguments

pub argument_taken : (b : Bool) (next other : Result Unfolding Fault) → b ≡ true
    → (if b then next else other) ≡ next
argument_taken true next other e = refl
argument_taken false next other e = absurd (cc)
