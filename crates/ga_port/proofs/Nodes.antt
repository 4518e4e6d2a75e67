-- What a seat has of a node, after each change of its nodes.
use Rattle.std.proofs.Common.{◌≡◌, ◌≢◌, ℕ, zero, suc, ◌+◌, ◌<◌, Bool, true, false, not, ◌⊎◌, inl, inr, List, [], ◌∷◌, Option, Some, None, set, slice_get, get_or, refl, sym, ap, subst, ◌∙◌, add-zero, arith}
use Rattle.std.specs.Option.{option_or}
use Rattle.std.specs.Prelude.{if◌then◌else◌}
use Rattle.std.proofs.lemmas.Option.{none-some, same_Some}
use Rattle.std.proofs.lemmas.List.{get_or-set_other}
use Rattle.ga_place.specs.Cell.{index_of, name_at}
use Rattle.ga_place.specs.Node.{is_among}
use Rattle.ga_place.proofs.Cells.{name_back}
use Rattle.ga_chip.specs.declared.outcome.Try.{Try}
use Rattle.ga_chip.specs.Part.{Part}
use Rattle.ga_port.specs.declared.seat.Holding.{Holding}
use Rattle.ga_port.specs.Seat.{kept, kept_after, kept_where, merged, only, tried_in, tried_of, untried, without}

-- ---- a try

write_here : (nodes : List (Option Holding)) (index : ℕ) (new old : Holding)
    → get_or nodes index None ≡ Some old → get_or (set nodes index (Some new)) index None ≡ Some new
write_here [] index new old e = absurd (none-some old e)
write_here (one ∷ rest) zero new old e = refl
write_here (one ∷ rest) (suc index) new old e = write_here rest index new old e

-- the node that was tried
pub tried_here : (nodes : List (Option Holding)) (what : Try) (found : Option ℕ) (one : Holding)
    → kept nodes what.node ≡ Some one
    → kept (tried_in nodes what found) what.node ≡ Some (kept_after one what.side found)
unfolding kept tried_in
tried_here nodes what found one has =
    ap (λ o. get_or (tried_of o nodes what found) (index_of what.node) None) has
    ∙ write_here nodes (index_of what.node) (kept_after one what.side found) one has

-- and another
pub tried_else : (nodes : List (Option Holding)) (what : Try) (found : Option ℕ) (name : ℕ)
    → index_of name ≢ index_of what.node → kept (tried_in nodes what found) name ≡ kept nodes name
unfolding kept tried_in
tried_else nodes what found name apart = by (get_or nodes (index_of what.node) None)
  where
    by : (o : Option Holding) → get_or (tried_of o nodes what found) (index_of name) None
        ≡ get_or nodes (index_of name) None
    by (Some one) =
        get_or-set_other nodes (index_of what.node) (index_of name)
        (Some (kept_after one what.side found)) None apart
    by None = refl

-- ---- all nodes, before any try

untried_at : (parts : List Part) (index : ℕ) (one : Holding)
    → get_or (untried parts) index None ≡ Some one → (part : Part)
    × (slice_get parts index ≡ Some part) × (one ≡ record { part = part; sides = [] })
unfolding untried
untried_at [] index one e = absurd (none-some one e)
untried_at (part ∷ parts) zero one e = (part, refl, sym (same_Some _ one e))
untried_at (part ∷ parts) (suc index) one e = untried_at parts index one e

pub untried_from : (parts : List Part) (name : ℕ) (one : Holding)
    → kept (untried parts) name ≡ Some one → (part : Part)
    × (slice_get parts (index_of name) ≡ Some part) × (one ≡ record { part = part; sides = [] })
unfolding kept
untried_from parts name one e = untried_at parts (index_of name) one e

untried_there_at : (parts : List Part) (index : ℕ) (part : Part) → slice_get parts index ≡ Some part
    → get_or (untried parts) index None ≡ Some (record { part = part; sides = [] })
unfolding untried
untried_there_at [] index part e = absurd (none-some part e)
untried_there_at (one ∷ parts) zero part e =
    ap (λ (p : Part). Some (record { part = p; sides = [] })) (same_Some one part e)
untried_there_at (one ∷ parts) (suc index) part e = untried_there_at parts index part e

pub untried_there : (parts : List Part) (name : ℕ) (part : Part)
    → slice_get parts (index_of name) ≡ Some part
    → kept (untried parts) name ≡ Some (record { part = part; sides = [] })
unfolding kept
untried_there parts name part e = untried_there_at parts (index_of name) part e

-- ---- some of the nodes

chosen : (b : Bool) (x : Option Holding) (one : Holding) → (if b then x else None) ≡ Some one
    → (b ≡ true) × (x ≡ Some one)
chosen true x one e = (refl, e)
chosen false x one e = absurd (none-some one e)

where_from : (test : ℕ → Bool) (from : ℕ) (nodes : List (Option Holding)) (index : ℕ)
    (one : Holding) → get_or (kept_where test from nodes) index None ≡ Some one
    → (test (name_at (from + index)) ≡ true) × (get_or nodes index None ≡ Some one)
where_from test from [] index one e = absurd (none-some one e)
where_from test from (x ∷ rest) zero one e =
    let both = chosen (test (name_at from)) x one e in
    (subst (λ n. test (name_at n) ≡ true) (sym (add-zero from)) both.0, both.1)
where_from test from (x ∷ rest) (suc index) one e =
    let next : suc from + index ≡ from + suc index = omega arith in
    let both = where_from test (suc from) rest index one e in
    (subst (λ n. test (name_at n) ≡ true) next both.0, both.1)

where_keeps : (test : ℕ → Bool) (from : ℕ) (nodes : List (Option Holding)) (index : ℕ)
    (one : Holding) → test (name_at (from + index)) ≡ true → get_or nodes index None ≡ Some one
    → get_or (kept_where test from nodes) index None ≡ Some one
where_keeps test from [] index one t e = e
where_keeps test from (x ∷ rest) zero one t e =
    ap (λ (b : Bool). if b then x
    else None) (subst (λ n. test (name_at n) ≡ true) (add-zero from) t) ∙ e
where_keeps test from (x ∷ rest) (suc index) one t e =
    let next : from + suc index ≡ suc from + index = omega arith in
    where_keeps test (suc from) rest index one (subst (λ n. test (name_at n) ≡ true) next t) e

named : (test : ℕ → Bool) (name : ℕ) → index_of name < 144
    → test (name_at (0 + index_of name)) ≡ test name
named test name below =
    ap (λ n. test (name_at n)) (let zero_first : 0 + index_of name ≡ index_of name = omega arith in
    zero_first) ∙ ap test (name_back name below)

pub only_from : (names : List ℕ) (nodes : List (Option Holding)) (name : ℕ) (one : Holding)
    → kept (only names nodes) name ≡ Some one → kept nodes name ≡ Some one
unfolding kept only
only_from names nodes name one e =
    (where_from (λ n. is_among n names) 0 nodes (index_of name) one e).1

pub only_among : (names : List ℕ) (nodes : List (Option Holding)) (name : ℕ) (one : Holding)
    → index_of name < 144 → kept (only names nodes) name ≡ Some one → is_among name names ≡ true
unfolding kept only
only_among names nodes name one below e =
    sym (named (λ n. is_among n names) name below)
    ∙ (where_from (λ n. is_among n names) 0 nodes (index_of name) one e).0

pub only_keeps : (names : List ℕ) (nodes : List (Option Holding)) (name : ℕ) (one : Holding)
    → index_of name < 144 → is_among name names ≡ true → kept nodes name ≡ Some one
    → kept (only names nodes) name ≡ Some one
unfolding kept only
only_keeps names nodes name one below among e =
    where_keeps (λ n. is_among n names) 0 nodes (index_of name) one
    (named (λ n. is_among n names) name below ∙ among) e

pub without_from : (names : List ℕ) (nodes : List (Option Holding)) (name : ℕ) (one : Holding)
    → kept (without names nodes) name ≡ Some one → kept nodes name ≡ Some one
unfolding kept without
without_from names nodes name one e =
    (where_from (λ n. not (is_among n names)) 0 nodes (index_of name) one e).1

pub without_among : (names : List ℕ) (nodes : List (Option Holding)) (name : ℕ) (one : Holding)
    → index_of name < 144 → kept (without names nodes) name ≡ Some one
    → not (is_among name names) ≡ true
unfolding kept without
without_among names nodes name one below e =
    sym (named (λ n. not (is_among n names)) name below)
    ∙ (where_from (λ n. not (is_among n names)) 0 nodes (index_of name) one e).0

pub without_keeps : (names : List ℕ) (nodes : List (Option Holding)) (name : ℕ) (one : Holding)
    → index_of name < 144 → is_among name names ≡ false → kept nodes name ≡ Some one
    → kept (without names nodes) name ≡ Some one
unfolding kept without
without_keeps names nodes name one below apart e =
    where_keeps (λ n. not (is_among n names)) 0 nodes (index_of name) one
    (named (λ n. not (is_among n names)) name below ∙ ap not apart) e

-- ---- the nodes of two seats

either_from : (x y : Option Holding) (one : Holding) → option_or x y ≡ Some one
    → (x ≡ Some one) ⊎ (y ≡ Some one)
either_from (Some x) y one e = inl e
either_from None y one e = inr e

merged_at : (nodes others : List (Option Holding)) (index : ℕ) → get_or (merged nodes others) index
    None ≡ option_or (get_or nodes index None) (get_or others index None)
unfolding merged
merged_at [] others index = refl
merged_at (one ∷ rest) [] index = keeps (get_or (one ∷ rest) index None)
  where
    keeps : (x : Option Holding) → x ≡ option_or x None
    keeps (Some x) = refl
    keeps None = refl
merged_at (one ∷ rest) (other ∷ others) zero = refl
merged_at (one ∷ rest) (other ∷ others) (suc index) = merged_at rest others index

pub merged_of : (nodes others : List (Option Holding)) (name : ℕ)
    → kept (merged nodes others) name ≡ option_or (kept nodes name) (kept others name)
unfolding kept
merged_of nodes others name = merged_at nodes others (index_of name)

pub merged_from : (nodes others : List (Option Holding)) (name : ℕ) (one : Holding)
    → kept (merged nodes others) name ≡ Some one
    → (kept nodes name ≡ Some one) ⊎ (kept others name ≡ Some one)
merged_from nodes others name one e =
    either_from (kept nodes name) (kept others name) one (sym (merged_of nodes others name) ∙ e)

pub merged_left : (nodes others : List (Option Holding)) (name : ℕ) (one : Holding)
    → kept nodes name ≡ Some one → kept (merged nodes others) name ≡ Some one
merged_left nodes others name one e =
    merged_of nodes others name ∙ ap (λ x. option_or x (kept others name)) e

pub merged_right : (nodes others : List (Option Holding)) (name : ℕ) → kept nodes name ≡ None
    → kept (merged nodes others) name ≡ kept others name
merged_right nodes others name e =
    merged_of nodes others name ∙ ap (λ x. option_or x (kept others name)) e

-- no nodes
pub kept_none : (name : ℕ) → kept [] name ≡ None
unfolding kept
kept_none name = refl
