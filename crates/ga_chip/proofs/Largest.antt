-- The largest closed set is what is left of all nodes, once each was left out that isn't stuck.
use Rattle.std.proofs.Common.{◌≡◌, ℕ, zero, suc, add-zero, cond, ◌+◌, ◌<◌, ◌≤◌, ◌⊎◌, inl, inr, Bool, true, false, List, [], ◌∷◌, length, replicate, set, get_or, slice_get, Option, Some, None, refl, sym, ap, ◌∙◌, subst, arith}
use Rattle.std.specs.Prelude.{◌||◌, not}
use Rattle.std.specs.List.{count_by}
use Rattle.std.specs.Option.{option_map_or}
use Rattle.std.proofs.lemmas.Bool.{and_from, and_parts, cases_eq, cases_lt, false≢true}
use Rattle.std.proofs.lemmas.List.{get_or-set_other}
use Rattle.std.proofs.lemmas.List.Sums.{sum_by-set}
use Rattle.std.proofs.lemmas.Option.{slice_get_read, slice_get_within}
use Rattle.ga_place.specs.Cell.{cell_of, index_of, read_cell}
use Rattle.ga_place.specs.Side.{is_among, neighbour_of}
use Rattle.ga_place.specs.declared.side.Side.{Side}
use Rattle.ga_node.specs.Need.{need_of}
use Rattle.ga_node.specs.declared.need.Need.{Need}
use Rattle.ga_node.specs.declared.need.Need.TheVariants as need
use Rattle.ga_chip.specs.Part.{Part}
use Rattle.ga_chip.specs.Chip.{Chip}
use Rattle.ga_chip.specs.Run.{words_left}
use Rattle.ga_chip.specs.Legal.{IsLegal}
use Rattle.ga_chip.specs.Stuck.{HoldsEachClosed, has_node, is_dry, is_full, is_shut, is_stuck, is_stuck_by}
use Rattle.ga_chip.proofs.Closed.{at_each, from_each, in_closed}

-- every node of one set is in another
abbrev pub IsPart : (ℕ → Bool) → (ℕ → Bool) → Type 0
IsPart inside larger = (name : ℕ) → inside name ≡ true → larger name ≡ true

-- What is stuck by a set is stuck by a larger one.
pub shut_more : (inside larger : ℕ → Bool) (waits : Bool) (at : Option ℕ) → IsPart inside larger
    → is_shut inside waits at ≡ true → is_shut larger waits at ≡ true
shut_more inside larger waits None more shut = refl
shut_more inside larger waits (Some other) more shut =
    let both = and_parts waits (inside other) shut in
    and_from waits (larger other) both.0 (more other both.1)

pub taken_more : (inside larger : ℕ → Bool) (cells : List (Option ℕ)) (name : ℕ) (side : Side)
    (among : Bool) → IsPart inside larger → not among || is_dry inside cells name side ≡ true
    → not among || is_dry larger cells name side ≡ true
taken_more inside larger cells name side true more dry =
    shut_more inside larger (not (is_full cells (read_cell name side)))
    (neighbour_of name side) more dry
taken_more inside larger cells name side false more dry = refl

pub more_by : (inside larger : ℕ → Bool) (cells : List (Option ℕ)) (name : ℕ) (words : List ℕ)
    (n : Need) → IsPart inside larger → is_stuck_by inside cells name words n ≡ true
    → is_stuck_by larger cells name words n ≡ true
more_by inside larger cells name words need.Own more stuck = stuck
more_by inside larger cells name words (need.Take sides) more stuck =
    from_each (λ side. not (is_among side sides) || is_dry larger cells name side)
    (λ side. taken_more inside larger cells name side (is_among side sides) more
    (at_each (λ side. not (is_among side sides) || is_dry inside cells name side) stuck side))
more_by inside larger cells name words (need.Post to word) more stuck = stuck
more_by inside larger cells name words (need.Check to) more stuck =
    shut_more inside larger (is_full cells (cell_of name to)) (neighbour_of name to) more stuck
more_by inside larger cells name words need.Input more stuck = stuck
more_by inside larger cells name words (need.Stopped stop) more stuck = refl

pub stuck_more : (inside larger : ℕ → Bool) (cells : List (Option ℕ)) (part : Part)
    → IsPart inside larger → is_stuck inside cells part ≡ true → is_stuck larger cells part ≡ true
unfolding is_stuck
stuck_more inside larger cells part more stuck =
    more_by inside larger cells part.state.node (words_left part.stream)
    (need_of part.state) more stuck

-- So a node that isn't stuck is in no closed set, and may be left out.
left_out : (chip : Chip) (nodes : List Bool) (index : ℕ) (part : Part)
    → slice_get chip.parts index ≡ Some part → is_stuck (has_node nodes) chip.cells part ≡ false
    → HoldsEachClosed chip (has_node nodes)
    → HoldsEachClosed chip (has_node (set nodes index false))
left_out chip nodes index part there free holds other name closed member =
    by (cases_eq (index_of name) index)
  where
    by : (index_of name ≡ index) ⊎ (index_of name ≡ index → ⊥)
        → get_or (set nodes index false) (index_of name) false ≡ true
    by (inl same) =
        let stuck : is_stuck other chip.cells part ≡ true =
        sym (ap (λ o. option_map_or (is_stuck other chip.cells) o false)
        (ap (slice_get chip.parts) same ∙ there)) ∙ closed name member in
        absurd (false≢true (sym free ∙ stuck_more other (has_node nodes) chip.cells part
        (λ n is. holds other n closed is) stuck))
    by (inr apart) =
        get_or-set_other nodes index (index_of name) false false apart
        ∙ holds other name closed member

-- the set of all nodes holds each closed set
all_true : (n i : ℕ) → i < n → get_or (replicate n true) i false ≡ true
all_true zero i below = absurd (omega arith)
all_true (suc n) zero below = refl
all_true (suc n) (suc i) below = all_true n i (omega arith)

pub all_hold : (chip : Chip) → IsLegal chip → HoldsEachClosed chip (has_node (replicate 144 true))
all_hold chip legal other name closed member =
    let it = in_closed chip other name closed member in
    all_true 144 (index_of name) (subst (λ n. index_of name < n) legal.parts
    (slice_get_within chip.parts (index_of name) it.part it.there))

-- the nodes of a set up to an index are stuck
abbrev pub AreStuck : Chip → List Bool → ℕ → Type 0
AreStuck chip nodes index =
    (at : ℕ) → at < index → get_or nodes at false ≡ true
    → option_map_or (is_stuck (has_node nodes) chip.cells) (slice_get chip.parts at) false ≡ true

one_more : (chip : Chip) (nodes : List Bool) (index : ℕ) → AreStuck chip nodes index
    → (get_or nodes index false ≡ true → option_map_or (is_stuck (has_node nodes) chip.cells)
    (slice_get chip.parts index) false ≡ true) → AreStuck chip nodes (index + 1)
one_more chip nodes index stuck here at below = by (cases_lt at index)
  where
    by : (at < index) ⊎ (index ≤ at) → get_or nodes at false ≡ true
        → option_map_or (is_stuck (has_node nodes) chip.cells) (slice_get chip.parts at) false
        ≡ true
    by (inl before) = stuck at before
    by (inr past) =
        let last : index ≡ at = omega arith in
        subst (λ i. get_or nodes i false ≡ true → option_map_or
        (is_stuck (has_node nodes) chip.cells) (slice_get chip.parts i) false ≡ true) last here

past_end : (nodes : List Bool) (i : ℕ) → length nodes ≤ i → get_or nodes i false ≡ false
past_end [] i past = refl
past_end (one ∷ nodes) zero past = absurd (omega arith)
past_end (one ∷ nodes) (suc i) past = past_end nodes i (omega arith)

-- a set without one of its nodes has one fewer
one_fewer : (nodes : List Bool) (index : ℕ) → get_or nodes index false ≡ true
    → count_by (λ one. one) (set nodes index false) + 1 ≡ count_by (λ one. one) nodes
one_fewer nodes index member = by (cases_lt index (length nodes))
  where
    by : (index < length nodes) ⊎ (length nodes ≤ index)
        → count_by (λ one. one) (set nodes index false) + 1 ≡ count_by (λ one. one) nodes
    by (inl within) =
        sym (ap (λ one. count_by (λ x. x) (set nodes index false) + cond one 1 0) member)
        ∙ sum_by-set (λ one. cond one 1 0) nodes index false false within ∙ add-zero _
    by (inr past) = absurd (false≢true (sym (past_end nodes index past) ∙ member))

-- One look at each node up to an index: what is left of a set, and whether a node was left out of
-- it.
pub record HasLooked (chip : Chip) (first nodes : List Bool) (left : Bool)
    (index : ℕ) : Type 0 where
  -- if none was, those left are stuck
  pub stuck : left ≡ false → AreStuck chip nodes index
  -- no closed set has lost a node
  pub holds : HoldsEachClosed chip (has_node first) → HoldsEachClosed chip (has_node nodes)
  pub fewer : left ≡ true → count_by (λ one. one) nodes < count_by (λ one. one) first
  pub atmost : count_by (λ one. one) nodes ≤ count_by (λ one. one) first

-- a node that isn't stuck is left out
pub looked_left : (chip : Chip) (first nodes now : List Bool) (left now_left : Bool) (index : ℕ)
    (part : Part) → IsLegal chip → index < 144 → part ≡ get_or chip.parts index part
    → get_or nodes index false ≡ true → is_stuck (has_node nodes) chip.cells part ≡ false
    → now ≡ set nodes index false → now_left ≡ true → HasLooked chip first nodes left index
    → HasLooked chip first now now_left (index + 1)
looked_left chip first nodes now left now_left index part legal below read member free is same_left
    looked =
    subst (λ ns. HasLooked chip first ns now_left (index + 1)) (sym is) (subst
    (λ b. HasLooked chip first (set nodes index false) b (index + 1)) (sym same_left) without)
  where
    less : count_by (λ one. one) (set nodes index false) < count_by (λ one. one) first
    less = let atmost = looked.atmost in omega (arith, one_fewer nodes index member)

    without : HasLooked chip first (set nodes index false) true (index + 1)
    without = record {
      stuck = λ e. absurd (false≢true (sym e));
      holds = λ h. left_out chip nodes index part (slice_get_read chip.parts 144 index part
          (sym legal.parts) below read) free (looked.holds h);
      fewer = λ e. less;
      atmost = omega (arith, less);
    }

looked_on : (chip : Chip) (first nodes now : List Bool) (left now_left : Bool) (index : ℕ)
    → (get_or nodes index false ≡ true → option_map_or (is_stuck (has_node nodes) chip.cells)
    (slice_get chip.parts index) false ≡ true) → now ≡ nodes → now_left ≡ left
    → HasLooked chip first nodes left index → HasLooked chip first now now_left (index + 1)
looked_on chip first nodes now left now_left index here is same_left looked =
    subst (λ ns. HasLooked chip first ns now_left (index + 1)) (sym is)
    (subst (λ b. HasLooked chip first nodes b (index + 1)) (sym same_left) (record {
      stuck = λ e. one_more chip nodes index (looked.stuck e) here;
      holds = looked.holds;
      fewer = looked.fewer;
      atmost = looked.atmost;
    }))

-- one that is stuck stays in the set
pub looked_stuck : (chip : Chip) (first nodes now : List Bool) (left now_left : Bool) (index : ℕ)
    (part : Part) → IsLegal chip → index < 144 → part ≡ get_or chip.parts index part
    → is_stuck (has_node nodes) chip.cells part ≡ true → now ≡ nodes → now_left ≡ left
    → HasLooked chip first nodes left index → HasLooked chip first now now_left (index + 1)
looked_stuck chip first nodes now left now_left index part legal below read stuck is same_left
    looked =
    looked_on chip first nodes now left now_left index
    (λ member. ap (λ o. option_map_or (is_stuck (has_node nodes) chip.cells) o false)
    (slice_get_read chip.parts 144 index part (sym legal.parts) below read) ∙ stuck) is same_left
    looked

-- and one that isn't in the set isn't looked at
pub looked_past : (chip : Chip) (first nodes now : List Bool) (left now_left : Bool) (index : ℕ)
    → get_or nodes index false ≡ false → now ≡ nodes → now_left ≡ left
    → HasLooked chip first nodes left index → HasLooked chip first now now_left (index + 1)
looked_past chip first nodes now left now_left index out is same_left looked =
    looked_on chip first nodes now left now_left index
    (λ member. absurd (false≢true (sym out ∙ member))) is same_left looked
