-- The walk round a ring before its first step, and the list of the nodes for which nodes wait.
use Rattle.std.proofs.Common.{◌≡◌, ◌∙◌, ℕ, zero, suc, ◌+◌, ◌*◌, ◌<◌, ◌≤◌, Bool, true, false, List, [], ◌∷◌, length, Option, Some, None, refl, sym, ap, arith}
use Rattle.std.specs.Prelude.{option_map, slice_get, slice_index_or, if◌then◌else◌}
use Rattle.std.specs.Option.{option_map_or}
use Rattle.std.proofs.Math.Path.{fun_ext}
use Rattle.ga_pack.proofs.ByCases.{on_test}
use Rattle.ga_place.specs.Cell.{index_of, name_at}
use Rattle.ga_place.specs.Node.{column_of, is_node_name, row_of}
use Rattle.ga_place.specs.declared.side.Side.TheVariants.{Right}
use Rattle.ga_chip.specs.Chip.{Chip, part_of}
use Rattle.ga_chip.specs.Legal.{IsLegal}
use Rattle.ga_chip.specs.Part.{Part, asks}
use Rattle.ga_chip.specs.Run.{is_hold}
use Rattle.ga_waits.specs.Ring.{awaits_in, begins_ring, comes_back, names_behind, next_of, row_behind}
use Rattle.ga_waits.specs.inner.Next.{next_in}
use Rattle.ga_waits.proofs.Largest.{back}

pub at_start : (next : ℕ → Option ℕ) (first : ℕ) (from : Option ℕ) → from ≡ next first
    → comes_back next first 144 from ≡ begins_ring next first
unfolding begins_ring
at_start next first from is = ap (comes_back next first 144) is

pub names_start : (next : ℕ → Option ℕ) (first : ℕ) (from : Option ℕ) → from ≡ next first
    → names_behind next first 144 from ≡ row_behind next first
unfolding row_behind
names_start next first from is = ap (names_behind next first 144) is

-- behind the end of a list there is nothing
none_there : (nexts : List (Option ℕ)) (i : ℕ) → length nexts ≤ i
    → slice_index_or nexts i None ≡ None
none_there [] i past = refl
none_there (one ∷ nexts) zero past = absurd (omega (arith, past))
none_there (one ∷ nexts) (suc i) past = none_there nexts i (omega (arith, past))

no_part : (parts : List Part) (i : ℕ) → length parts ≤ i → slice_get parts i ≡ None
no_part [] i past = refl
no_part (one ∷ parts) zero past = absurd (omega (arith, past))
no_part (one ∷ parts) (suc i) past = no_part parts i (omega (arith, past))

-- a name of no node waits for nobody
next_else : (chip : Chip) (name : ℕ) → part_of chip name ≡ None → next_of chip name ≡ None
unfolding next_of
next_else chip name none =
    ap (λ o. awaits_in (option_map_or (λ part. is_hold (asks part Right)) o false) chip.cells name
    (option_map (λ part. part.state) o)) none

-- a name of no node
nobody : (chip : Chip) (name : ℕ) → IsLegal chip → is_node_name name ≡ false
    → part_of chip name ≡ None
nobody chip name legal e =
    let past : index_of name ≡ 144 =
    ap (λ b. if b then row_of name * 18 + column_of name else 144) e in
    let all = legal.parts in
    no_part chip.parts (index_of name) (omega (arith, past, all))

-- So what waits for a node is a node,
pub waits_named : (chip : Chip) → IsLegal chip → (name other : ℕ) → next_of chip name ≡ Some other
    → is_node_name name ≡ true
waits_named chip legal name other waits =
    on_test (is_node_name name) (λ b. b ≡ true) (λ is. refl)
    (λ is_not. absurd (let none = next_else chip name (nobody chip name legal is_not) in cc))

-- and a list with the node for which each node waits has them for all names.
pub all_next : (chip : Chip) (nexts : List (Option ℕ)) → IsLegal chip → length nexts ≡ 144
    → ((k : ℕ) → k < 144 → slice_index_or nexts k None ≡ next_of chip (name_at k))
    → next_in nexts ≡ next_of chip
all_next chip nexts legal count each = fun_ext (λ name. by name (is_node_name name) refl)
  where
    by : (name : ℕ) (b : Bool) → is_node_name name ≡ b → next_in nexts name ≡ next_of chip name
    by name true e = let its = back name e in each (index_of name) its.0 ∙ ap (next_of chip) its.1
    by name false e =
        let past : index_of name ≡ 144 =
        ap (λ b. if b then row_of name * 18 + column_of name else 144) e in
        none_there nexts (index_of name) (omega (arith, past, count))
        ∙ sym (next_else chip name (nobody chip name legal e))
