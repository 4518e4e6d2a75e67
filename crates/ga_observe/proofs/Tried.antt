-- What a try of a node changes: its part, but for its breakpoints, and no other.
use Rattle.std.proofs.Common.{◌≡◌, ◌∙◌, ℕ, ◌<◌, ◌⊎◌, inl, inr, Bool, false, List, Option, Some, None, ap, get_or, refl, set, subst, sym}
use Rattle.std.specs.Option.{option_map_or}
use Rattle.std.proofs.lemmas.Bool.{cases_eq}
use Rattle.std.proofs.lemmas.Option.{slice_get_within}
use Rattle.ga_place.specs.Cell.{index_of}
use Rattle.ga_place.specs.declared.side.Side.{Side}
use Rattle.ga_place.proofs.Cells.{one_place}
use Rattle.ga_chip.specs.Part.{Part, Asks, Nothing, Own, Feed, Post, Check, Take, after, after_asked, asks}
use Rattle.ga_chip.specs.Chip.{Chip, cells_after, found_by, part_of, tried, tried_at}
use Rattle.ga_chip.specs.Run.{Try, happened, has_break}
use Rattle.ga_chip.specs.Legal.{IsLegal}
use Rattle.ga_chip.proofs.Lists.{get-set_else, get-set_here}

-- A try leads to the chip with the node's next part and the cells after what it asks for.
pub record Leaves (chip : Chip) (name : ℕ) (side : Side) (part next : Part) (asked : Asks) : Type 0
  where
    pub there : part_of chip name ≡ Some part
    pub leads : happened chip (Try name side) ≡ record
        { parts = set chip.parts (index_of name) next; cells = cells_after asked chip.cells }

-- the node has the next part
pub part_here : (chip : Chip) (name : ℕ) (side : Side) (part next : Part) (asked : Asks)
    → Leaves chip name side part next asked
    → part_of (happened chip (Try name side)) name ≡ Some next
part_here chip name side part next asked l = ap (λ c. part_of c name) l.leads
    ∙ get-set_here chip.parts (index_of name) next part l.there

-- each other node has its part as before
pub part_else : (chip : Chip) (name : ℕ) (side : Side) (part next : Part) (asked : Asks)
    → Leaves chip name side part next asked → IsLegal chip → (other : ℕ) → (name ≡ other → ⊥)
    → part_of (happened chip (Try name side)) other ≡ part_of chip other
part_else chip name side part next asked l legal other apart = ap (λ c. part_of c other) l.leads
    ∙ get-set_else chip.parts (index_of name) (index_of other) next
    (λ e. apart (one_place name other
    (subst (λ n. index_of name < n) legal.parts
    (slice_get_within chip.parts (index_of name) part l.there)) e))

-- what a try of a node leaves
pub tried_leaves : (chip : Chip) (name : ℕ) (side : Side) (part : Part)
    → part_of chip name ≡ Some part
    → Leaves chip name side part (after part side (found_by (asks part side) chip.cells)).1
    (asks part side)
unfolding happened tried
tried_leaves chip name side part there =
    record { there = there; leads = ap (λ o. (tried_at o chip name side).1) there }

-- a try of no node changes nothing
pub no_node : (chip : Chip) (name : ℕ) (side : Side) → part_of chip name ≡ None
    → happened chip (Try name side) ≡ chip
unfolding happened tried
no_node chip name side none = ap (λ o. (tried_at o chip name side).1) none

-- a try leaves the breakpoints of its node
same_breaks : (q : Asks) (found : Option ℕ) (part : Part)
    → (after_asked q found part).1.breaks ≡ part.breaks
same_breaks (Nothing outcome) found part = refl
same_breaks Own found part = refl
same_breaks (Feed word) found part = refl
same_breaks (Post side cell word) found part = refl
same_breaks (Check side cell) None part = refl
same_breaks (Check side cell) (Some word) part = refl
same_breaks (Take side cell) None part = refl
same_breaks (Take side cell) (Some word) part = refl

-- whether an address is a breakpoint of a part
abbrev pub break_at : ℕ → Option Part → Bool
break_at address part = option_map_or (λ p. get_or p.breaks address false) part false

-- a try sets no breakpoint
pub try_breaks : (chip : Chip) (name other address : ℕ) (side : Side) → IsLegal chip
    → has_break (happened chip (Try name side)) other address ≡ has_break chip other address
unfolding after
try_breaks chip name other address side legal = by (part_of chip name) refl (cases_eq name other)
  where
    by : (o : Option Part) → part_of chip name ≡ o → (name ≡ other) ⊎ (name ≡ other → ⊥)
        → has_break (happened chip (Try name side)) other address ≡ has_break chip other address
    by None e same = ap (λ c. has_break c other address) (no_node chip name side e)
    by (Some part) e (inl same) =
        let leaves = tried_leaves chip name side part e in
        let next : Part = (after part side (found_by (asks part side) chip.cells)).1 in
        ap (λ n. has_break (happened chip (Try name side)) n address) (sym same)
        ∙ ap (break_at address) (part_here chip name side part next (asks part side) leaves)
        ∙ ap (λ l. get_or l address false)
        (same_breaks (asks part side) (found_by (asks part side) chip.cells) part)
        ∙ sym (ap (break_at address) e) ∙ ap (λ n. has_break chip n address) same
    by (Some part) e (inr apart) =
        ap (break_at address)
        (part_else chip name side part (after part side (found_by (asks part side) chip.cells)).1
        (asks part side) (tried_leaves chip name side part e) legal other apart)
