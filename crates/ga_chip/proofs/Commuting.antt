-- Two nodes' tries that would each be Moved touch no cell in common, so they commute.
use Rattle.std.proofs.Common.{◌≡◌, ℕ, ◌<◌, List, set, Option, Some, None, refl, sym, ap, ap₂, ◌∙◌, subst}
use Rattle.std.proofs.lemmas.Option.{same_Some, none-some, slice_get_within}
use Rattle.std.proofs.lemmas.List.{get_or-set_other, set_comm}
use Rattle.ga_place.specs.declared.side.Side.{Side}
use Rattle.ga_node.specs.Need.{need_of}
use Rattle.ga_place.specs.Cell.{index_of, cell_of}
use Rattle.ga_chip.specs.declared.outcome.Outcome.TheVariants.{Moved, Waits}
use Rattle.ga_chip.specs.Part.{Part, Asks, Nothing, Own, Feed, Post, Take, Check, asks, after}
use Rattle.ga_chip.specs.Chip.{Chip, part_of, pending, found_by, cells_after, tried, tried_by}
use Rattle.ga_chip.specs.Legal.{IsLegal}
use Rattle.ga_chip.specs.Laws.{Commuting}
use Rattle.ga_chip.proofs.Lists.{get-set_else}
use Rattle.ga_place.proofs.Cells.{one_writer, one_reader, one_place}
use Rattle.ga_chip.proofs.Parts.{Fits, asks_fits, Passes, passed_after}
use Rattle.ga_chip.proofs.Kept.{empty_at_post, has_name}
use Rattle.ga_chip.proofs.Tries.{tried_none, tried_there}

-- a node whose try, that asks so, would be Moved
record Tries (chip : Chip) (name : ℕ) (q : Asks) : Type 0 where
  part : Part
  there : part_of chip name ≡ Some part
  fits : Fits q (need_of part.state) name
  passed : Passes q (found_by q chip.cells)

abbrev pub cell_at : Asks → Option ℕ
cell_at (Nothing outcome) = None
cell_at Own = None
cell_at (Feed fed) = None
cell_at (Post side cell word) = Some cell
cell_at (Take side cell) = Some cell
cell_at (Check side cell) = Some cell

-- a post and a take of one cell can't both move
post_take : (chip : Chip) (a b x y word : ℕ) (s t : Side) → IsLegal chip
    → Tries chip a (Post s x word) → Tries chip b (Take t y) → x ≡ y → ⊥
post_take chip a b x y word s t legal p q e =
    none-some q.passed.0 (sym (empty_at_post chip a x word s p.part legal p.there p.fits.0 p.fits.1)
    ∙ ap (pending chip) e ∙ q.passed.1)

-- nor a take and a check
take_check : (chip : Chip) (a b x y : ℕ) (s t : Side) → Tries chip a (Take s x)
    → Tries chip b (Check t y) → x ≡ y → ⊥
take_check chip a b x y s t p q e =
    none-some p.passed.0 (sym q.passed ∙ ap (pending chip) (sym e) ∙ p.passed.1)

-- two nodes write no cell in common
both_write : (a b x y : ℕ) (s t : Side) → (a ≡ b → ⊥) → cell_of a s ≡ Some x → cell_of b t ≡ Some y
    → x ≡ y → ⊥
both_write a b x y s t apart e f same = apart (one_writer a b y s t (e ∙ ap Some same) f).0

apart : (chip : Chip) (a b x y : ℕ) (q r : Asks) → IsLegal chip → (a ≡ b → ⊥) → Tries chip a q
    → Tries chip b r → cell_at q ≡ Some x → cell_at r ≡ Some y → x ≡ y → ⊥
apart chip a b x y (Nothing o) r legal ne p q e f same = none-some x e
apart chip a b x y Own r legal ne p q e f same = none-some x e
apart chip a b x y (Feed fed) r legal ne p q e f same = none-some x e
apart chip a b x y (Post s c w) (Nothing o) legal ne p q e f same = none-some y f
apart chip a b x y (Post s c w) Own legal ne p q e f same = none-some y f
apart chip a b x y (Post s c w) (Feed fed) legal ne p q e f same = none-some y f
apart chip a b x y (Post s c w) (Post t d v) legal ne p q e f same =
    both_write a b c d s t ne p.fits.0 q.fits.0 (same_Some c x e ∙ same ∙ sym (same_Some d y f))
apart chip a b x y (Post s c w) (Take t d) legal ne p q e f same =
    post_take chip a b c d w s t legal p q (same_Some c x e ∙ same ∙ sym (same_Some d y f))
apart chip a b x y (Post s c w) (Check t d) legal ne p q e f same =
    both_write a b c d s t ne p.fits.0 q.fits.0 (same_Some c x e ∙ same ∙ sym (same_Some d y f))
apart chip a b x y (Take s c) (Nothing o) legal ne p q e f same = none-some y f
apart chip a b x y (Take s c) Own legal ne p q e f same = none-some y f
apart chip a b x y (Take s c) (Feed fed) legal ne p q e f same = none-some y f
apart chip a b x y (Take s c) (Post t d v) legal ne p q e f same =
    post_take chip b a d c v t s legal q p (same_Some d y f ∙ sym same ∙ sym (same_Some c x e))
apart chip a b x y (Take s c) (Take t d) legal ne p q e f same =
    ne (one_reader a b d s t (has_name chip a p.part legal p.there) (has_name chip b q.part legal
    q.there) (p.fits.1 ∙ ap Some (same_Some c x e ∙ same ∙ sym (same_Some d y f))) q.fits.1).0
apart chip a b x y (Take s c) (Check t d) legal ne p q e f same =
    take_check chip a b c d s t p q (same_Some c x e ∙ same ∙ sym (same_Some d y f))
apart chip a b x y (Check s c) (Nothing o) legal ne p q e f same = none-some y f
apart chip a b x y (Check s c) Own legal ne p q e f same = none-some y f
apart chip a b x y (Check s c) (Feed fed) legal ne p q e f same = none-some y f
apart chip a b x y (Check s c) (Post t d v) legal ne p q e f same =
    both_write a b c d s t ne p.fits.0 q.fits.0 (same_Some c x e ∙ same ∙ sym (same_Some d y f))
apart chip a b x y (Check s c) (Take t d) legal ne p q e f same =
    take_check chip b a d c t s q p (same_Some d y f ∙ sym same ∙ sym (same_Some c x e))
apart chip a b x y (Check s c) (Check t d) legal ne p q e f same =
    both_write a b c d s t ne p.fits.0 q.fits.0 (same_Some c x e ∙ same ∙ sym (same_Some d y f))

-- so neither changes what the other finds
abbrev pub Apart : Asks → Asks → Type 0
Apart q r = (x y : ℕ) → cell_at q ≡ Some x → cell_at r ≡ Some y → x ≡ y → ⊥

pub set_finds : (c : ℕ) (o : Option ℕ) (r : Asks) (cells : List (Option ℕ))
    → ((y : ℕ) → cell_at r ≡ Some y → c ≡ y → ⊥) → found_by r (set cells c o) ≡ found_by r cells
set_finds c o (Nothing p) cells ne = refl
set_finds c o Own cells ne = refl
set_finds c o (Feed fed) cells ne = refl
set_finds c o (Post t d v) cells ne = refl
set_finds c o (Take t d) cells ne = get_or-set_other cells c d o None (λ e. ne d refl (sym e))
set_finds c o (Check t d) cells ne = get_or-set_other cells c d o None (λ e. ne d refl (sym e))

pub finds : (q r : Asks) (cells : List (Option ℕ)) → Apart q r
    → found_by r (cells_after q cells) ≡ found_by r cells
finds (Nothing o) r cells ne = refl
finds Own r cells ne = refl
finds (Feed fed) r cells ne = refl
finds (Post s c w) r cells ne = set_finds c (Some w) r cells (λ y f. ne c y refl f)
finds (Take s c) r cells ne = set_finds c None r cells (λ y f. ne c y refl f)
finds (Check s c) r cells ne = refl

set_leaves : (c : ℕ) (o : Option ℕ) (r : Asks) (cells : List (Option ℕ))
    → ((y : ℕ) → cell_at r ≡ Some y → c ≡ y → ⊥)
    → cells_after r (set cells c o) ≡ set (cells_after r cells) c o
set_leaves c o (Nothing p) cells ne = refl
set_leaves c o Own cells ne = refl
set_leaves c o (Feed fed) cells ne = refl
set_leaves c o (Post t d v) cells ne = set_comm cells c d o (Some v) (ne d refl)
set_leaves c o (Take t d) cells ne = set_comm cells c d o None (ne d refl)
set_leaves c o (Check t d) cells ne = refl

leaves : (q r : Asks) (cells : List (Option ℕ)) → Apart q r
    → cells_after r (cells_after q cells) ≡ cells_after q (cells_after r cells)
leaves (Nothing o) r cells ne = refl
leaves Own r cells ne = refl
leaves (Feed fed) r cells ne = refl
leaves (Post s c w) r cells ne = set_leaves c (Some w) r cells (λ y f. ne c y refl f)
leaves (Take s c) r cells ne = set_leaves c None r cells (λ y f. ne c y refl f)
leaves (Check s c) r cells ne = refl

-- a try that is Moved is one of a node of the chip
record Goes (chip : Chip) (name : ℕ) (side : Side) : Type 0 where
  part : Part
  there : part_of chip name ≡ Some part
  moved : (after part side (found_by (asks part side) chip.cells)).0 ≡ Moved

goes : (chip : Chip) (name : ℕ) (side : Side) → (tried chip name side).0 ≡ Moved
    → Goes chip name side
goes chip name side moved = by (part_of chip name) refl
  where
    by : (o : Option Part) → part_of chip name ≡ o → Goes chip name side
    by None e =
        let no_ : Waits ≡ Moved = sym (ap (λ r. r.0) (tried_none chip name side e)) ∙ moved in cc
    by (Some part) e = record {
      part = part;
      there = e;
      moved = ap (λ r. r.0) (sym (tried_there chip name side part e)) ∙ moved;
    }

tries : (chip : Chip) (name : ℕ) (side : Side) → IsLegal chip → (g : Goes chip name side)
    → Tries chip name (asks g.part side)
tries chip name side legal g = record {
  part = g.part;
  there = g.there;
  fits = subst (λ n. Fits (asks g.part side) (need_of g.part.state) n)
      (legal.named name g.part g.there) (asks_fits g.part side);
  passed = passed_after g.part side (found_by (asks g.part side) chip.cells) g.moved;
}

-- the second try of two, at the chip that the first one leaves
second_try : (chip : Chip) (a b : ℕ) (s t : Side) → IsLegal chip → (a ≡ b → ⊥) → (g : Goes chip a s)
    → (h : Goes chip b t) → Apart (asks g.part s) (asks h.part t)
    → tried (tried chip a s).1 b t ≡ tried_by
    (tried_by chip a (asks g.part s) (after g.part s (found_by (asks g.part s) chip.cells))).1 b
    (asks h.part t) (after h.part t (found_by (asks h.part t) chip.cells))
second_try chip a b s t legal ne g h ap' =
    let one : tried chip a s ≡ tried_by chip a (asks g.part s)
    (after g.part s (found_by (asks g.part s) chip.cells)) = tried_there chip a s g.part g.there in
    let there : part_of (tried_by chip a (asks g.part s)
    (after g.part s (found_by (asks g.part s) chip.cells))).1 b ≡ Some h.part =
    get-set_else chip.parts (index_of a) (index_of b) _ (λ e. ne (one_place a b (subst
    (λ n. index_of a < n) legal.parts (slice_get_within chip.parts (index_of a) g.part g.there)) e))
    ∙ h.there in
    ap (λ r. tried r.1 b t) one
    ∙ tried_there (tried_by chip a (asks g.part s)
    (after g.part s (found_by (asks g.part s) chip.cells))).1 b t h.part there
    ∙ ap (λ o. tried_by (tried_by chip a (asks g.part s)
    (after g.part s (found_by (asks g.part s) chip.cells))).1 b (asks h.part t) (after h.part t o))
    (finds (asks g.part s) (asks h.part t) chip.cells ap')

pub commuting : Commuting
commuting chip a b s t legal ne moved moved' =
    let g = goes chip a s moved in
    let h = goes chip b t moved' in
    let ab : Apart (asks g.part s) (asks h.part t) = λ x y e f same. apart chip a b x y (asks g.part
    s) (asks h.part t) legal ne (tries chip a s legal g) (tries chip b t legal h) e f same in
    let ba : Apart (asks h.part t) (asks g.part s) = λ x y e f same. ab y x f e (sym same) in
    let one = second_try chip a b s t legal ne g h ab in
    let two = second_try chip b a t s legal (λ e. ne (sym e)) h g ba in
    let places : index_of a ≡ index_of b → ⊥ = λ e. ne (one_place a b (subst (λ n. index_of a < n)
    legal.parts (slice_get_within chip.parts (index_of a) g.part g.there)) e) in
    let pa = (after g.part s (found_by (asks g.part s) chip.cells)).1 in
    let pb = (after h.part t (found_by (asks h.part t) chip.cells)).1 in (
      ap (λ r. r.0) one ∙ h.moved,
      ap (λ r. r.0) two ∙ g.moved,
      ap (λ r. r.1) one
          ∙ ap₂ (λ ps cs. record { parts = ps; cells = cs }) (set_comm chip.parts (index_of a)
          (index_of b) pa pb places) (leaves (asks g.part s) (asks h.part t) chip.cells ab)
          ∙ sym (ap (λ r. r.1) two),
    )
