-- Two runs that boot one tree agree on their common steps if, besides what boots it, each node's
-- multiport reads take from one side only.
use Rattle.std.proofs.Common.{◌≡◌, ◌∙◌, ◌⊎◌, inl, inr, ◌<◌, ℕ, Bool, true, false, List, [], ◌∷◌, ◌++◌, Option, Some, None, drop, is_some, refl, sym, ap, subst, arith}
use Rattle.std.specs.Prelude.{All, if◌then◌else◌}
use Rattle.std.specs.List.{AllByRecursion}
use Rattle.std.specs.Option.{option_map_or}
use Rattle.std.proofs.lemmas.Bool.{cases_eq}
use Rattle.std.proofs.lemmas.Grind.{common_steps}
use Rattle.std.proofs.lemmas.List.Elements.{recursion_from_All}
use Rattle.ga_place.specs.Cell.{index_of}
use Rattle.ga_place.specs.Node.{IsNodeName}
use Rattle.ga_place.specs.declared.side.Side.{Side}
use Rattle.ga_place.proofs.Cells.{one_place}
use Rattle.ga_chip.specs.Chip.{Chip, part_of, reset_chip, stream_opened, streamed}
use Rattle.ga_chip.specs.Laws.{AgreesWith, IsPrefix}
use Rattle.ga_chip.specs.Legal.{DifferInBreaks}
use Rattle.ga_chip.specs.Part.{Part}
use Rattle.ga_chip.specs.Run.{Event, pieces, sides_of, words_fed}
use Rattle.ga_chip.proofs.Confluence.{confluence}
use Rattle.ga_chip.proofs.Differing.{differ_back}
use Rattle.ga_chip.proofs.Lists.{agree_cut, agree_front, get-set_else}
use Rattle.ga_chip.proofs.Reset.{is_reset}
use Rattle.ga_boot.specs.Boot.{IsSupplied, stream_words}
use Rattle.ga_boot.specs.Laws.{Boots, TreeBootsAgree}
use Rattle.ga_boot.specs.Tree.{Place, found, places}
use Rattle.ga_boot.proofs.Boot.{tree_boots}
use Rattle.ga_boot.proofs.Given.{from_opened, from_streamed, root_chip, root_part}
use Rattle.ga_boot.proofs.Places.{found_there}
use Rattle.ga_boot.proofs.Supplied.{fed_alike, fed_closed, none_fed, supplied}

-- lists of one side agree
one_side_by : (side : Side) (xs ys : List Side) → AllByRecursion (λ s. s ≡ side) xs
    → AllByRecursion (λ s. s ≡ side) ys → AgreesWith xs ys
one_side_by side [] ys all other = inl (ys, refl)
one_side_by side (x ∷ xs) [] all other = inr (x ∷ xs, refl)
one_side_by side (x ∷ xs) (y ∷ ys) all other =
    subst (λ s. AgreesWith (x ∷ xs) (s ∷ ys)) (all.0 ∙ sym other.0)
    (agree_front (x ∷ []) xs ys (one_side_by side xs ys all.1 other.1))

one_side_agrees : (side : Side) (xs ys : List Side) → All (λ s. s ≡ side) xs
    → All (λ s. s ≡ side) ys → AgreesWith xs ys
one_side_agrees side xs ys all other =
    one_side_by side xs ys (recursion_from_All (λ s. s ≡ side) xs all)
    (recursion_from_All (λ s. s ≡ side) ys other)

-- so do those that begin alike
abbrev BeginsBy : Side → List Side → Type 0
BeginsBy first xs = (xs ≡ []) ⊎ ((rest : List Side) × (xs ≡ first ∷ rest))

first_agrees : (first side : Side) (xs ys : List Side) → BeginsBy first xs → BeginsBy first ys
    → All (λ s. s ≡ side) (drop 1 xs) → All (λ s. s ≡ side) (drop 1 ys) → AgreesWith xs ys
first_agrees first side xs ys (inl e) other all all' = inl (ys, ap (λ l. l ++ ys) (sym e))
first_agrees first side xs ys (inr (rest, e)) (inl f) all all' = inr (xs, ap (λ l. l ++ xs) (sym f))
first_agrees first side xs ys (inr (rest, e)) (inr (more, f)) all all' =
    subst (λ l. AgreesWith l ys) (sym e)
    (subst (AgreesWith (first ∷ rest)) (sym f) (agree_front (first ∷ []) rest more
    (one_side_agrees side rest more (subst (λ l. All (λ s. s ≡ side) (drop 1 l)) e all)
    (subst (λ l. All (λ s. s ≡ side) (drop 1 l)) f all'))))

-- a node that isn't the root is fed nothing
closed_else : (root name : ℕ) (stream : Option (List ℕ)) (opened : Bool) (events : List Event)
    → IsNodeName root → (name ≡ root → ⊥)
    → words_fed (root_chip root stream opened) events name ≡ []
closed_else root name stream opened events named apart =
    ap (λ o. pieces (option_map_or (λ p. p.opened) o false) name events) there
    ∙ by (part_of reset_chip name) refl
  where
    low : index_of root < 144
    low = grind (arith, common_steps)

    there : part_of (root_chip root stream opened) name ≡ part_of reset_chip name
    there =
        get-set_else reset_chip.parts (index_of root) (index_of name) (root_part root stream opened)
        (λ e. apart (sym (one_place root name low e)))

    by : (o : Option Part) → part_of reset_chip name ≡ o
        → pieces (option_map_or (λ p. p.opened) o false) name events ≡ []
    by None e = none_fed name events
    by (Some part) e =
        ap (λ p. pieces p.opened name events) (is_reset name part e) ∙ none_fed name events

fronts_agree : (xs ys words : List ℕ) → IsPrefix xs words → IsPrefix ys words → AgreesWith xs ys
fronts_agree xs ys words (rest, e) (more, f) = agree_cut xs ys rest more (sym e ∙ f)

-- if the root was given its stream, no node is fed anything
given_none : (chip : Chip) (root : ℕ) (words : List ℕ) (events : List Event) (name : ℕ)
    → IsNodeName root → DifferInBreaks chip (streamed reset_chip root words)
    → words_fed chip events name ≡ []
given_none chip root words events name named e =
    fed_alike base chip (differ_back chip base
    (subst (DifferInBreaks chip) (from_streamed root (Some words) false named words) e)) events name
    ∙ by (cases_eq name root)
  where
    base : Chip
    base = root_chip root (Some words) false

    by : (name ≡ root) ⊎ (name ≡ root → ⊥) → words_fed base events name ≡ []
    by (inl same) = ap (words_fed base events) same ∙ fed_closed root words events named
    by (inr apart) = closed_else root name (Some words) false events named apart

-- if it was opened, no other node is
opened_none : (chip : Chip) (root : ℕ) (events : List Event) (name : ℕ) → IsNodeName root
    → DifferInBreaks chip (stream_opened reset_chip root) → (name ≡ root → ⊥)
    → words_fed chip events name ≡ []
opened_none chip root events name named e apart =
    let base = root_chip root (Some []) true in
    fed_alike base chip (differ_back chip base
    (subst (DifferInBreaks chip) (from_opened root (Some []) true named) e)) events name
    ∙ closed_else root name (Some []) true events named apart

prefix_none : (xs ys : List ℕ) → xs ≡ [] → AgreesWith xs ys
prefix_none xs ys e = inl (ys, ap (λ l. l ++ ys) (sym e))

none_prefix : (xs ys : List ℕ) → ys ≡ [] → AgreesWith xs ys
none_prefix xs ys e = inr (xs, ap (λ l. l ++ xs) (sym e))

-- the words that the nodes are fed in two runs
fed_agrees : (one two : Chip) (root : ℕ) (words : List ℕ) (events others : List Event)
    → IsNodeName root → IsSupplied one root words events → IsSupplied two root words others
    → (name : ℕ) → AgreesWith (words_fed one events name) (words_fed two others name)
fed_agrees one two root words events others named (inl (given, e, front)) other name =
    prefix_none _ _ (given_none one root given events name named e)
fed_agrees one two root words events others named (inr first) (inl (given, e, front)) name =
    none_prefix _ _ (given_none two root given others name named e)
fed_agrees one two root words events others named (inr (e, front)) (inr (f, other)) name =
    by (cases_eq name root)
  where
    by : (name ≡ root) ⊎ (name ≡ root → ⊥)
        → AgreesWith (words_fed one events name) (words_fed two others name)
    by (inl same) =
        subst (λ n. AgreesWith (words_fed one events n) (words_fed two others n)) (sym same)
        (fronts_agree (words_fed one events root) (words_fed two others root) words front other)
    by (inr apart) = prefix_none _ _ (opened_none one root events name named e apart)

pub tree_boots_agree : TreeBootsAgree
tree_boots_agree first second root image trees events others side_of tree differ supply other later
    later' =
    let here = supplied first root (stream_words root image trees) events tree.named supply in
    let there = supplied second root (stream_words root image trees) others tree.named other in
    confluence first second events others here.0.legal there.0.legal differ sides (fed_agrees first
    second root (stream_words root image trees) events others tree.named supply other)
  where
    one : Boots first root image trees events
    one = tree_boots first root image trees events tree supply

    two : Boots second root image trees others
    two = tree_boots second root image trees others tree other

    sides : (name : ℕ) → AgreesWith (sides_of first events name) (sides_of second others name)
    sides name = by (found name (places root trees)) refl (later name) (later' name)
      where
        by : (o : Option Place) → found name (places root trees) ≡ o
            → All (λ side. side ≡ side_of name) (if is_some (found name (places root trees))
            then drop 1 (sides_of first events name) else sides_of first events name)
            → All (λ side. side ≡ side_of name) (if is_some (found name (places root trees))
            then drop 1 (sides_of second others name) else sides_of second others name)
            → AgreesWith (sides_of first events name) (sides_of second others name)
        by None e all all' =
            one_side_agrees (side_of name) (sides_of first events name)
            (sides_of second others name)
            (subst (λ o. All (λ side. side ≡ side_of name) (if is_some o
            then drop 1 (sides_of first events name) else sides_of first events name)) e all)
            (subst (λ o. All (λ side. side ≡ side_of name) (if is_some o
            then drop 1 (sides_of second others name) else sides_of second others name)) e all')
        by (Some p) e all all' =
            let there = found_there (places root trees) name p e in
            first_agrees p.side (side_of name) (sides_of first events name)
            (sides_of second others name)
            (subst (λ n. BeginsBy p.side (sides_of first events n)) there.1
            (one.first_side p there.0)) (subst (λ n. BeginsBy p.side (sides_of second others n))
            there.1 (two.first_side p there.0))
            (subst (λ o. All (λ side. side ≡ side_of name) (if is_some o
            then drop 1 (sides_of first events name) else sides_of first events name)) e all)
            (subst (λ o. All (λ side. side ≡ side_of name) (if is_some o
            then drop 1 (sides_of second others name) else sides_of second others name)) e all')
