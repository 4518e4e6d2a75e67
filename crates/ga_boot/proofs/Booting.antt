-- Every run from a chip with a plan keeps to it.
use Rattle.std.proofs.Common.{◌≡◌, ℕ, ◌+◌, ◌≤◌, ◌<◌, List, [], ◌∷◌, ◌++◌, inl, inr, length, flat_map, Some, refl, sym, ap, ap₂, ◌∙◌, subst, append-nil, append_assoc, length-append, arith}
use Rattle.std.proofs.lemmas.Option.{same_Some}
use Rattle.std.proofs.lemmas.List.Concat.{flat_map-append}
use Rattle.ga_place.specs.Side.{one_side, side_bit, sides_with}
use Rattle.ga_place.specs.declared.side.Side.{Side}
use Rattle.ga_place.specs.declared.side.Side.TheVariants.{Right, Down, Left, Up}
use Rattle.ga_place.specs.declared.side.Sides.{Sides}
use Rattle.ga_node.specs.State.{State}
use Rattle.ga_node.specs.Need.{wants}
use Rattle.ga_node.specs.Slot.{moved}
use Rattle.ga_node.specs.declared.need.Need.{Need}
use Rattle.ga_node.specs.declared.need.Need.TheVariants as need
use Rattle.ga_chip.specs.Part.{looked_at}
use Rattle.ga_chip.specs.Laws.{AgreesWith}
use Rattle.ga_chip.proofs.Lists.{agree_right, agree_after, agree_first}
use Rattle.ga_boot.specs.inner.Local.{Local, Own, Feed, Take, Post, Check, given, lived, Suits, Goes, Answers, taken_at, posted_at, taken, posted}

-- Lists of moves.

-- the last word of a front that is reached
pub reached : (f : Local → List ℕ) (done front later : List Local) (x : Local)
    → AgreesWith done ((front ++ x ∷ []) ++ later)
    → length (flat_map f (front ++ x ∷ [])) ≤ length (flat_map f done) → 1 ≤ length (f x)
    → (rest : List Local) × (done ≡ (front ++ x ∷ []) ++ rest)
reached f done front later x agrees many one =
    by (agree_right done front
    (x ∷ later) (subst (AgreesWith done) (append_assoc front (x ∷ []) later) agrees))
  where
    whole : length (flat_map f (front ++ x ∷ [])) ≡ length (flat_map f front) + length (f x)
    whole =
        ap (λ l. length l)
        (flat_map-append f front (x ∷ []) ∙ ap (λ l. flat_map f front ++ l) (append-nil (f x)))
        ∙ length-append (flat_map f front) (f x)

    behind : (rest : List Local) → done ≡ front ++ rest
        → (rest' : List Local) × (done ≡ (front ++ x ∷ []) ++ rest')
    behind [] e =
        let same : length (flat_map f done) ≡ length (flat_map f front) =
        ap (λ l. length (flat_map f l)) (e ∙ append-nil front) in
        absurd (omega (arith, whole))
    behind (z ∷ rest) e =
        let agrees' : AgreesWith (front ++ z ∷ rest) (front ++ x ∷ later) =
        subst (λ l. AgreesWith l (front ++ x ∷ later)) e
        (subst (AgreesWith done) (append_assoc front (x ∷ []) later) agrees) in
        let is : z ≡ x =
        agree_first z x rest later (agree_after front (z ∷ rest) (x ∷ later) agrees') in
        (rest, e ∙ ap (λ y. front ++ y ∷ rest) is ∙ sym (append_assoc front (x ∷ []) rest))

    by : AgreesWith done front → (rest : List Local) × (done ≡ (front ++ x ∷ []) ++ rest)
    by (inl (rest, e)) =
        let fewer : length (flat_map f front) ≡ length (flat_map f done)
        + length (flat_map f rest) = ap (λ l. length (flat_map f l)) e ∙ ap (λ l. length l)
        (flat_map-append f done rest) ∙ length-append (flat_map f done) (flat_map f rest) in
        absurd (omega (arith, whole))
    by (inr (rest, e)) = behind rest e

-- more words than a front has are behind it
pub past_front : (f : Local → List ℕ) (done front later : List Local)
    → AgreesWith done (front ++ later) → length (flat_map f front) < length (flat_map f done)
    → (rest : List Local) × (done ≡ front ++ rest)
past_front f done front later agrees more = by (agree_right done front later agrees)
  where
    by : AgreesWith done front → (rest : List Local) × (done ≡ front ++ rest)
    by (inl (rest, e)) =
        let fewer : length (flat_map f front) ≡ length (flat_map f done)
        + length (flat_map f rest) = ap (λ l. length (flat_map f l)) e ∙ ap (λ l. length l)
        (flat_map-append f done rest) ∙ length-append (flat_map f done) (flat_map f rest) in
        absurd (omega arith)
    by (inr (rest, e)) = (rest, e)

-- a word of its own is taken at a side
pub own_take : (side : Side) (word : ℕ) → taken_at side (Take side word) ≡ word ∷ []
own_take Right word = refl
own_take Down word = refl
own_take Left word = refl
own_take Up word = refl

-- a node that takes a word before it posts anything has taken one if it has posted one
pub takes_first : (done front more : List Local) (side to : Side) (word : ℕ)
    → AgreesWith done (front ++ Take side word ∷ more) → posted to front ≡ []
    → 1 ≤ length (posted to done) → 1 ≤ length (taken side done)
takes_first done front more side to word agrees none one =
    by (agree_right done (front ++ Take side word ∷ []) more
    (subst (AgreesWith done) (sym (append_assoc front (Take side word ∷ []) more)) agrees))
  where
    by : AgreesWith done (front ++ Take side word ∷ []) → 1 ≤ length (taken side done)
    by (inl (rest, e)) =
        let all : posted to done ++ posted to rest ≡ [] =
        sym (flat_map-append (posted_at to) done rest) ∙ ap (posted to) (sym e)
        ∙ flat_map-append (posted_at to) front (Take side word ∷ []) ∙ append-nil _ ∙ none in
        let long : length (posted to done) + length (posted to rest) ≡ 0 =
        sym (length-append (posted to done) (posted to rest)) ∙ ap (λ l. length l) all in
        absurd (omega arith)
    by (inr (rest, e)) =
        let all : taken side done ≡ (taken side front ++ word ∷ []) ++ taken side rest =
        ap (taken side) e ∙ flat_map-append (taken_at side) (front ++ Take side word ∷ []) rest
        ∙ ap (λ l. l ++ taken side rest)
        (flat_map-append (taken_at side) front (Take side word ∷ [])
        ∙ ap (λ l. taken side front ++ l) (append-nil _ ∙ own_take side word)) in
        let long : length (taken side done) ≡ (length (taken side front) + 1)
        + length (taken side rest) =
        ap (λ l. length l) all ∙ length-append (taken side front ++ word ∷ []) (taken side rest)
        ∙ ap (λ n. n + length (taken side rest)) (length-append (taken side front) (word ∷ [])) in
        omega arith

-- Two moves that answer one need are the same, apart from the word that is fed or taken.
pub data Alike : Local → Local → Type 0 where
  same : (x : Local) → Alike x x
  feeds : (w v : ℕ) → Alike (Feed w) (Feed v)
  takes : (side : Side) (w v : ℕ) → Alike (Take side w) (Take side v)

one_alone : (side : Side) → one_side (sides_with (side_bit side)) ≡ Some side
one_alone Right = refl
one_alone Down = refl
one_alone Left = refl
one_alone Up = refl

take_alone : (sides : Sides) (s t : Side) → need.Take sides ≡ need.Take (sides_with (side_bit t))
    → looked_at (one_side sides) sides s ≡ Some s → s ≡ t
take_alone sides s t e looks =
    let is : sides ≡ sides_with (side_bit t) = cc in
    sym (same_Some t s (ap (λ o. looked_at o (sides_with (side_bit t)) s) (sym (one_alone t))
    ∙ ap (λ z. looked_at (one_side z) z s) (sym is) ∙ looks))

pub alike : (x y : Local) (n : Need) → Answers x n → Suits y n → Alike x y
alike Own Own n p q = same Own
alike Own (Feed v) n p q = let e : need.Own ≡ need.Input = sym p ∙ q in absurd (cc)
alike Own (Take t v) n p q =
    let e : need.Own ≡ need.Take (sides_with (side_bit t)) = sym p ∙ q in absurd (cc)
alike Own (Post t v) n p q = let e : need.Own ≡ need.Post t v = sym p ∙ q in absurd (cc)
alike Own (Check t) n p q = let e : need.Own ≡ need.Check t = sym p ∙ q in absurd (cc)
alike (Feed w) Own n p q = let e : need.Input ≡ need.Own = sym p ∙ q in absurd (cc)
alike (Feed w) (Feed v) n p q = feeds w v
alike (Feed w) (Take t v) n p q =
    let e : need.Input ≡ need.Take (sides_with (side_bit t)) = sym p ∙ q in absurd (cc)
alike (Feed w) (Post t v) n p q = let e : need.Input ≡ need.Post t v = sym p ∙ q in absurd (cc)
alike (Feed w) (Check t) n p q = let e : need.Input ≡ need.Check t = sym p ∙ q in absurd (cc)
alike (Take s w) Own n p q = let e : need.Take p.0 ≡ need.Own = sym p.1 ∙ q in absurd (cc)
alike (Take s w) (Feed v) n p q = let e : need.Take p.0 ≡ need.Input = sym p.1 ∙ q in absurd (cc)
alike (Take s w) (Take t v) n p q =
    subst (λ z. Alike (Take s w) (Take z v)) (take_alone p.0 s t (sym p.1 ∙ q) p.2) (takes s w v)
alike (Take s w) (Post t v) n p q =
    let e : need.Take p.0 ≡ need.Post t v = sym p.1 ∙ q in absurd (cc)
alike (Take s w) (Check t) n p q = let e : need.Take p.0 ≡ need.Check t = sym p.1 ∙ q in absurd (cc)
alike (Post s w) Own n p q = let e : need.Post s w ≡ need.Own = sym p ∙ q in absurd (cc)
alike (Post s w) (Feed v) n p q = let e : need.Post s w ≡ need.Input = sym p ∙ q in absurd (cc)
alike (Post s w) (Take t v) n p q =
    let e : need.Post s w ≡ need.Take (sides_with (side_bit t)) = sym p ∙ q in absurd (cc)
alike (Post s w) (Post t v) n p q =
    let e : need.Post s w ≡ need.Post t v = sym p ∙ q in let side : s ≡ t = cc in
    let word : w ≡ v = cc in subst (λ z. Alike (Post s w) z) (ap₂ Post side word) (same (Post s w))
alike (Post s w) (Check t) n p q = let e : need.Post s w ≡ need.Check t = sym p ∙ q in absurd (cc)
alike (Check s) Own n p q = let e : need.Check s ≡ need.Own = sym p ∙ q in absurd (cc)
alike (Check s) (Feed v) n p q = let e : need.Check s ≡ need.Input = sym p ∙ q in absurd (cc)
alike (Check s) (Take t v) n p q =
    let e : need.Check s ≡ need.Take (sides_with (side_bit t)) = sym p ∙ q in absurd (cc)
alike (Check s) (Post t v) n p q = let e : need.Check s ≡ need.Post t v = sym p ∙ q in absurd (cc)
alike (Check s) (Check t) n p q =
    let e : need.Check s ≡ need.Check t = sym p ∙ q in let side : s ≡ t = cc in
    subst (λ z. Alike (Check s) z) (ap Check side) (same (Check s))

-- a move of a node that waits for a word from any side takes one
pub must_take : (x : Local) (sides : Sides) (n : Need) → n ≡ need.Take sides → Answers x n
    → (side : Side) × (word : ℕ) × (x ≡ Take side word)
must_take Own sides n e p = let f : need.Own ≡ need.Take sides = sym p ∙ e in absurd (cc)
must_take (Feed w) sides n e p = let f : need.Input ≡ need.Take sides = sym p ∙ e in absurd (cc)
must_take (Take side word) sides n e p = (side, word, refl)
must_take (Post s w) sides n e p =
    let f : need.Post s w ≡ need.Take sides = sym p ∙ e in absurd (cc)
must_take (Check s) sides n e p = let f : need.Check s ≡ need.Take sides = sym p ∙ e in absurd (cc)

-- what goes, goes from each of its moments
pub goes_from : (state : State) (ms : List Local) (m : Local) (more : List Local)
    → Goes state (ms ++ m ∷ more) → Suits m (wants (lived state ms))
goes_from state [] m more g = g.0
goes_from state (x ∷ ms) m more g = goes_from (moved state (given x)) ms m more g.1
