-- BOOT IN EVERY SCHEDULE, of trees.
use Rattle.std.proofs.Common.{◌≡◌, ◌∙◌, ◌⊎◌, inl, inr, ℕ, ◌+◌, ◌≤◌, List, [], ◌∷◌, ◌++◌, length, flat_map, map, append-nil, append_assoc, le_refl, Option, Some, None, refl, sym, ap, ap₂, subst, length-append, arith}
use Rattle.std.specs.Option.{option_map_or}
use Rattle.std.proofs.lemmas.List.{length-map, map-append}
use Rattle.std.proofs.lemmas.List.Concat.{flat_map-append}
use Rattle.std.proofs.lemmas.Option.{same_Some}
use Rattle.ga_asm.specs.Image.{ImageView}
use Rattle.ga_path.specs.Sequences.{Grove, image_words, jump_to, part_words, pumps, sent, start_address}
use Rattle.ga_path.specs.declared.parts.Part.TheVariants.{Load, Start}
use Rattle.ga_place.specs.Cell.{read_cell}
use Rattle.ga_place.specs.declared.side.Side.{Side}
use Rattle.ga_place.proofs.Cells.{reader_there}
use Rattle.ga_chip.specs.Chip.{Chip, part_of}
use Rattle.ga_chip.specs.Laws.{AgreesWith, IsPrefix}
use Rattle.ga_chip.specs.Part.{Part}
use Rattle.ga_chip.specs.Run.{Event, Move, input_words, move_in, moves, moves_of, ran, sides_of, taken_words, words_left}
use Rattle.ga_chip.proofs.Kept.{legal_ran}
use Rattle.ga_chip.proofs.Lists.{agree_after, agree_first, agree_flat_map, agree_left}
use Rattle.ga_chip.proofs.Moments.{one_at_most}
use Rattle.ga_chip.proofs.Numbers.{part_there}
use Rattle.ga_chip.proofs.Runs.{moves-append, moves_of-append, ran-append, stand_ran, takes_ran}
use Rattle.ga_chip.proofs.Streams.{streams_go}
use Rattle.ga_boot.specs.Boot.{Begun, CameToBe, LoadTaken, RootBegun, node_words, stream_words, words_from}
use Rattle.ga_boot.specs.Laws.{Boots, TreeBoots}
use Rattle.ga_boot.specs.inner.Local.{Feed, Local, Own, Take, fed, fed_by, history, local_of, taken, taken_at}
use Rattle.ga_boot.specs.inner.Plan as planned
use Rattle.ga_boot.specs.inner.Plan.{IsPlan, Plan, script}
use Rattle.ga_boot.specs.inner.Script.{load_script, root_script, start_script, subtree_frames, subtree_moves}
use Rattle.ga_boot.specs.Tree.{Elem, IsTree, Place, places}
use Rattle.ga_boot.specs.inner.TreePlan.{IsGiven, plan_of}
use Rattle.ga_boot.proofs.Booting.{own_take, reached}
use Rattle.ga_boot.proofs.Flow.{takes_history}
use Rattle.ga_boot.proofs.History.{fed_history}
use Rattle.ga_boot.proofs.Keeps.{booting}
use Rattle.ga_boot.proofs.Places.{at_same, words_of}
use Rattle.ga_boot.proofs.Sides.{NamesSides, names_none, names_sides}
use Rattle.ga_boot.proofs.Store.{holding}
use Rattle.ga_boot.proofs.Supplied.{IsFedOf, supplied}
use Rattle.ga_boot.proofs.TreePlan.{has_parent, is_plan, loads_it, named_place, prepares, prepares_root, script_is, script_root}
use Rattle.ga_boot.proofs.Unbegun.{begins, holds_inside, holds_root}
use Rattle.ga_boot.proofs.Wires.{wire}
use Rattle.ga_boot.proofs.Words.{fed_root, taken_loading, taken_starting}

-- a front is no longer than the whole
longer : (xs ys zs : List ℕ) → zs ≡ xs ++ ys → length xs ≤ length zs
longer xs ys zs e = omega (arith, ap (λ l. length l) e ∙ length-append xs ys)

-- what has just been reached is reached exactly
just : (f : Local → List ℕ) (whole front : List Local) (last : Local) (rest done : List Local)
    → done ≡ front ++ last ∷ [] → done ≡ whole ++ rest
    → (length (flat_map f whole) ≤ length (flat_map f front) → ⊥) → done ≡ whole
just f whole front last [] done e g not_before = g ∙ append-nil whole
just f whole front last (z ∷ rest) done e g not_before =
    let cut = last_off whole rest z in
    let same : front ++ last ∷ [] ≡ (whole ++ cut.0) ++ cut.1 ∷ [] = sym e ∙ g ∙ cut.2 in
    let is : front ≡ whole ++ cut.0 = fronts front (whole ++ cut.0) last cut.1 same in
    absurd (not_before (longer (flat_map f whole) (flat_map f cut.0) (flat_map f front)
    (ap (flat_map f) is ∙ flat_map-append f whole cut.0)))
  where
    last_off : (whole rest : List Local) (z : Local)
        → (r : List Local) × (x : Local) × (whole ++ z ∷ rest ≡ (whole ++ r) ++ x ∷ [])
    last_off whole [] z = ([], z, ap (λ l. l ++ z ∷ []) (sym (append-nil whole)))
    last_off whole (y ∷ rest) z =
        let more = last_off (whole ++ z ∷ []) rest y in (
          z ∷ more.0,
          more.1,
          sym (append_assoc whole (z ∷ []) (y ∷ rest)) ∙ more.2
              ∙ ap (λ l. l ++ more.1 ∷ []) (append_assoc whole (z ∷ []) more.0),
        )

    fronts : (xs ys : List Local) (x y : Local) → xs ++ x ∷ [] ≡ ys ++ y ∷ [] → xs ≡ ys
    fronts [] [] x y e = refl
    fronts [] (w ∷ ys) x y e = absurd (none ys y (cc))
      where
        none : (ys : List Local) (y : Local) → [] ≡ ys ++ y ∷ [] → ⊥
        none [] y e = cc
        none (w ∷ ys) y e = cc
    fronts (v ∷ xs) [] x y e = absurd (none xs x (cc))
      where
        none : (ys : List Local) (y : Local) → ys ++ y ∷ [] ≡ [] → ⊥
        none [] y e = cc
        none (w ∷ ys) y e = cc
    fronts (v ∷ xs) (w ∷ ys) x y e =
        let heads : v ≡ w = cc in ap₂ (λ a b. a ∷ b) heads (fronts xs ys x y (cc))

-- what a node did in a run of two parts
history_both : (chip : Chip) (events more : List Event) (name : ℕ) → history chip
    (events ++ more) name ≡ history chip events name ++ history (ran chip events) more name
history_both chip events more name =
    ap (λ ms. map local_of (moves_of name ms)) (moves-append chip events more)
    ∙ ap (map local_of) (moves_of-append name (moves chip events) (moves (ran chip events) more))
    ∙ map-append local_of (moves_of name (moves chip events))
    (moves_of name (moves (ran chip events) more))

-- no move, or one
no_move : (ms : List Local) → length ms ≡ 0 → ms ≡ []
no_move [] e = refl
no_move (m ∷ ms) e = absurd (omega arith)

one_move : (ms : List Local) → length ms ≡ 1 → (m : Local) × (ms ≡ m ∷ [])
one_move [] e = absurd (omega arith)
one_move (m ∷ ms) e = (m, ap (λ l. m ∷ l) (no_move ms (omega (arith, e))))

none_before : (xs ys : List ℕ) → xs ++ ys ≡ [] → xs ≡ []
none_before [] ys e = refl
none_before (x ∷ xs) ys e = absurd cc

same_rest : (n k l : ℕ) → n + k ≡ n + l → l ≡ k
same_rest n k l e = omega (arith, e)

module _ (chip : Chip) (root : ℕ) (image : Option ImageView) (trees : Grove)
    (tree : IsTree root image trees) (g : IsGiven root chip) where
  abbrev plan : Plan
  plan = plan_of root image trees

  abbrev all : List Place
  all = places root trees

  plan_is : IsPlan plan chip
  plan_is = is_plan root image trees tree chip g

  root_part : (part : Part) × (part_of chip root ≡ Some part)
  root_part = part_there chip root g.legal tree.named

  place_part : (p : Place) → Elem p all → (part : Part) × (part_of chip p.name ≡ Some part)
  place_part p e = part_there chip p.name g.legal (named_place root image trees tree chip g p e).0

  root_prepared : planned.Prepares plan root root_part.0 (holding (image_words image))
      (start_address root image)
  root_prepared = prepares_root root image trees tree chip g root_part.0 root_part.1

  script_fed : fed (script plan root) ≡ stream_words root image trees
  script_fed =
      ap fed (script_root root image trees tree chip g) ∙ flat_map-append fed_by
      (root_script Load root image trees) (root_script Start root image trees)
      ∙ ap₂ (λ a b. a ++ b) (fed_root Load root image trees) (fed_root Start root image trees)

  script_taken : (p : Place) → Elem p all → taken p.side (script plan p.name) ≡ node_words p
  script_taken p e =
      ap (taken p.side) (script_is root image trees tree chip g p e)
      ∙ flat_map-append (taken_at p.side) (load_script p.side p.image p.inner)
      (start_script p.name p.side p.image p.inner)
      ∙ ap₂ (λ a b. a ++ b) (taken_loading p.name p.side p.side p.image p.inner
      ∙ at_same p.side (words_of Load p))
      (taken_starting p.name p.side p.side p.image p.inner ∙ at_same p.side (words_of Start p))

  -- the words that a node took from its parent
  from_parent : (p : Place) → Elem p all → (events : List Event)
      → words_from chip events p.name p.side ≡ taken p.side (history chip events p.name)
  from_parent p e events =
      let named = named_place root image trees tree chip g p e in
      let there = tree.there p e in
      let cell = wire p.parent p.name p.side named.1 there in
      let reads : read_cell p.name p.side ≡ Some cell.0 =
      reader_there p.parent p.name cell.0 p.side named.1 cell.1 there in
      ap (λ o. option_map_or (λ c. taken_words chip events c) o []) reads
      ∙ takes_ran chip events p.name cell.0 p.side g.legal named.0 reads
      ∙ takes_history chip events p.name cell.0 p.side g.legal named.0 reads

  -- A node's moves up to the event that made something true, and behind it.
  module _ (events : List Event) (now : Part) (name steps : ℕ) (IsSo : List Event → Type 0)
      (c : CameToBe chip name IsSo events now steps) where
    abbrev then : List Event
    then = c.before ++ c.event ∷ []

    moves_behind : part_of (ran chip events) name ≡ Some now → (rest : List Local)
        × (history chip events name ≡ history chip then name ++ rest) × (length rest ≡ steps)
    moves_behind there =
        let s =
        stand_ran (ran chip then) c.behind name c.old (legal_ran chip then g.legal) c.there in
        let same : now ≡ s.now =
        same_Some now s.now (sym there ∙ ap (λ l. part_of (ran chip l) name) c.run
        ∙ ap (λ x. part_of x name) (ran-append chip then c.behind) ∙ s.there) in
        let made =
        same_rest c.old.state.steps steps (length (moves_of name (moves (ran chip then) c.behind)))
        (sym c.made ∙ ap (λ p. p.state.steps) same ∙ s.steps) in (
          history (ran chip then) c.behind name,
          ap (λ l. history chip l name) c.run ∙ history_both chip then c.behind name,
          length-map (moves_of name (moves (ran chip then) c.behind)) local_of ∙ made,
        )

    moves_at : (history chip then name ≡ history chip c.before name)
        ⊎ ((last : Local) × (history chip then name ≡ history chip c.before name ++ last ∷ []))
    moves_at = by (one_at_most (ran chip c.before) c.event name)
      where
        more : history chip then name ≡ history chip c.before name
            ++ map local_of (moves_of name (move_in (ran chip c.before) c.event))
        more =
            history_both chip c.before (c.event ∷ []) name
            ∙ ap (λ ms. history chip c.before name ++ map local_of (moves_of name ms))
            (append-nil (move_in (ran chip c.before) c.event))

        by : (moves_of name (move_in (ran chip c.before) c.event) ≡ [])
            ⊎ ((m : Move) × (moves_of name (move_in (ran chip c.before) c.event) ≡ m ∷ []))
            → (history chip then name ≡ history chip c.before name)
            ⊎ ((last : Local) × (history chip then name ≡ history chip c.before name ++ last ∷ []))
        by (inl e) =
            inl (more ∙ ap (λ ms. history chip c.before name ++ map local_of ms) e
            ∙ append-nil (history chip c.before name))
        by (inr (m, e)) =
            inr (local_of m, more ∙ ap (λ ms. history chip c.before name ++ map local_of ms) e)

  module _ (events : List Event)
      (fed_of : IsFedOf chip root (stream_words root image trees) events) where
    feeding : planned.IsFed plan chip events
    feeding part there = let front = fed_of part there in (front.0, script_fed ∙ front.1)

    agrees : (name : ℕ) → AgreesWith (history chip events name) (script plan name)
    agrees = (booting plan chip plan_is events feeding).agrees

    loads : LoadTaken chip root image trees events → planned.LoadTaken plan chip events
    loads h =
        subst (λ l. length l ≤ length (fed (history chip events root)))
        (sym (ap fed (loads_it root image trees tree) ∙ fed_root Load root image trees))
        (subst (λ l. length (part_words Load root image trees) ≤ length l)
        (sym (fed_history chip events root)) h)

    -- a node that has gone along its script has started
    root_along : planned.Begun plan chip events root → RootBegun chip root image trees events
    root_along b =
        subst (λ l. length (stream_words root image trees) ≤ length l)
        (fed_history chip events root)
        (longer (stream_words root image trees) (fed b.0) _ (ap fed b.1
        ∙ flat_map-append fed_by (script plan root) b.0 ∙ ap (λ l. l ++ fed b.0) script_fed))

    along : (p : Place) → Elem p all → planned.Begun plan chip events p.name → Begun chip p events
    along p e b = subst (λ l. length (node_words p) ≤ length l) (sym (from_parent p e events))
        (longer (node_words p) (taken p.side b.0) _
        (ap (taken p.side) b.1 ∙ flat_map-append (taken_at p.side) (script plan p.name) b.0
        ∙ ap (λ l. l ++ taken p.side b.0) (script_taken p e)))

    -- the root's history, when it has just taken the last word
    root_whole : (front : List Local) (last : Local) → history chip events root ≡ front ++ last ∷ []
        → (length (stream_words root image trees) ≤ length (fed front) → ⊥)
        → length (stream_words root image trees) ≤ length (fed (history chip events root))
        → history chip events root ≡ script plan root
    root_whole front last did not_before begun =
        let fore = root_script Load root image trees
        ++ (subtree_frames Start trees ++ Feed (start_address root image) ∷ Feed 0 ∷ []) in
        let ends : script plan root ≡ fore ++ Feed 0 ∷ [] = script_root root image trees tree chip g
        ∙ sym (append_assoc (root_script Load root image trees)
        (subtree_frames Start trees ++ Feed (start_address root image) ∷ Feed 0 ∷ []) (Feed 0 ∷ [])
        ∙ ap (λ l. root_script Load root image trees ++ l) (append_assoc (subtree_frames Start
        trees) (Feed (start_address root image) ∷ Feed 0 ∷ []) (Feed 0 ∷ []))) in
        let fed_ends : fed (fore ++ Feed 0 ∷ []) ≡ stream_words root image trees =
        ap fed (sym ends) ∙ script_fed in
        let at = reached fed_by (history chip events root) fore [] (Feed 0) (subst (AgreesWith
        (history chip events root)) (ends ∙ sym (append-nil (fore ++ Feed 0 ∷ []))) (agrees root))
        (subst (λ l. length l ≤ length (fed (history chip events root))) (sym fed_ends) begun)
        (le_refl 1) in
        just fed_by (script plan root) front last at.0 (history chip events root) did
        (at.1 ∙ ap (λ l. l ++ at.0) (sym ends))
        (λ h. not_before (subst (λ l. length l ≤ length (fed front)) script_fed h))

    -- a node's history, when it has just made the slot step of its start word
    node_whole : (p : Place) (front : List Local) (last step : Local) → Elem p all
        → history chip events p.name ≡ (front ++ last ∷ []) ++ step ∷ []
        → (length (node_words p) ≤ length (taken p.side front) → ⊥)
        → length (node_words p) ≤ length (taken p.side (front ++ last ∷ []))
        → history chip events p.name ≡ script plan p.name
    node_whole p front last step e did not_before begun =
        let word = jump_to (start_address p.name p.image) in
        let fore = load_script p.side p.image p.inner
        ++ (Own ∷ Own ∷ Own ∷ Own ∷ subtree_moves Start p.side p.inner) in
        let ends : script plan p.name ≡ (fore ++ Take p.side word ∷ []) ++ Own ∷ [] =
        script_is root image trees tree chip g p e
        ∙ sym (append_assoc fore (Take p.side word ∷ []) (Own ∷ [])
        ∙ append_assoc (load_script p.side p.image p.inner) (Own ∷ Own ∷ Own ∷ Own
        ∷ subtree_moves Start p.side p.inner) (Take p.side word ∷ Own ∷ [])) in
        let taken_ends : taken p.side (fore ++ Take p.side word ∷ []) ≡ node_words p =
        sym (append-nil _)
        ∙ sym (flat_map-append (taken_at p.side) (fore ++ Take p.side word ∷ []) (Own ∷ []))
        ∙ ap (taken p.side) (sym ends) ∙ script_taken p e in
        let has : AgreesWith ((front ++ last ∷ []) ++ step ∷ []) ((fore ++ Take p.side word ∷ [])
        ++ Own ∷ []) = subst (AgreesWith ((front ++ last ∷ []) ++ step ∷ [])) ends
        (subst (λ l. AgreesWith l (script plan p.name)) did (agrees p.name)) in
        let at = reached (taken_at p.side) (front ++ last ∷ []) fore (Own ∷ []) (Take p.side word)
        (agree_left (front ++ last ∷ []) (step ∷ [])
        ((fore ++ Take p.side word ∷ []) ++ Own ∷ []) has)
        (subst (λ l. length l ≤ length (taken p.side (front ++ last ∷ []))) (sym taken_ends) begun)
        (subst (λ l. 1 ≤ length l) (sym (own_take p.side word)) (le_refl 1)) in
        let same : front ++ last ∷ [] ≡ fore ++ Take p.side word ∷ [] = just (taken_at p.side)
        (fore ++ Take p.side word ∷ []) front last at.0 (front ++ last ∷ []) refl at.1
        (λ h. not_before (subst (λ l. length l ≤ length (taken p.side front)) taken_ends h)) in
        let next : step ≡ Own = agree_first step Own
        [] [] (agree_after (fore ++ Take p.side word ∷ []) (step ∷ []) (Own ∷ []) (subst (λ l.
        AgreesWith (l ++ step ∷ []) ((fore ++ Take p.side word ∷ []) ++ Own ∷ [])) same has)) in
        did ∙ ap₂ (λ a b. a ++ b ∷ []) same next ∙ sym ends

    root_begins : (now : Part) → part_of (ran chip events) root ≡ Some now
        → CameToBe chip root (RootBegun chip root image trees) events now 0
        → now.state.p ≡ start_address root image
    root_begins now there c = by (moves_at events now root 0 (RootBegun chip root image trees) c)
      where
        behind : (rest : List Local)
            × (history chip events root ≡ history chip (c.before ++ c.event ∷ []) root ++ rest)
            × (length rest ≡ 0)
        behind = moves_behind events now root 0 (RootBegun chip root image trees) c there

        whole : history chip events root ≡ history chip (c.before ++ c.event ∷ []) root
        whole =
            behind.1 ∙ ap (λ l. history chip (c.before ++ c.event ∷ []) root ++ l)
            (no_move behind.0 behind.2) ∙ append-nil _

        taken_then : length (stream_words root image trees)
            ≤ length (fed (history chip (c.before ++ c.event ∷ []) root))
        taken_then =
            subst (λ l. length (stream_words root image trees) ≤ length l)
            (sym (fed_history chip (c.before ++ c.event ∷ []) root)) c.so

        not_before : length (stream_words root image trees)
            ≤ length (fed (history chip c.before root)) → ⊥
        not_before h =
            c.not_before (subst (λ l. length (stream_words root image trees) ≤ length l)
            (fed_history chip c.before root) h)

        by : (history chip (c.before ++ c.event ∷ []) root ≡ history chip c.before root)
            ⊎ ((last : Local) × (history chip (c.before ++ c.event ∷ []) root
            ≡ history chip c.before root ++ last ∷ [])) → now.state.p ≡ start_address root image
        by (inl same) =
            absurd (not_before
            (subst (λ l. length (stream_words root image trees) ≤ length (fed l)) same taken_then))
        by (inr (last, did)) =
            begins plan chip plan_is events feeding root root_part.0 now _ _ root_part.1 there
            root_prepared
            (root_whole (history chip c.before root) last (whole ∙ did) not_before (subst
            (λ l. length (stream_words root image trees) ≤ length (fed l)) (sym whole) taken_then))

    node_begins : (p : Place) (now : Part) → Elem p all
        → part_of (ran chip events) p.name ≡ Some now
        → CameToBe chip p.name (Begun chip p) events now 1
        → now.state.p ≡ start_address p.name p.image
    node_begins p now e there c = by (moves_at events now p.name 1 (Begun chip p) c)
      where
        behind : (rest : List Local)
            × (history chip events p.name ≡ history chip (c.before ++ c.event ∷ []) p.name ++ rest)
            × (length rest ≡ 1)
        behind = moves_behind events now p.name 1 (Begun chip p) c there

        step : (m : Local) × (behind.0 ≡ m ∷ [])
        step = one_move behind.0 behind.2

        taken_then : length (node_words p)
            ≤ length (taken p.side (history chip (c.before ++ c.event ∷ []) p.name))
        taken_then =
            subst (λ l. length (node_words p) ≤ length l)
            (from_parent p e (c.before ++ c.event ∷ [])) c.so

        not_before : length (node_words p) ≤ length (taken p.side (history chip c.before p.name))
            → ⊥
        not_before h =
            c.not_before
            (subst (λ l. length (node_words p) ≤ length l) (sym (from_parent p e c.before)) h)

        by : (history chip (c.before ++ c.event ∷ []) p.name ≡ history chip c.before p.name)
            ⊎ ((last : Local) × (history chip (c.before ++ c.event ∷ []) p.name ≡ history chip
            c.before p.name ++ last ∷ [])) → now.state.p ≡ start_address p.name p.image
        by (inl same) =
            absurd (not_before
            (subst (λ l. length (node_words p) ≤ length (taken p.side l)) same taken_then))
        by (inr (last, did)) =
            let part = place_part p e in
            begins plan chip plan_is events feeding p.name part.0 now _ _ part.1 there
            (prepares root image trees tree chip g p part.0 e part.1)
            (node_whole p (history chip c.before p.name) last step.0 e
            (behind.1 ∙ ap₂ (λ a b. a ++ b) did step.1) not_before
            (subst (λ l. length (node_words p) ≤ length (taken p.side l)) did taken_then))

    names : (p : Place) → Elem p all → NamesSides plan chip events p.name p.side
    names p e =
        let part = place_part p e in names_sides plan chip plan_is p.name p.parent p.side part.0
        (has_parent root image trees tree p e) part.1 events feeding

    -- a node that hasn't started hasn't gone beyond its script
    within : (p : Place) → Elem p all → (Begun chip p events → ⊥)
        → IsPrefix (history chip events p.name) (script plan p.name)
    within p e not_begun = by (agrees p.name)
      where
        by : AgreesWith (history chip events p.name) (script plan p.name)
            → IsPrefix (history chip events p.name) (script plan p.name)
        by (inl front) = front
        by (inr (rest, f)) = absurd (not_begun (along p e (rest, f)))

    -- what was taken is a prefix of what is sent, or the other way round
    sent_agrees : (p : Place) → Elem p all
        → AgreesWith (words_from chip events p.name p.side) (node_words p)
    sent_agrees p e =
        subst (λ l. AgreesWith l (node_words p)) (sym (from_parent p e events))
        (subst (AgreesWith (taken p.side (history chip events p.name))) (script_taken p e)
        (agree_flat_map (taken_at p.side) (history chip events p.name) (script plan p.name)
        (agrees p.name)))

    takes : (p : Place) → Elem p all → (Begun chip p events → ⊥)
        → IsPrefix (words_from chip events p.name p.side) (node_words p)
    takes p e not_begun = by (sent_agrees p e)
      where
        by : AgreesWith (words_from chip events p.name p.side) (node_words p)
            → IsPrefix (words_from chip events p.name p.side) (node_words p)
        by (inl front) = front
        by (inr (rest, f)) =
            absurd (not_begun (longer (node_words p) rest (words_from chip events p.name p.side) f))

    took : (p : Place) → Elem p all → Begun chip p events
        → IsPrefix (node_words p) (words_from chip events p.name p.side)
    took p e begun = by (sent_agrees p e)
      where
        by : AgreesWith (words_from chip events p.name p.side) (node_words p)
            → IsPrefix (node_words p) (words_from chip events p.name p.side)
        by (inr front) = front
        by (inl (rest, f)) = ([], whole rest f ∙ sym (append-nil (node_words p)))
          where
            whole : (rest : List ℕ) → node_words p ≡ words_from chip events p.name p.side ++ rest
                → words_from chip events p.name p.side ≡ node_words p
            whole [] f = sym (append-nil _) ∙ sym f
            whole (word ∷ rest) f =
                let long = ap (λ l. length l) f
                ∙ length-append (words_from chip events p.name p.side) (word ∷ rest) in
                absurd (omega (arith, long, begun))

    -- the root takes no word from a port before it begins
    root_alone : (side : Side) → (RootBegun chip root image trees events → ⊥)
        → words_from chip events root side ≡ []
    root_alone side not_begun = by (read_cell root side) refl
      where
        front : IsPrefix (history chip events root) (script plan root)
        front = along_it (agrees root)
          where
            along_it : AgreesWith (history chip events root) (script plan root)
                → IsPrefix (history chip events root) (script plan root)
            along_it (inl front) = front
            along_it (inr (rest, f)) = absurd (not_begun (root_along (rest, f)))

        none : taken side (history chip events root) ≡ []
        none = none_before (taken side (history chip events root)) (taken side front.0)
            (sym (flat_map-append (taken_at side) (history chip events root) front.0)
            ∙ ap (taken side) (sym front.1) ∙ (plan_is.root root_part.0 root_part.1).takes side)

        by : (o : Option ℕ) → read_cell root side ≡ o
            → option_map_or (λ cell. taken_words chip events cell) o [] ≡ []
        by None f = refl
        by (Some cell) f =
            takes_ran chip events root cell side g.legal tree.named f
            ∙ takes_history chip events root cell side g.legal tree.named f ∙ none

    parent_alone : (p : Place) (side : Side) → Elem p all → (Begun chip p events → ⊥)
        → (side ≡ p.side → ⊥) → words_from chip events p.name side ≡ []
    parent_alone p side e not_begun apart = by (read_cell p.name side) refl
      where
        part : (part : Part) × (part_of chip p.name ≡ Some part)
        part = place_part p e

        none : taken side (history chip events p.name) ≡ []
        none =
            let front = within p e not_begun in
            none_before (taken side (history chip events p.name)) (taken side front.0)
            (sym (flat_map-append (taken_at side) (history chip events p.name) front.0)
            ∙ ap (taken side) (sym front.1)
            ∙ (plan_is.inside p.name p.parent p.side part.0
            (has_parent root image trees tree p e) part.1).only side apart)

        by : (o : Option ℕ) → read_cell p.name side ≡ o
            → option_map_or (λ cell. taken_words chip events cell) o [] ≡ []
        by None f = refl
        by (Some cell) f =
            let named = (named_place root image trees tree chip g p e).0 in
            takes_ran chip events p.name cell side g.legal named f
            ∙ takes_history chip events p.name cell side g.legal named f ∙ none

    first_side : (p : Place) → Elem p all → (sides_of chip events p.name ≡ [])
        ⊎ ((rest : List Side) × (sides_of chip events p.name ≡ p.side ∷ rest))
    first_side p e = by (names p e)
      where
        by : NamesSides plan chip events p.name p.side → (sides_of chip events p.name ≡ [])
            ⊎ ((rest : List Side) × (sides_of chip events p.name ≡ p.side ∷ rest))
        by (inl (none, unnamed)) = inl unnamed
        by (inr (z, h, rest, did, named, alone)) = inr (rest, named)

    only_side : (p : Place) → Elem p all → (Begun chip p events → ⊥)
        → (sides_of chip events p.name ≡ []) ⊎ (sides_of chip events p.name ≡ p.side ∷ [])
    only_side p e not_begun = by (names p e)
      where
        by : NamesSides plan chip events p.name p.side
            → (sides_of chip events p.name ≡ []) ⊎ (sides_of chip events p.name ≡ p.side ∷ [])
        by (inl (none, unnamed)) = inl unnamed
        by (inr (z, h, rest, did, named, alone)) =
            inr (named ∙ ap (λ l. p.side ∷ l)
            (alone (subst (λ l. IsPrefix l (script plan p.name)) did (within p e not_begun))))

    -- what the root has taken of its stream
    root_takes : IsPrefix (input_words chip events root) (stream_words root image trees)
    root_takes =
        let now = part_there (ran chip events) root (legal_ran chip events g.legal) tree.named in
        let flows = streams_go chip events root root_part.0 now.0 g.legal root_part.1 now.1 in
        let front = fed_of root_part.0 root_part.1 in (
          words_left now.0.stream ++ front.0,
          front.1 ∙ ap (λ l. l ++ front.0) flows
              ∙ append_assoc (input_words chip events root) (words_left now.0.stream) front.0,
        )

    root_sides : (RootBegun chip root image trees events → ⊥) → sides_of chip events root ≡ []
    root_sides not_begun = by (agrees root)
      where
        by : AgreesWith (history chip events root) (script plan root)
            → sides_of chip events root ≡ []
        by (inl front) = names_none plan chip plan_is root_part.0 root_part.1 events feeding front
        by (inr (rest, f)) = absurd (not_begun (root_along (rest, f)))

    boots : Boots chip root image trees events
    boots = record {
      root_holds = λ now there taken_all not_begun.
          holds_root plan chip plan_is events feeding root_part.0 now _ _ root_part.1 there
          root_prepared (loads taken_all) (λ b. not_begun (root_along b));
      holds = λ p now e there taken_all not_begun.
          let part = place_part p e in
          holds_inside plan chip plan_is events feeding p.name p.parent p.side part.0 root_part.0
          now _ _ (has_parent root image trees tree p e) part.1 root_part.1 there
          (prepares root image trees tree chip g p part.0 e part.1) (loads taken_all)
          (λ b. not_begun (along p e b));
      root_begins = root_begins;
      begins = node_begins;
      root_takes = root_takes;
      takes = takes;
      took = took;
      last_word = λ p. (
        sent Load p.name p.side p.image (pumps Load p.inner) ++ pumps Start p.inner,
        sym (append_assoc (sent Load p.name p.side p.image (pumps Load p.inner))
            (pumps Start p.inner) (jump_to (start_address p.name p.image) ∷ [])),
      );
      root_alone = root_alone;
      parent_alone = parent_alone;
      root_sides = root_sides;
      first_side = first_side;
      only_side = only_side;
    }

pub tree_boots : TreeBoots
tree_boots chip root image trees events tree supply =
    let both = supplied chip root (stream_words root image trees) events tree.named supply in
    boots chip root image trees tree both.0 events both.1
