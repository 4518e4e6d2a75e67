-- Each event keeps the invariant, so every run from a chip with a plan keeps to the plan.
use Rattle.std.proofs.Common.{◌≡◌, ℕ, List, [], ◌∷◌, ◌++◌, ◌⊎◌, inl, inr, map, Option, Some, None, refl, sym, ap, ap₂, ◌∙◌, subst, append-nil, append_assoc}
use Rattle.std.specs.Option.{option_to_list}
use Rattle.std.proofs.lemmas.Bool.{cases_eq}
use Rattle.std.proofs.lemmas.Option.{same_Some, none-some}
use Rattle.std.proofs.lemmas.List.{append_cancel_left, map-append}
use Rattle.std.proofs.lemmas.List.Concat.{flat_map-append}
use Rattle.ga_place.specs.Node.{IsNodeName}
use Rattle.ga_place.specs.Side.{side_bit, neighbour_of}
use Rattle.ga_place.specs.declared.side.Side.{Side}
use Rattle.ga_place.proofs.SideLemmas.{shared_port, neighbour_of-IsNodeName}
use Rattle.ga_node.specs.Need.{wants, need_of}
use Rattle.ga_node.specs.Slot.{moved}
use Rattle.ga_chip.specs.Part.{Part, Asks}
use Rattle.ga_chip.specs.Part as asked
use Rattle.ga_chip.specs.Chip.{Chip, part_of, pending, found_by}
use Rattle.ga_chip.specs.Run.{words_left, words_fed, piece_of, is_open, Event, Move, ran, move_in, moves, moves_of}
use Rattle.ga_chip.specs.Legal.{IsLegal}
use Rattle.ga_chip.specs.Laws.{AgreesWith}
use Rattle.ga_place.proofs.Cells.{writer_there, same_bit}
use Rattle.ga_chip.proofs.Parts.{Fits}
use Rattle.ga_chip.proofs.Lists.{agree_flat_map, agree_after, agree_first, agree_push}
use Rattle.ga_chip.proofs.Kept.{legal_ran, has_name}
use Rattle.ga_chip.proofs.Numbers.{part_there}
use Rattle.ga_chip.proofs.Runs.{moves-append, moves_of-append, part_first}
use Rattle.ga_chip.proofs.Moments.{Makes, makes_event, one_at_most}
use Rattle.ga_boot.specs.inner.Local.{Local, Feed, Take, given, lived, Suits, Goes, Answers, taken_at, posted_at, fed_by, taken, posted, fed, local_by, local_of, history}
use Rattle.ga_boot.specs.inner.Plan.{Plan, script, first_of, IsRoot, IsInside, IsOutside, IsPlan, IsFed, Booting}
use Rattle.ga_boot.proofs.Bare.{bare}
use Rattle.ga_boot.proofs.History.{stood_ran, stream_ran, answers}
use Rattle.ga_boot.proofs.Flow.{hands_over}
use Rattle.ga_boot.proofs.Booting.{own_take, Alike, same, feeds, takes, alike, must_take, goes_from}
use Rattle.ga_boot.proofs.Order.{Loaded, whole, down}

-- what a move that takes finds
pub take_by : (q : Asks) (found : Option ℕ) (side : Side) (word : ℕ)
    → local_by q found ≡ Take side word
    → (cell : ℕ) × (q ≡ asked.Take side cell) × (found ≡ Some word)
take_by (asked.Nothing o) found side word e = absurd (cc)
take_by asked.Own found side word e = absurd (cc)
take_by (asked.Feed w) found side word e = absurd (cc)
take_by (asked.Post s c w) found side word e = absurd (cc)
take_by (asked.Check s c) found side word e = absurd (cc)
take_by (asked.Take s c) None side word e = absurd (cc)
take_by (asked.Take s c) (Some w) side word e =
    let at : s ≡ side = cc in let is : w ≡ word = cc in (c, ap (λ z. asked.Take z c) at, ap Some is)

module _ (plan : Plan) (chip : Chip) (is : IsPlan plan chip) (events : List Event) (b : Booting plan
    chip events) (event : Event) (feeding : IsFed plan chip (events ++ event ∷ [])) where
  abbrev did : ℕ → List Local
  did name = history chip events name

  abbrev now : Chip
  now = ran chip events

  legal_now : IsLegal now
  legal_now = legal_ran chip events is.legal

  -- the neighbour that a word was taken from
  record Handing (name : ℕ) (side : Side) (word : ℕ) : Type 0 where
    writer : ℕ
    there : neighbour_of name side ≡ Some writer
    back : neighbour_of writer side ≡ Some name
    words : posted side (did writer) ≡ taken side (did name) ++ word ∷ []

  handing : (name : ℕ) (m : Move) (a : Makes now name m) (side : Side) (word : ℕ)
      → local_of m ≡ Take side word → Handing name side word
  handing name m a side word e =
      let at = take_by m.asked m.found side word e in
      let node : a.part.state.node ≡ name = legal_now.named name a.part a.there in
      let fits : Fits (asked.Take side at.0) (need_of a.part.state) name = subst (λ q. Fits q
      (need_of a.part.state) name) at.1 (subst (Fits m.asked (need_of a.part.state)) node a.fits) in
      let named : IsNodeName name = has_name now name a.part legal_now a.there in
      let writer = writer_there name at.0 side fits.1 in
      let is_pending : pending now at.0 ≡ Some word =
      sym (a.looks ∙ ap (λ q. found_by q now.cells) at.1) ∙ at.2 in
      record {
        writer = writer.0;
        there = writer.1;
        back = shared_port name writer.0 side named writer.1;
        words = hands_over chip events writer.0 name at.0 side is.legal (is.empty at.0)
            (neighbour_of-IsNodeName name writer.0 side named writer.1) named writer.2 fits.1
            ∙ ap (λ o. taken side (did name) ++ option_to_list o) is_pending;
      }

  -- a word that an idle node takes from a node that isn't its parent comes from one that went on
  -- behind its script
  record Past : Type 0 where
    name : ℕ
    move : Local
    rest : List Local
    past : did name ≡ script plan name ++ move ∷ rest

  no_word : (xs : List ℕ) (x : ℕ) (ys : List ℕ) → xs ≡ x ∷ ys → xs ≡ [] → ⊥
  no_word xs x ys e f = let g : [] ≡ x ∷ ys = sym f ∙ e in cc

  foreign : (name : ℕ) (side : Side) (word : ℕ) (h : Handing name side word) → did name ≡ []
      → (plan.parent name ≡ Some (h.writer, side) → ⊥) → Past
  foreign name side word h none other = by (b.agrees h.writer)
    where
      posts : posted side (did h.writer) ≡ word ∷ []
      posts = h.words ∙ ap (λ l. taken side l ++ word ∷ []) none

      nothing : posted side (script plan h.writer) ≡ []
      nothing = is.to_children h.writer name side h.back other

      behind : (rest : List Local) → did h.writer ≡ script plan h.writer ++ rest → Past
      behind [] e =
          absurd (no_word (posted side (did h.writer)) word [] posts
          (ap (posted side) (e ∙ append-nil (script plan h.writer)) ∙ nothing))
      behind (m ∷ rest) e = record { name = h.writer; move = m; rest = rest; past = e }

      by : AgreesWith (did h.writer) (script plan h.writer) → Past
      by (inl (rest, e)) =
          absurd (no_word (posted side (script plan h.writer)) word (posted side rest)
          (ap (posted side) e ∙ flat_map-append (posted_at side) (did h.writer) rest
          ∙ ap (λ l. l ++ posted side rest) posts) nothing)
      by (inr (rest, e)) = behind rest e

  -- the state of a node that makes a move
  record Standing (name : ℕ) (m : Move) : Type 0 where
    part : Part
    there : part_of chip name ≡ Some part
    answers : Answers (local_of m) (wants (lived (first_of part) (did name)))

  standing : (name : ℕ) (m : Move) → Makes now name m → Standing name m
  standing name m a =
      let old = part_first chip events name a.part is.legal a.there in
      let s = stood_ran chip events name old.0 is.legal old.1 in
      let it : a.part ≡ s.now = same_Some a.part s.now (sym a.there ∙ s.there) in
      record {
        part = old.0;
        there = old.1;
        answers = subst (λ st. Answers (local_of m) (wants st))
            (ap (λ p. bare p.state) it ∙ s.state) (answers now name m a);
      }

  -- a word taken from the parent is the next one of the script
  same_word : (name parent : ℕ) (side : Side) (part : Part) (m : Move) (w v : ℕ) (rest : List Local)
      → plan.parent name ≡ Some (parent, side) → IsInside plan name parent side part
      → Makes now name m → local_of m ≡ Take side w
      → script plan name ≡ did name ++ Take side v ∷ rest → w ≡ v
  same_word name parent side part m w v rest e i a took next =
      let h = handing name m a side w took in
      let named = is.inside_named name parent side e in
      let is_parent : h.writer ≡ parent =
      same_Some h.writer parent (sym h.there ∙ shared_port parent name side named.1 i.there) in
      let words : posted side (did parent) ≡ taken side (did name) ++ w ∷ [] =
      ap (λ n. posted side (did n)) (sym is_parent) ∙ h.words in
      let planned : posted side (script plan parent) ≡ taken side (did name) ++ v
      ∷ taken side rest =
      flat_map-append (posted_at side) (plan.loads parent) (plan.starts parent)
      ∙ ap₂ (λ x y. x ++ y) i.loaded i.started
      ∙ sym (flat_map-append (taken_at side) (plan.loads name) (plan.starts name))
      ∙ ap (taken side) next ∙ flat_map-append (taken_at side) (did name) (Take side v ∷ rest)
      ∙ ap (λ l. taken side (did name) ++ (l ++ taken side rest)) (own_take side v) in
      let agrees : AgreesWith
      (taken side (did name) ++ w ∷ []) (taken side (did name) ++ v ∷ taken side rest) =
      subst (λ l. AgreesWith (taken side (did name) ++ w ∷ []) l) planned
      (subst (λ l. AgreesWith l (posted side (script plan parent))) words
      (agree_flat_map (posted_at side) (did parent) (script plan parent) (b.agrees parent))) in
      agree_first w v [] (taken side rest)
      (agree_after (taken side (did name)) (w ∷ []) (v ∷ taken side rest) agrees)

  -- a side from which a script takes a word
  taken_there : (side : Side) (v : ℕ) (ms done rest : List Local) → ms ≡ done ++ Take side v ∷ rest
      → taken side ms ≡ [] → ⊥
  taken_there side v ms done rest e none =
      some (taken side done) (sym none ∙ ap (taken side) e ∙ flat_map-append (taken_at side) done
      (Take side v ∷ rest) ∙ ap (λ l. taken side done ++ (l ++ taken side rest)) (own_take side v))
    where
      some : (xs : List ℕ) → [] ≡ xs ++ v ∷ taken side rest → ⊥
      some [] f = cc
      some (x ∷ xs) f = cc

  fed_there : (v : ℕ) (ms done rest : List Local) → ms ≡ done ++ Feed v ∷ rest → fed ms ≡ [] → ⊥
  fed_there v ms done rest e none =
      some (fed done) (sym none ∙ ap fed e ∙ flat_map-append fed_by done (Feed v ∷ rest))
    where
      some : (xs : List ℕ) → [] ≡ xs ++ v ∷ fed rest → ⊥
      some [] f = cc
      some (x ∷ xs) f = cc

  sides_differ : (s t : Side) → (side_bit s ≡ side_bit t) ⊎ (side_bit s ≡ side_bit t → ⊥)
  sides_differ s t = cases_eq (side_bit s) (side_bit t)

  -- A node of the tree makes the next move of its script.
  next_inside : (name parent : ℕ) (side : Side) (m : Move) (y : Local) (rest : List Local)
      → plan.parent name ≡ Some (parent, side) → Makes now name m
      → script plan name ≡ did name ++ y ∷ rest → local_of m ≡ y
  next_inside name parent side m y rest e a next = by (did name) refl
    where
      s : Standing name m
      s = standing name m a

      i : IsInside plan name parent side s.part
      i = is.inside name parent side s.part e s.there

      -- the first word
      idle : did name ≡ [] → (t : Side) (w : ℕ) → local_of m ≡ Take t w → Take side i.first.0 ≡ y
          → (side_bit t ≡ side_bit side) ⊎ (side_bit t ≡ side_bit side → ⊥) → local_of m ≡ y
      idle none t w took f (inl bits) =
          let at : t ≡ side = same_bit t side bits in
          let took' : local_of m ≡ Take side w = took ∙ ap (λ z. Take z w) at in
          let word : w ≡ i.first.0 = same_word name parent side s.part m w i.first.0 rest e i a
          took' (next ∙ ap (λ z. did name ++ z ∷ rest) (sym f)) in
          took' ∙ ap (Take side) word ∙ f
      idle none t w took f (inr apart) =
          let h = handing name m a t w took in
          let p = foreign name t w h none (λ g.
          apart (ap (λ z. side_bit z.1) (same_Some (h.writer, t) (parent, side) (sym g ∙ e)))) in
          absurd (b.quiet p.name p.move p.rest p.past name (parent, side) e none)

      -- a later one
      meets : (x z : Local) → local_of m ≡ x → y ≡ z → Alike x z → x ≡ z
      meets x z f g (same c) = refl
      meets x z f g (feeds w v) =
          absurd (fed_there v (script plan name) (did name) rest
          (next ∙ ap (λ k. did name ++ k ∷ rest) g) i.feeds)
      meets x z f g (takes t w v) = at (sides_differ t side)
        where
          at : (side_bit t ≡ side_bit side) ⊎ (side_bit t ≡ side_bit side → ⊥) → Take t w ≡ Take t v
          at (inl bits) =
              let there : t ≡ side = same_bit t side bits in
              let word : w ≡ v =
              same_word name parent side s.part m w v rest e i a (f ∙ ap (λ k. Take k w) there)
              (next ∙ ap (λ k. did name ++ k ∷ rest) (g ∙ ap (λ k. Take k v) there)) in
              ap (Take t) word
          at (inr apart) =
              absurd (taken_there t v (script plan name) (did name) rest
              (next ∙ ap (λ k. did name ++ k ∷ rest) g) (i.only t (λ k. apart (ap side_bit k))))

      by : (h : List Local) → did name ≡ h → local_of m ≡ y
      by [] none =
          let f : Take side i.first.0 ∷ i.first.1 ≡ y ∷ rest =
          sym i.first.2 ∙ next ∙ ap (λ l. l ++ y ∷ rest) none in
          let first : Take side i.first.0 ≡ y = cc in
          let it = must_take (local_of m) i.idle.0 (wants (first_of s.part)) i.idle.1
          (subst (λ l. Answers (local_of m) (wants (lived (first_of s.part) l))) none s.answers) in
          idle none it.0 it.1 it.2 first (sides_differ it.0 side)
      by (z ∷ h) some =
          let f : Take side i.first.0 ∷ i.first.1 ≡ z ∷ (h ++ y ∷ rest) =
          sym i.first.2 ∙ next ∙ ap (λ l. l ++ y ∷ rest) some in
          let first : Take side i.first.0 ≡ z = cc in
          let tail : i.first.1 ≡ h ++ y ∷ rest = cc in
          let goes : Goes (moved (first_of s.part) (given z)) (h ++ y ∷ rest) =
          subst (λ x. Goes (moved (first_of s.part) (given x)) (h ++ y ∷ rest)) first
          (subst (Goes (moved (first_of s.part) (Some i.first.0))) tail i.first.3) in
          let suits : Suits y (wants (lived (first_of s.part) (z ∷ h))) =
          goes_from (moved (first_of s.part) (given z)) h y rest goes in
          meets (local_of m) y refl refl
          (alike (local_of m) y (wants (lived (first_of s.part) (z ∷ h))) (subst
          (λ l. Answers (local_of m) (wants (lived (first_of s.part) l))) some s.answers) suits)

  -- the history after the event
  pub after_it : (name : ℕ) → history chip (events ++ event ∷ []) name ≡ did name
      ++ map local_of (moves_of name (move_in now event))
  after_it name =
      ap (λ ms. map local_of (moves_of name ms)) (moves-append chip events (event ∷ [])
      ∙ ap (λ l. moves chip events ++ l) (append-nil (move_in now event)))
      ∙ ap (map local_of) (moves_of-append name (moves chip events) (move_in now event))
      ∙ map-append local_of (moves_of name (moves chip events)) (moves_of name (move_in now event))

  pub one_more : (name : ℕ) (m : Move) → moves_of name (move_in now event) ≡ m ∷ []
      → history chip (events ++ event ∷ []) name ≡ did name ++ local_of m ∷ []
  one_more name m e = after_it name ∙ ap (λ l. did name ++ map local_of l) e

  pub none_more : (name : ℕ) → moves_of name (move_in now event) ≡ []
      → history chip (events ++ event ∷ []) name ≡ did name
  none_more name e = after_it name ∙ ap (λ l. did name ++ map local_of l) e ∙ append-nil (did name)

  -- The root makes the next move of its script.
  next_root : (m : Move) (y : Local) (rest : List Local) → Makes now plan.root m
      → moves_of plan.root (move_in now event) ≡ m ∷ []
      → script plan plan.root ≡ did plan.root ++ y ∷ rest → local_of m ≡ y
  next_root m y rest a made next =
      meets (local_of m) y refl refl
      (alike (local_of m) y (wants (lived (first_of s.part) (did plan.root))) s.answers (goes_from
      (first_of s.part) (did plan.root) y rest (subst (Goes (first_of s.part)) next i.goes)))
    where
      s : Standing plan.root m
      s = standing plan.root m a

      i : IsRoot plan s.part
      i = is.root s.part s.there

      meets : (x z : Local) → local_of m ≡ x → y ≡ z → Alike x z → x ≡ z
      meets x z f g (same c) = refl
      meets x z f g (feeds w v) =
          let stood = stood_ran chip (events ++ event ∷ []) plan.root s.part is.legal s.there in
          let more : fed (history chip (events ++ event ∷ []) plan.root) ≡ fed (did plan.root) ++ w
          ∷ [] = ap fed (one_more plan.root m made ∙ ap (λ k. did plan.root ++ k ∷ []) f)
          ∙ flat_map-append fed_by (did plan.root) (Feed w ∷ []) in
          let given_words : words_left s.part.stream ++ words_fed chip (events ++ event ∷ [])
          plan.root ≡ fed (did plan.root) ++ w ∷ words_left stood.now.stream = stream_ran chip
          (events ++ event ∷ []) plan.root s.part stood.now is.legal s.there stood.there
          ∙ ap (λ l. l ++ words_left stood.now.stream) more
          ∙ append_assoc (fed (did plan.root)) (w ∷ []) (words_left stood.now.stream) in
          let planned : fed (script plan plan.root) ≡ fed (did plan.root) ++ v ∷ fed rest =
          ap fed (next ∙ ap (λ k. did plan.root ++ k ∷ rest) g)
          ∙ flat_map-append fed_by (did plan.root) (Feed v ∷ rest) in
          let whole_stream = feeding s.part s.there in
          let ends : w ∷ (words_left stood.now.stream ++ whole_stream.0) ≡ v ∷ fed rest =
          append_cancel_left (fed (did plan.root))
          (w ∷ (words_left stood.now.stream ++ whole_stream.0)) (v ∷ fed rest)
          (sym (append_assoc (fed (did plan.root)) (w ∷ words_left stood.now.stream) whole_stream.0)
          ∙ ap (λ l. l ++ whole_stream.0) (sym given_words) ∙ sym whole_stream.1 ∙ planned) in
          let word : w ≡ v = cc in
          ap Feed word
      meets x z f g (takes t w v) =
          absurd (taken_there t v (script plan plan.root) (did plan.root) rest
          (next ∙ ap (λ k. did plan.root ++ k ∷ rest) g) (i.takes t))

  not_empty : (ms : List Local) (y : Local) (rest : List Local) → [] ≡ ms ++ y ∷ rest → ⊥
  not_empty [] y rest e = cc
  not_empty (x ∷ ms) y rest e = cc

  -- EACH NODE MAKES THE NEXT MOVE OF ITS SCRIPT
  next_is : (name : ℕ) (m : Move) (y : Local) (rest : List Local)
      → moves_of name (move_in now event) ≡ m ∷ [] → script plan name ≡ did name ++ y ∷ rest
      → local_of m ≡ y
  next_is name m y rest made next = by (plan.parent name) refl (cases_eq name plan.root)
    where
      a : Makes now name m
      a = makes_event now event name m made

      by : (p : Option (ℕ × Side)) → plan.parent name ≡ p
          → (name ≡ plan.root) ⊎ (name ≡ plan.root → ⊥) → local_of m ≡ y
      by (Some above) e f = next_inside name above.0 above.1 m y rest e a next
      by None e (inl f) =
          next_root m y rest (subst (λ n. Makes now n m) f a)
          (ap (λ n. moves_of n (move_in now event)) (sym f) ∙ made) (ap (script plan) (sym f) ∙ next
          ∙ ap (λ n. did n ++ y ∷ rest) f)
      by None e (inr f) =
          let s = standing name m a in
          absurd
          (not_empty (did name) y rest (sym (is.outside name s.part e f s.there).nothing ∙ next))

  agrees_more : (name : ℕ)
      → AgreesWith (history chip (events ++ event ∷ []) name) (script plan name)
  agrees_more name = by (one_at_most now event name)
    where
      by : (moves_of name (move_in now event) ≡ [])
          ⊎ ((m : Move) × (moves_of name (move_in now event) ≡ m ∷ []))
          → AgreesWith (history chip (events ++ event ∷ []) name) (script plan name)
      by (inl e) =
          subst (λ l. AgreesWith l (script plan name)) (sym (none_more name e)) (b.agrees name)
      by (inr (m, e)) =
          subst (λ l. AgreesWith l (script plan name)) (sym (one_more name m e))
          (agree_push (did name) (script plan name) (local_of m) (b.agrees name)
          (λ y rest next. next_is name m y rest e next))

  -- If some node has gone along its whole script, no node of the tree waits for its first word.
  loaded_all : Loaded plan chip is events b.agrees plan.root → (name : ℕ) (above : ℕ × Side)
      → plan.parent name ≡ Some above → did name ≡ [] → ⊥
  loaded_all root name above e none =
      let part = part_there chip name is.legal (is.inside_named name above.0 above.1 e).0 in
      let i : IsInside plan name above.0 above.1 part.0 =
      is.inside name above.0 above.1 part.0 e part.1 in
      let at = down plan chip is events b.agrees
      (plan.depth name) name above.0 above.1 part.0 refl e part.1 root in
      not_empty i.last.0 (Take above.1 i.last.1) at.0 (sym none ∙ at.1
      ∙ ap (λ l. l ++ at.0) i.last.2 ∙ append_assoc i.last.0 (Take above.1 i.last.1 ∷ []) at.0)

  -- a node makes a move behind its script
  leaves : (past : ℕ) (m : Move) → moves_of past (move_in now event) ≡ m ∷ []
      → did past ≡ script plan past → (name : ℕ) (above : ℕ × Side) → plan.parent name ≡ Some above
      → did name ≡ [] → ⊥
  leaves past m made whole_script name above e none =
      by (plan.parent past) refl (cases_eq past plan.root)
    where
      a : Makes now past m
      a = makes_event now event past m made

      s : Standing past m
      s = standing past m a

      by : (p : Option (ℕ × Side)) → plan.parent past ≡ p
          → (past ≡ plan.root) ⊎ (past ≡ plan.root → ⊥) → ⊥
      by (Some over) f g =
          loaded_all (whole plan chip is events b.agrees past over.0 over.1 s.part f s.there
          [] (whole_script ∙ sym (append-nil (script plan past)))) name above e none
      by None f (inl g) =
          loaded_all (plan.starts plan.root, ap did (sym g) ∙ whole_script ∙ ap (script plan) g)
          name above e none
      by None f (inr g) =
          let o : IsOutside plan past s.part = is.outside past s.part f g s.there in
          let empty : did past ≡ [] = whole_script ∙ o.nothing in
          let it = must_take (local_of m) o.idle.0 (wants (first_of s.part)) o.idle.1
          (subst (λ l. Answers (local_of m) (wants (lived (first_of s.part) l))) empty s.answers) in
          let h = handing past m a it.0 it.1 it.2 in
          let p = foreign past it.0 it.1 h empty (λ k. none-some (h.writer, it.0) (sym f ∙ k)) in
          b.quiet p.name p.move p.rest p.past name above e none

  two_long : (x m : Local) (r rest : List Local) → x ∷ [] ≡ r ++ m ∷ rest → r ≡ []
  two_long x m [] rest e = refl
  two_long x m (z ∷ r) rest e = absurd (not_empty r m rest (cc))

  front_empty : (xs ys : List Local) → xs ++ ys ≡ [] → xs ≡ []
  front_empty [] ys e = refl
  front_empty (x ∷ xs) ys e = absurd (cc)

  quiet_more : (past : ℕ) (m : Local) (rest : List Local)
      → history chip (events ++ event ∷ []) past ≡ script plan past ++ m ∷ rest
      → (name : ℕ) (above : ℕ × Side) → plan.parent name ≡ Some above
      → history chip (events ++ event ∷ []) name ≡ [] → ⊥
  quiet_more past m rest went name above e none' = by (one_at_most now event past)
    where
      none : did name ≡ []
      none =
          front_empty (did name) (map local_of (moves_of name (move_in now event)))
          (sym (after_it name) ∙ none')

      behind : (x : Move) → moves_of past (move_in now event) ≡ x ∷ [] → (r : List Local)
          → did past ≡ script plan past ++ r → ⊥
      behind x f [] g = leaves past x f (g ∙ append-nil (script plan past)) name above e none
      behind x f (z ∷ r) g = b.quiet past z r g name above e none

      compare : (x : Move) → moves_of past (move_in now event) ≡ x ∷ []
          → AgreesWith (did past) (script plan past) → ⊥
      compare x f (inl (r, g)) =
          let whole_thing : did past ++ (local_of x ∷ []) ≡ did past ++ (r ++ m ∷ rest) =
          sym (one_more past x f) ∙ went ∙ ap (λ l. l ++ m ∷ rest) g
          ∙ append_assoc (did past) r (m ∷ rest) in
          let short : r ≡ [] = two_long (local_of x) m r rest
          (append_cancel_left (did past) (local_of x ∷ []) (r ++ m ∷ rest) whole_thing) in
          leaves past x f
          (sym (g ∙ ap (λ l. did past ++ l) short ∙ append-nil (did past))) name above e none
      compare x f (inr (r, g)) = behind x f r g

      by : (moves_of past (move_in now event) ≡ [])
          ⊎ ((x : Move) × (moves_of past (move_in now event) ≡ x ∷ [])) → ⊥
      by (inl f) = b.quiet past m rest (sym (none_more past f) ∙ went) name above e none
      by (inr (x, f)) = compare x f (b.agrees past)

  -- an event keeps the invariant
  pub kept : Booting plan chip (events ++ event ∷ [])
  kept = record { agrees = agrees_more; quiet = quiet_more }

pub booting_first : (plan : Plan) (chip : Chip) → Booting plan chip []
booting_first plan chip = record {
  agrees = λ name. inl (script plan name, refl);
  quiet = λ past m rest e. absurd (nothing (script plan past) m rest e);
}
  where
    nothing : (ms : List Local) (m : Local) (rest : List Local) → [] ≡ ms ++ m ∷ rest → ⊥
    nothing [] m rest e = cc
    nothing (x ∷ ms) m rest e = cc

-- what is fed as planned was so at each moment before
pub sooner : (plan : Plan) (chip : Chip) (events later : List Event)
    → IsFed plan chip (events ++ later) → IsFed plan chip events
sooner plan chip events later f part there =
    let whole_stream = f part there in
    let some = words_fed chip events plan.root in
    let more = words_fed chip later plan.root in (
      more ++ whole_stream.0,
      whole_stream.1 ∙ ap (λ l. (words_left part.stream ++ l) ++ whole_stream.0)
          (flat_map-append (piece_of (is_open chip plan.root) plan.root) events later)
          ∙ ap (λ l. l ++ whole_stream.0) (sym (append_assoc (words_left part.stream) some more))
          ∙ append_assoc (words_left part.stream ++ some) more whole_stream.0,
    )

booting_on : (plan : Plan) (chip : Chip) (is : IsPlan plan chip) (done events : List Event)
    → IsFed plan chip (done ++ events) → Booting plan chip done → Booting plan chip (done ++ events)
booting_on plan chip is done [] feeding b = subst (Booting plan chip) (sym (append-nil done)) b
booting_on plan chip is done (event ∷ events) feeding b =
    let all : IsFed plan chip ((done ++ event ∷ []) ++ events) =
    subst (IsFed plan chip) (sym (append_assoc done (event ∷ []) events)) feeding in
    subst (Booting plan chip) (append_assoc done (event ∷ []) events)
    (booting_on plan chip is (done ++ event ∷ []) events all
    (kept plan chip is done b event (sooner plan chip (done ++ event ∷ []) events all)))

-- THE INVARIANT HOLDS in every run
pub booting : (plan : Plan) (chip : Chip) → IsPlan plan chip → (events : List Event)
    → IsFed plan chip events → Booting plan chip events
booting plan chip is events feeding =
    booting_on plan chip is [] events feeding (booting_first plan chip)
