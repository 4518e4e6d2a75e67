-- Two runs agree on their common steps. By induction along the first run: the next move of a node
-- is the move that the node makes in the second run after the same moves, since both find the node
-- in the same state, and a take finds the same word.
use Rattle.std.proofs.Common.{◌≡◌, Bool, ℕ, ◌+◌, arith, length-append, List, [], ◌∷◌, ◌++◌, ◌⊎◌, inl, inr, take, length, ◌≤◌, flat_map, slice_get, option_map, Option, Some, None, refl, sym, ap, ap₂, ◌∙◌, subst, append_assoc, append-nil}
use Rattle.std.proofs.lemmas.Option.{same_Some, slice_get-map}
use Rattle.std.proofs.lemmas.List.Concat.{flat_map-append}
use Rattle.std.proofs.lemmas.List.{append_cancel_left, take-append-le, nil_from_length}
use Rattle.std.specs.Option.{option_to_list}
use Rattle.ga_place.specs.Side.{one_side}
use Rattle.ga_place.specs.Node.{IsNodeName}
use Rattle.ga_place.specs.declared.side.Side.{Side}
use Rattle.ga_node.specs.State.{State}
use Rattle.ga_node.specs.Need.{need_of}
use Rattle.ga_node.specs.declared.need.Need.{Need}
use Rattle.ga_node.specs.declared.need.Need.TheVariants as need
use Rattle.ga_place.specs.Cell.{index_of, read_cell}
use Rattle.ga_chip.specs.Part.{input_of, Part, Asks, Nothing, Own, Feed, Post, Check, Take, asks_by, picked_by, picked_of}
use Rattle.ga_chip.specs.Chip.{Chip, part_of, pending, found_by}
use Rattle.ga_chip.specs.Run.{words_left, words_fed, is_open, piece_of, pieces, Event, happened, ran, Move, move_in, moves, moves_of, posted_by, taken_by, input_after, input_words, written_words, taken_words, sides_of, node_after}
use Rattle.ga_chip.specs.Legal.{IsLegal, DifferInBreaks, unbroken}
use Rattle.ga_chip.specs.Laws.{AgreesWith, Confluence}
use Rattle.ga_chip.proofs.Lists.{agree_left, agree_right, agree_flat_map, agree_front, agree_after, agree_first, agree_push}
use Rattle.ga_place.proofs.Cells.{writer_there}
use Rattle.ga_chip.proofs.Parts.{Fits, Passes, same_asks}
use Rattle.ga_chip.proofs.Events.{replay}
use Rattle.ga_chip.proofs.Kept.{has_name, legal_ran}
use Rattle.ga_chip.proofs.Runs.{moves-append, moves_of-append, stand_ran, part_first, flow_ran, posts, takes, posts_ran, takes_ran, HasWriter, HasReader, written_or_none, taken_or_none}
use Rattle.ga_chip.proofs.Moments.{Makes, makes_event, moment, one_at_most}
use Rattle.ga_chip.proofs.Streams.{fed_moves, fed_now, fed_ran, open_there}
use Rattle.ga_chip.proofs.NodeAfter.{stands_after_moves}

-- by the same need, sides that agree are the same
same_several : (one : Option Side) (s t : Side) (xs ys : List Side)
    → AgreesWith (picked_of one s ++ xs) (picked_of one t ++ ys) → picked_of one s ≡ picked_of one t
same_several (Some only) s t xs ys a = refl
same_several None s t xs ys a = ap (λ u. u ∷ []) (agree_first s t xs ys a)

same_picked : (n : Need) (s t : Side) (xs ys : List Side)
    → AgreesWith (picked_by n s ++ xs) (picked_by n t ++ ys) → picked_by n s ≡ picked_by n t
same_picked (need.Take sides) s t xs ys a = same_several (one_side sides) s t xs ys a
same_picked need.Own s t xs ys a = refl
same_picked (need.Post to word) s t xs ys a = refl
same_picked (need.Check to) s t xs ys a = refl
same_picked need.Input s t xs ys a = refl
same_picked (need.Stopped stop) s t xs ys a = refl

-- two tries that ask the same and are moved found the same, if two takes find the same word
same_found : (q : Asks) (one two : Chip) (f g : Option ℕ) → f ≡ found_by q one.cells
    → g ≡ found_by q two.cells → Passes q f → Passes q g → ((side : Side) (cell w v : ℕ)
    → q ≡ Take side cell → pending one cell ≡ Some w → pending two cell ≡ Some v → w ≡ v) → f ≡ g
same_found (Nothing outcome) one two f g ef eg pf pg words = ef ∙ sym eg
same_found Own one two f g ef eg pf pg words = ef ∙ sym eg
same_found (Feed fed) one two f g ef eg pf pg words = ef ∙ sym eg
same_found (Post side cell word) one two f g ef eg pf pg words = ef ∙ sym eg
same_found (Check side cell) one two f g ef eg pf pg words = pf ∙ sym pg
same_found (Take side cell) one two f g ef eg pf pg words =
    pf.1 ∙ ap Some (words side cell pf.0 pg.0 refl (sym ef ∙ pf.1) (sym eg ∙ pg.1)) ∙ sym pg.1

same_fields : (a b : Move) → a.node ≡ b.node → a.asked ≡ b.asked → a.found ≡ b.found
    → a.picked ≡ b.picked → a ≡ b
same_fields a b p q r s = λ i. record { node = p i; asked = q i; found = r i; picked = s i }

-- by the same need two nodes ask the same, if they are fed the same
same_input : (p q : Option (List ℕ)) (f g : Option ℕ) → Passes (input_of p) f
    → Passes (input_of q) g → ((w v : ℕ) → input_of p ≡ Feed w → input_of q ≡ Feed v → w ≡ v)
    → input_of p ≡ input_of q
same_input None q f g a b words = absurd a
same_input (Some []) q f g a b words = absurd a
same_input (Some (w ∷ rest)) None f g a b words = absurd b
same_input (Some (w ∷ rest)) (Some []) f g a b words = absurd b
same_input (Some (w ∷ rest)) (Some (v ∷ more)) f g a b words = ap Feed (words w v refl refl)

same_asked : (n : Need) (name : ℕ) (p q : Option (List ℕ)) (s t : Side) (f g : Option ℕ)
    → picked_by n s ≡ picked_by n t → Passes (asks_by n name p s) f → Passes (asks_by n name q t) g
    → ((w v : ℕ) → asks_by n name p s ≡ Feed w → asks_by n name q t ≡ Feed v → w ≡ v)
    → asks_by n name p s ≡ asks_by n name q t
same_asked need.Own name p q s t f g e a b words = refl
same_asked (need.Take sides) name p q s t f g e a b words = same_asks (need.Take sides) name p s t e
same_asked (need.Post to word) name p q s t f g e a b words = refl
same_asked (need.Check to) name p q s t f g e a b words = refl
same_asked need.Input name p q s t f g e a b words = same_input p q f g a b words
same_asked (need.Stopped stop) name p q s t f g e a b words = refl

-- Two moves that a node makes in equal states are the same.
same_move : (one two : Chip) (name : ℕ) (m y : Move) (a : Makes one name m) (b : Makes two name y)
    → a.part.state ≡ b.part.state → (xs ys : List Side)
    → AgreesWith (m.picked ++ xs) (y.picked ++ ys) → ((side : Side) (cell w v : ℕ)
    → m.asked ≡ Take side cell → pending one cell ≡ Some w → pending two cell ≡ Some v → w ≡ v)
    → ((w v : ℕ) → m.asked ≡ Feed w → y.asked ≡ Feed v → w ≡ v) → m ≡ y
same_move one two name m y a b alike xs ys sides words fed =
    same_fields m y (a.node ∙ sym b.node) asked found picked
  where
    needs : need_of a.part.state ≡ need_of b.part.state
    needs = ap need_of alike

    picks : m.picked ≡ picked_by (need_of b.part.state) a.side
    picks = a.picks ∙ ap (λ n. picked_by n a.side) needs

    same_side : picked_by (need_of b.part.state) a.side ≡ picked_by (need_of b.part.state) b.side
    same_side =
        same_picked (need_of b.part.state) a.side b.side xs ys
        (subst (λ l. AgreesWith (picked_by (need_of b.part.state) a.side ++ xs) (l ++ ys)) b.picks
        (subst (λ l. AgreesWith (l ++ xs) (y.picked ++ ys)) picks sides))

    picked : m.picked ≡ y.picked
    picked = picks ∙ same_side ∙ sym b.picks

    asked : m.asked ≡ y.asked
    asked =
        let a_is : m.asked ≡ asks_by (need_of b.part.state) b.part.state.node a.part.stream a.side =
        a.asked ∙ ap (λ s. asks_by (need_of s) s.node a.part.stream a.side) alike in
        a_is ∙ same_asked (need_of b.part.state) b.part.state.node a.part.stream b.part.stream
        a.side b.side m.found y.found same_side (subst (λ q. Passes q m.found) a_is a.passed)
        (subst (λ q. Passes q y.found) b.asked b.passed)
        (λ w v e f. fed w v (a_is ∙ e) (b.asked ∙ f)) ∙ sym b.asked

    found : m.found ≡ y.found
    found =
        same_found m.asked one two m.found y.found a.looks (b.looks ∙ ap (λ q. found_by q two.cells)
        (sym asked)) a.passed (subst (λ q. Passes q y.found) (sym asked) b.passed) words

-- chips that differ in breakpoints and passes have nodes in equal states
bare_first : (one two : Chip) (name : ℕ) (p q : Part) → DifferInBreaks one two
    → part_of one name ≡ Some p → part_of two name ≡ Some q → unbroken p ≡ unbroken q
bare_first one two name p q differ here there =
    let bare : Some (unbroken p) ≡ Some (unbroken q) =
    ap (option_map unbroken) (sym here) ∙ sym (slice_get-map unbroken one.parts (index_of name))
    ∙ ap (λ ps. slice_get ps (index_of name)) differ.parts
    ∙ slice_get-map unbroken two.parts (index_of name) ∙ ap (option_map unbroken) there in
    same_Some (unbroken p) (unbroken q) bare

alike_first : (one two : Chip) (name : ℕ) (p q : Part) → DifferInBreaks one two
    → part_of one name ≡ Some p → part_of two name ≡ Some q → p.state ≡ q.state
alike_first one two name p q differ here there =
    ap (λ x. x.state) (bare_first one two name p q differ here there)

stream_first : (one two : Chip) (name : ℕ) (p q : Part) → DifferInBreaks one two
    → part_of one name ≡ Some p → part_of two name ≡ Some q → p.stream ≡ q.stream
stream_first one two name p q differ here there =
    ap (λ x. x.stream) (bare_first one two name p q differ here there)

opened_first : (one two : Chip) (name : ℕ) (p q : Part) → DifferInBreaks one two
    → part_of one name ≡ Some p → part_of two name ≡ Some q → p.opened ≡ q.opened
opened_first one two name p q differ here there =
    ap (λ x. x.opened) (bare_first one two name p q differ here there)

-- and after equal moves they still do
alike_later : (one two : Chip) (done before : List Event) (name : ℕ) (p q : Part) → IsLegal one
    → IsLegal two → DifferInBreaks one two
    → moves_of name (moves one done) ≡ moves_of name (moves two before)
    → part_of (ran one done) name ≡ Some p → part_of (ran two before) name ≡ Some q
    → p.state ≡ q.state
alike_later one two done before name p q legal legal' differ same here there =
    let first = part_first one done name p legal here in
    let first' = part_first two before name q legal' there in
    let run = stand_ran one done name first.0 legal first.1 in
    let run' = stand_ran two before name first'.0 legal' first'.1 in
    ap (λ p. p.state) (same_Some p run.now (sym here ∙ run.there)) ∙ run.stands
    ∙ ap₂ replay (alike_first one two name first.0 first'.0 differ first.1 first'.1) same
    ∙ sym run'.stands ∙ ap (λ p. p.state) (same_Some run'.now q (sym run'.there ∙ there))

-- A cell's next word is the same in two runs whose reader took as many, if its writer's moves
-- agree.
same_word : (one two : Chip) (done before more : List Event) (name cell w v : ℕ) (side : Side)
    → IsLegal one → IsLegal two → DifferInBreaks one two
    → ((n : ℕ) → AgreesWith (moves_of n (moves one done)) (moves_of n (moves two (before ++ more))))
    → moves_of name (moves one done) ≡ moves_of name (moves two before) → IsNodeName name
    → read_cell name side ≡ Some cell → pending (ran one done) cell ≡ Some w
    → pending (ran two before) cell ≡ Some v → w ≡ v
same_word one two done before more name cell w v side legal legal' differ agree same named here is
    is' =
    let writer = writer_there name cell side here in
    let all : AgreesWith (posts cell (moves one done)) (posts cell (moves two (before ++ more))) =
    subst (λ l. AgreesWith (posts cell (moves one done)) l)
    (sym (posts_ran two (before ++ more) writer.0 cell side legal' writer.2))
    (subst (λ l. AgreesWith l (posts cell (moves_of writer.0 (moves two (before ++ more)))))
    (sym (posts_ran one done writer.0 cell side legal writer.2))
    (agree_flat_map (λ move. posted_by cell move.asked) (moves_of writer.0 (moves one done))
    (moves_of writer.0 (moves two (before ++ more))) (agree writer.0))) in
    let cut : posts cell (moves two (before ++ more)) ≡ posts cell (moves two before)
    ++ posts cell (moves (ran two before) more) =
    ap (posts cell) (moves-append two before more)
    ∙ flat_map-append (λ move. posted_by cell move.asked) (moves two before)
    (moves (ran two before) more) in
    let so_far : AgreesWith (posts cell (moves one done)) (posts cell (moves two before)) =
    agree_right (posts cell (moves one done)) (posts cell (moves two before))
    (posts cell (moves (ran two before) more))
    (subst (λ l. AgreesWith (posts cell (moves one done)) l) cut all) in
    let taken : takes cell (moves two before) ≡ takes cell (moves one done) =
    takes_ran two before name cell side legal' named here ∙ ap (takes cell) (sym same)
    ∙ sym (takes_ran one done name cell side legal named here) in
    let flow : option_to_list (pending one cell) ++ posts cell (moves one done)
    ≡ takes cell (moves one done) ++ w ∷ [] =
    flow_ran one done cell legal ∙ ap (λ o. takes cell (moves one done) ++ option_to_list o) is in
    let flow' : option_to_list (pending one cell) ++ posts cell (moves two before)
    ≡ takes cell (moves one done) ++ v ∷ [] =
    ap (λ cs. option_to_list (pending (record one { cells = cs }) cell)
    ++ posts cell (moves two before)) differ.cells ∙ flow_ran two before cell legal'
    ∙ ap₂ (λ t o. t ++ option_to_list o) taken is' in
    agree_first w v [] [] (agree_after (takes cell (moves one done)) (w ∷ []) (v ∷ [])
    (subst (λ l. AgreesWith (takes cell (moves one done) ++ w ∷ []) l) flow' (subst
    (λ l. AgreesWith l (option_to_list (pending one cell) ++ posts cell (moves two before))) flow
    (agree_front (option_to_list (pending one cell)) (posts cell (moves one done))
    (posts cell (moves two before)) so_far))))

-- The next word of two streams is the same in two runs if the node was fed as many.
same_fed : (one two : Chip) (done rest before more : List Event) (event : Event) (name : ℕ)
    (m y : Move) (w v : ℕ) (a : Makes (ran one done) name m) (b : Makes (ran two before) name y)
    → IsLegal one → IsLegal two → DifferInBreaks one two
    → AgreesWith (words_fed one (done ++ event ∷ rest) name) (words_fed two (before ++ more) name)
    → moves_of name (moves one done) ≡ moves_of name (moves two before) → m.asked ≡ Feed w
    → y.asked ≡ Feed v → w ≡ v
same_fed one two done rest before more event name m y w v a b legal legal' differ given same e f =
    let p = fed_now one done name m w a legal e in
    let q = fed_now two before name y v b legal' f in
    let first : words_left p.first.stream ≡ words_left q.first.stream =
    ap words_left (stream_first one two name p.first q.first differ p.there q.there) in
    let opened : Bool = q.first.opened in
    let same_open : p.first.opened ≡ opened =
    opened_first one two name p.first q.first differ p.there q.there in
    let given_here : AgreesWith
    (pieces opened name (done ++ event ∷ rest)) (pieces opened name (before ++ more)) =
    subst (λ b. AgreesWith (pieces b name (done ++ event ∷ rest))
    (pieces opened name (before ++ more))) (open_there one name p.first p.there ∙ same_open)
    (subst (λ b. AgreesWith (pieces (is_open one name) name (done ++ event ∷ rest))
    (pieces b name (before ++ more))) (open_there two name q.first q.there) given) in
    let cut : AgreesWith (pieces opened name done) (pieces opened name before) =
    agree_right (pieces opened name done) (pieces opened name before) (pieces opened name more)
    (subst (λ l. AgreesWith (pieces opened name done) l)
    (flat_map-append (piece_of opened name) before more)
    (agree_left (pieces opened name done) (pieces opened name (event ∷ rest)) (pieces opened name
    (before ++ more)) (subst (λ l. AgreesWith l (pieces opened name (before ++ more)))
    (flat_map-append (piece_of opened name) done (event ∷ rest)) given_here))) in
    let fed : AgreesWith (fed_moves (moves_of name (moves two before)) ++ w ∷ p.rest)
    (fed_moves (moves_of name (moves two before)) ++ v ∷ q.rest) =
    subst (λ l. AgreesWith l (fed_moves (moves_of name (moves two before)) ++ v ∷ q.rest))
    (ap₂ (λ l b. l ++ pieces b name done) (sym first) (sym same_open) ∙ p.words
    ∙ ap (λ ms. fed_moves ms ++ w ∷ p.rest) same)
    (subst (λ l. AgreesWith (words_left q.first.stream ++ pieces opened name done) l) q.words
    (agree_front (words_left q.first.stream) (pieces opened name done)
    (pieces opened name before) cut)) in
    agree_first w v p.rest q.rest
    (agree_after (fed_moves (moves_of name (moves two before))) (w ∷ p.rest) (v ∷ q.rest) fed)

-- The moves of a run up to an event, the event's move, and the rest.
moves_cut : (chip : Chip) (done rest : List Event) (event : Event) (name : ℕ) (m : Move)
    → moves_of name (move_in (ran chip done) event) ≡ m ∷ []
    → moves_of name (moves chip (done ++ event ∷ rest)) ≡ moves_of name (moves chip done) ++ m
    ∷ moves_of name (moves (happened (ran chip done) event) rest)
moves_cut chip done rest event name m now =
    ap (moves_of name) (moves-append chip done (event ∷ rest))
    ∙ moves_of-append name (moves chip done) (moves (ran chip done) (event ∷ rest))
    ∙ ap (λ l. moves_of name (moves chip done) ++ l) (moves_of-append name
    (move_in (ran chip done) event) (moves (happened (ran chip done) event) rest)
    ∙ ap (λ l. l ++ moves_of name (moves (happened (ran chip done) event) rest)) now)

abbrev picks : List Move → List Side
picks ms = flat_map (λ move. move.picked) ms

-- the next move of a node in one run is the one that it makes after the same moves in the second
-- run
same_next : (one two : Chip) (done rest others : List Event) (event : Event) (name : ℕ) (m y : Move)
    (r : List Move) → IsLegal one → IsLegal two → DifferInBreaks one two
    → AgreesWith (sides_of one (done ++ event ∷ rest) name) (sides_of two others name)
    → AgreesWith (words_fed one (done ++ event ∷ rest) name) (words_fed two others name)
    → ((n : ℕ) → AgreesWith (moves_of n (moves one done)) (moves_of n (moves two others)))
    → moves_of name (move_in (ran one done) event) ≡ m ∷ []
    → moves_of name (moves two others) ≡ moves_of name (moves one done) ++ y ∷ r → m ≡ y
same_next one two done rest others event name m y r legal legal' differ sides given agree now next =
    let mo = moment two others name (moves_of name (moves one done)) y r next in
    let a = makes_event (ran one done) event name m now in
    let b = makes_event (ran two mo.before) mo.event name y mo.now in
    let front : List Side = picks (moves_of name (moves one done)) in
    let xs : List Side = picks (moves_of name (moves (happened (ran one done) event) rest)) in
    let cut : sides_of one (done ++ event ∷ rest) name ≡ front ++ (m.picked ++ xs) =
    ap picks (moves_cut one done rest event name m now)
    ∙ flat_map-append (λ move. move.picked) (moves_of name (moves one done))
    (m ∷ moves_of name (moves (happened (ran one done) event) rest)) in
    let cut' : sides_of two others name ≡ front ++ (y.picked ++ picks r) = ap picks next
    ∙ flat_map-append (λ move. move.picked) (moves_of name (moves one done)) (y ∷ r) in
    let legal_now = legal_ran one done legal in
    let named : IsNodeName name = has_name (ran one done) name a.part legal_now a.there in
    same_move (ran one done) (ran two mo.before) name m y a b
    (alike_later one two done mo.before name a.part b.part legal legal' differ
    (sym mo.so_far) a.there b.there)
    xs (picks r)
    (agree_after front (m.picked ++ xs) (y.picked ++ picks r) (subst (λ l. AgreesWith (front
    ++ (m.picked ++ xs)) l) cut' (subst (λ l. AgreesWith l (sides_of two others name)) cut sides)))
    (λ side cell w v q is is'.
    let fits : Fits (Take side cell) (need_of a.part.state) a.part.state.node =
    subst (λ p. Fits p (need_of a.part.state) a.part.state.node) q a.fits in
    same_word one two done mo.before (mo.event ∷ mo.later) name cell w v side legal legal' differ
    (λ n. subst (λ es. AgreesWith (moves_of n (moves one done)) (moves_of n (moves two es))) mo.cut
    (agree n))
    (sym mo.so_far) named
    (ap (λ n. read_cell n side) (sym (legal_now.named name a.part a.there)) ∙ fits.1) is is')
    (λ w v e f. same_fed one two done rest mo.before (mo.event ∷ mo.later) event name m y w v a b
    legal legal' differ (subst (λ es. AgreesWith (words_fed one (done ++ event ∷ rest) name)
    (words_fed two es name)) mo.cut given) (sym mo.so_far) e f)

-- runs whose moves agree up to an event agree after it
agree_more : (one two : Chip) (done rest others : List Event) (event : Event) → IsLegal one
    → IsLegal two → DifferInBreaks one two
    → ((n : ℕ) → AgreesWith (sides_of one (done ++ event ∷ rest) n) (sides_of two others n))
    → ((n : ℕ) → AgreesWith (words_fed one (done ++ event ∷ rest) n) (words_fed two others n))
    → ((n : ℕ) → AgreesWith (moves_of n (moves one done)) (moves_of n (moves two others)))
    → (name : ℕ)
    → AgreesWith (moves_of name (moves one (done ++ event ∷ []))) (moves_of name (moves two others))
agree_more one two done rest others event legal legal' differ sides given agree name =
    by (one_at_most (ran one done) event name)
  where
    by : (moves_of name (move_in (ran one done) event) ≡ [])
        ⊎ ((m : Move) × (moves_of name (move_in (ran one done) event) ≡ m ∷ [])) → AgreesWith
        (moves_of name (moves one (done ++ event ∷ []))) (moves_of name (moves two others))
    by (inl none) =
        let same : moves_of name (moves one (done ++ event ∷ [])) ≡ moves_of name (moves one done) =
        ap (moves_of name) (moves-append one done (event ∷ []))
        ∙ moves_of-append name (moves one done) (move_in (ran one done) event ++ [])
        ∙ ap (λ l. moves_of name (moves one done) ++ l)
        (ap (moves_of name) (append-nil (move_in (ran one done) event)) ∙ none) ∙ append-nil _ in
        subst (λ l. AgreesWith l (moves_of name (moves two others))) (sym same) (agree name)
    by (inr (m, now)) =
        subst (λ l. AgreesWith l (moves_of name (moves two others)))
        (sym (moves_cut one done [] event name m now))
        (agree_push (moves_of name (moves one done)) (moves_of name (moves two others)) m
        (agree name) (λ y r next. same_next one two done rest others event name m y r legal legal'
        differ (sides name) (given name) agree now next))

agree_on : (one two : Chip) (done rest others : List Event) → IsLegal one → IsLegal two
    → DifferInBreaks one two
    → ((n : ℕ) → AgreesWith (sides_of one (done ++ rest) n) (sides_of two others n))
    → ((n : ℕ) → AgreesWith (words_fed one (done ++ rest) n) (words_fed two others n))
    → ((n : ℕ) → AgreesWith (moves_of n (moves one done)) (moves_of n (moves two others)))
    → (name : ℕ)
    → AgreesWith (moves_of name (moves one (done ++ rest))) (moves_of name (moves two others))
agree_on one two done [] others legal legal' differ sides given agree name =
    subst (λ es. AgreesWith (moves_of name (moves one es)) (moves_of name (moves two others)))
    (sym (append-nil done)) (agree name)
agree_on one two done (event ∷ rest) others legal legal' differ sides given agree name =
    subst (λ es. AgreesWith (moves_of name (moves one es)) (moves_of name (moves two others)))
    (append_assoc done (event ∷ []) rest)
    (agree_on one two (done ++ event ∷ []) rest others legal legal' differ
    (λ n. subst (λ es. AgreesWith (sides_of one es n) (sides_of two others n))
    (sym (append_assoc done (event ∷ []) rest)) (sides n))
    (λ n. subst (λ es. AgreesWith (words_fed one es n) (words_fed two others n))
    (sym (append_assoc done (event ∷ []) rest)) (given n))
    (agree_more one two done rest others event legal legal' differ sides given agree) name)

-- THE MOVES AGREE: each node makes the same moves in two runs, on their common steps
pub moves_agree : (one two : Chip) (events others : List Event) → IsLegal one → IsLegal two
    → DifferInBreaks one two
    → ((n : ℕ) → AgreesWith (sides_of one events n) (sides_of two others n))
    → ((n : ℕ) → AgreesWith (words_fed one events n) (words_fed two others n)) → (name : ℕ)
    → AgreesWith (moves_of name (moves one events)) (moves_of name (moves two others))
moves_agree one two events others legal legal' differ sides given name =
    agree_on one two [] events others legal legal' differ sides given
    (λ n. inl (moves_of n (moves two others), refl)) name

-- the first k of two lists that agree are the same
take_agree : {A : Type 0} (k : ℕ) (xs ys : List A) → AgreesWith xs ys → k ≤ length xs
    → k ≤ length ys → take k xs ≡ take k ys
take_agree k xs ys (inl (rest, e)) h h' = sym (take-append-le k xs rest h) ∙ ap (take k) (sym e)
take_agree k xs ys (inr (rest, e)) h h' = ap (take k) e ∙ take-append-le k ys rest h'

-- each node is in equal states after equally many moves
nodes_agree : (one two : Chip) (events others : List Event) (name k : ℕ) (here there : State)
    → IsLegal one → IsLegal two → DifferInBreaks one two
    → AgreesWith (moves_of name (moves one events)) (moves_of name (moves two others))
    → node_after one events name k ≡ Some here → node_after two others name k ≡ Some there
    → here ≡ there
nodes_agree one two events others name k here there legal legal' differ agree e f =
    let a = stands_after_moves one events name k here legal e in
    let b = stands_after_moves two others name k there legal' f in
    a.stands
    ∙ ap₂ replay (alike_first one two name a.part b.part differ a.there b.there) (take_agree k
    (moves_of name (moves one events)) (moves_of name (moves two others)) agree a.many b.many)
    ∙ sym b.stands

fed_agree : (one two : Chip) (events others : List Event) (name k : ℕ) (here there : State)
    → IsLegal one → IsLegal two
    → AgreesWith (moves_of name (moves one events)) (moves_of name (moves two others))
    → node_after one events name k ≡ Some here → node_after two others name k ≡ Some there
    → input_after one events name k ≡ input_after two others name k
fed_agree one two events others name k here there legal legal' agree e f =
    let a = stands_after_moves one events name k here legal e in
    let b = stands_after_moves two others name k there legal' f in
    ap fed_moves (take_agree k (moves_of name (moves one events))
    (moves_of name (moves two others)) agree a.many b.many)

none_left : (m n : ℕ) → m ≡ m + n → n ≡ 0
none_left m n e = omega arith

same_rest : (k m n : ℕ) → k + m ≡ k + n → m ≡ n
same_rest k m n e = omega arith

-- lists that agree and are equally long are the same
agree_long : {A : Type 0} (xs ys : List A) → AgreesWith xs ys → length xs ≡ length ys → xs ≡ ys
agree_long xs ys (inl (rest, e)) h =
    sym (append-nil xs) ∙ ap (λ l. xs ++ l) (sym (nil_from_length rest
    (none_left (length xs) (length rest) (h ∙ ap (λ l. length l) e ∙ length-append xs rest))))
    ∙ sym e
agree_long xs ys (inr (rest, e)) h =
    e ∙ ap (λ l. ys ++ l) (nil_from_length rest
    (none_left (length ys) (length rest) (sym h ∙ ap (λ l. length l) e ∙ length-append ys rest)))
    ∙ append-nil ys

-- a node that ends with equally many steps made the same moves
same_moves : (one two : Chip) (events others : List Event) (name : ℕ) (p q : Part) → IsLegal one
    → IsLegal two → DifferInBreaks one two
    → AgreesWith (moves_of name (moves one events)) (moves_of name (moves two others))
    → part_of (ran one events) name ≡ Some p → part_of (ran two others) name ≡ Some q
    → p.state.steps ≡ q.state.steps
    → moves_of name (moves one events) ≡ moves_of name (moves two others)
same_moves one two events others name p q legal legal' differ agree here there steps =
    let first = part_first one events name p legal here in
    let first' = part_first two others name q legal' there in
    let run = stand_ran one events name first.0 legal first.1 in
    let run' = stand_ran two others name first'.0 legal' first'.1 in
    let p_is : p ≡ run.now = same_Some p run.now (sym here ∙ run.there) in
    let q_is : q ≡ run'.now = same_Some q run'.now (sym there ∙ run'.there) in
    let start : first.0.state ≡ first'.0.state =
    alike_first one two name first.0 first'.0 differ first.1 first'.1 in
    let many : first'.0.state.steps + length (moves_of name (moves one events))
    ≡ first'.0.state.steps + length (moves_of name (moves two others)) =
    ap (λ s. s.steps + length (moves_of name (moves one events))) (sym start) ∙ sym run.steps
    ∙ ap (λ x. x.state.steps) (sym p_is) ∙ steps ∙ ap (λ x. x.state.steps) q_is ∙ run'.steps in
    agree_long (moves_of name (moves one events)) (moves_of name (moves two others)) agree
    (same_rest first'.0.state.steps _ _ many)

-- the same words are left of a stream to which equal words came, after equal moves
same_left : (one two : Chip) (events others : List Event) (name : ℕ) (p q : Part) → IsLegal one
    → IsLegal two → DifferInBreaks one two
    → moves_of name (moves one events) ≡ moves_of name (moves two others)
    → part_of (ran one events) name ≡ Some p → part_of (ran two others) name ≡ Some q
    → words_fed one events name ≡ words_fed two others name
    → words_left p.stream ≡ words_left q.stream
same_left one two events others name p q legal legal' differ same here there given =
    let first = part_first one events name p legal here in
    let first' = part_first two others name q legal' there in
    let given_here : pieces first.0.opened name events ≡ pieces first'.0.opened name others =
    ap (λ opened. pieces opened name events) (sym (open_there one name first.0 first.1)) ∙ given
    ∙ ap (λ opened. pieces opened name others) (open_there two name first'.0 first'.1) in
    append_cancel_left (input_words two others name) (words_left p.stream) (words_left q.stream)
    (ap (λ ms. fed_moves ms ++ words_left p.stream) (sym same)
    ∙ sym (fed_ran one events name first.0 p legal first.1 here)
    ∙ ap₂ (λ s l. words_left s ++ l)
    (stream_first one two name first.0 first'.0 differ first.1 first'.1) given_here
    ∙ fed_ran two others name first'.0 q legal' first'.1 there)

-- each cell has the same words written and taken
written_agree : (one two : Chip) (events others : List Event) (cell : ℕ) → IsLegal one → IsLegal two
    → ((name : ℕ)
    → AgreesWith (moves_of name (moves one events)) (moves_of name (moves two others)))
    → AgreesWith (written_words one events cell) (written_words two others cell)
written_agree one two events others cell legal legal' agree = by (written_or_none one events cell)
  where
    by : (written_words one events cell ≡ []) ⊎ HasWriter cell
        → AgreesWith (written_words one events cell) (written_words two others cell)
    by (inl none) =
        subst (λ l. AgreesWith l (written_words two others cell)) (sym none)
        (inl (written_words two others cell, refl))
    by (inr (name, side, here)) =
        subst (λ l. AgreesWith (written_words one events cell) l)
        (sym (posts_ran two others name cell side legal' here))
        (subst (λ l. AgreesWith l (posts cell (moves_of name (moves two others))))
        (sym (posts_ran one events name cell side legal here))
        (agree_flat_map (λ move. posted_by cell move.asked) (moves_of name (moves one events))
        (moves_of name (moves two others)) (agree name)))

taken_agree : (one two : Chip) (events others : List Event) (cell : ℕ) → IsLegal one → IsLegal two
    → ((name : ℕ)
    → AgreesWith (moves_of name (moves one events)) (moves_of name (moves two others)))
    → AgreesWith (taken_words one events cell) (taken_words two others cell)
taken_agree one two events others cell legal legal' agree = by (taken_or_none one events cell legal)
  where
    by : (taken_words one events cell ≡ []) ⊎ HasReader cell
        → AgreesWith (taken_words one events cell) (taken_words two others cell)
    by (inl none) =
        subst (λ l. AgreesWith l (taken_words two others cell)) (sym none)
        (inl (taken_words two others cell, refl))
    by (inr (name, side, named, here)) =
        subst (λ l. AgreesWith (taken_words one events cell) l)
        (sym (takes_ran two others name cell side legal' named here))
        (subst (λ l. AgreesWith l (takes cell (moves_of name (moves two others))))
        (sym (takes_ran one events name cell side legal named here))
        (agree_flat_map (λ move. taken_by cell move.asked move.found)
        (moves_of name (moves one events)) (moves_of name (moves two others)) (agree name)))

-- CONFLUENCE
pub confluence : Confluence
confluence one two events others legal legal' differ sides given =
    let agree : (name : ℕ)
    → AgreesWith (moves_of name (moves one events)) (moves_of name (moves two others)) =
    moves_agree one two events others legal legal' differ sides given in
    let same : (name : ℕ) (p q : Part) → part_of (ran one events) name ≡ Some p
    → part_of (ran two others) name ≡ Some q → p.state.steps ≡ q.state.steps → moves_of name
    (moves one events) ≡ moves_of name (moves two others) = λ name p q here there steps.
    same_moves one two events others name p q legal legal' differ (agree name) here there steps in
    record {
      nodes = λ name k here there e f. nodes_agree one two events others name k here there legal
          legal' differ (agree name) e f;
      inputs = λ name k here there e f. fed_agree one two events others name k here there legal
          legal' (agree name) e f;
      ends = λ name p q here there steps. alike_later one two events others name p q legal legal'
          differ (same name p q here there steps) here there;
      ends_inputs = λ name p q here there steps. ap fed_moves (same name p q here there steps);
      left = λ name p q here there steps given. same_left one two events others name p q legal
          legal' differ (same name p q here there steps) here there given;
      written = λ cell. written_agree one two events others cell legal legal' agree;
      taken = λ cell. taken_agree one two events others cell legal legal' agree;
    }
