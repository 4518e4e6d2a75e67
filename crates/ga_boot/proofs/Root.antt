-- The root, whose loader is fed by the stream.
use Rattle.ga_path.specs.declared.parts.Part.{Part as BootPart}
use Rattle.std.proofs.Common.{◌≡◌, ℕ, suc, ◌+◌, ◌-◌, ◌%◌, ◌≤◌, ◌<◌, ◌==◌, ◌^◌, Bool, false, List, [], ◌∷◌, length, map, replicate, slice_set, Some, None, refl, sym, ap, ◌∙◌, subst, arith}
use Rattle.std.specs.Prelude.{if◌then◌else◌}
use Rattle.std.proofs.lemmas.Bool.{ne_eqb}
use Rattle.std.proofs.lemmas.Grind.{common_steps}
use Rattle.ga_place.specs.Address.{port_address_of, where_is}
use Rattle.ga_place.specs.declared.side.Side.{Side}
use Rattle.ga_place.specs.declared.side.Side.TheVariants.{Right, Down, Left, Up}
use Rattle.ga_node.specs.State.{State}
use Rattle.ga_node.specs.Need.{write_need, held_need, input_need}
use Rattle.ga_node.specs.Loader.{MORE, frame_ended, with_left, word_done, body_taken, body_posted}
use Rattle.ga_node.specs.declared.need.Need.TheVariants as need
use Rattle.ga_node.specs.declared.place.Place.TheVariants.{Completion, Transfer, Count, Body}
use Rattle.ga_path.specs.Sequences.{Grove, Bare, Tree, sent, pumps, frame}
use Rattle.ga_boot.specs.inner.Local.{Local, Feed, Post, Check}
use Rattle.ga_boot.specs.inner.Script.{post_moves, frame_moves, subtree_frames}
use Rattle.ga_boot.proofs.Steps.{Way, done, move, both, fetching, not_zero}
use Rattle.ga_boot.proofs.Pump.{Comes}
use Rattle.ga_boot.proofs.Store.{Leaves, in_ram, next_in_ram, put, put_zeros, holding}
use Rattle.ga_boot.proofs.Node.{some_word}

-- about to take a frame's completion
abbrev pub waiting : State → State
waiting state =
    record state { place = Completion; posted = None; loader = record state.loader { held = None } }

-- in a frame's body, with n words left
abbrev pub in_body : ℕ → ℕ → State → State
in_body transfer left state = record state {
  place = Body;
  posted = None;
  loader = record { completion = MORE; transfer = transfer; left = left; held = None };
}

more_than_one : (n : ℕ) → (suc (suc n) == 1) ≡ false
more_than_one n = ne_eqb (suc (suc n)) 1 (λ e. absurd (apart n e))
  where
    apart : (k : ℕ) → suc (suc k) ≡ 1 → ⊥
    apart k e = omega arith

one_less : (n : ℕ) → suc (suc n) - 1 ≡ suc n
one_less n = omega arith

-- behind a word of the body
last_word : (transfer : ℕ) (state : State)
    → word_done (in_body transfer 1 state) ≡ waiting (in_body transfer 0 state)
last_word transfer state = refl

a_word : (transfer n : ℕ) (state : State)
    → word_done (in_body transfer (suc (suc n)) state) ≡ in_body transfer (suc n) state
a_word transfer n state =
    pick (suc (suc n) == 1) _ _ (more_than_one n) ∙ ap (λ k. in_body transfer k state) (one_less n)
  where
    pick : (b : Bool) (x y : State) → b ≡ false → (if b then x else y) ≡ y
    pick b x y e = rw e refl

-- the head of a frame that has words
head : {P : Type 0} (transfer count : ℕ) (state end : State) (moves : List Local)
    → Way P (in_body transfer (suc count) state) moves end
    → Way P (waiting state) (Feed MORE ∷ Feed transfer ∷ Feed (suc count) ∷ moves) end
head transfer count state end moves way =
    let one = record (waiting state)
    { place = Transfer; loader = record state.loader { completion = MORE; held = None } } in
    let two = record (waiting state) {
      place = Count;
      loader = record state.loader { completion = MORE; transfer = transfer; held = None };
    } in
    move (waiting state) one _ (Feed MORE) _ refl refl (λ p. refl) (
    move one two _ (Feed transfer) _ refl refl (λ p. refl) (
    move two (in_body transfer (suc count) state) _ (Feed (suc count)) _ refl
    (counted (suc count == 0) (not_zero count)) (λ p. refl) way))
  where
    counted : (b : Bool) → b ≡ false → (if b then frame_ended (with_left 0 (record (waiting state) {
      place = Count;
      loader = record state.loader { completion = MORE; transfer = transfer; held = None };
    })) else in_body transfer (suc count) state) ≡ in_body transfer (suc count) state
    counted b e = rw e refl

-- a word is taken, posted, and seen to be read
abbrev held_at : Side → ℕ → ℕ → State → State
held_at out word left state =
    record (in_body (port_address_of out) left state) {
      loader =
          record
          { completion = MORE; transfer = port_address_of out; left = left; held = Some word };
    }

abbrev check_at : Side → ℕ → ℕ → State → State
check_at out word left state =
    record (in_body (port_address_of out) left state) { posted = Some (out, word) }

input_wants : (out : Side) → input_need (write_need (where_is (port_address_of out)) 0) ≡ need.Input
input_wants Right = refl
input_wants Down = refl
input_wants Left = refl
input_wants Up = refl

input_moved : (out : Side) (word left : ℕ) (state : State)
    → body_taken (where_is (port_address_of out)) word (in_body (port_address_of out) left state)
    ≡ held_at out word left state
input_moved Right word left state = refl
input_moved Down word left state = refl
input_moved Left word left state = refl
input_moved Up word left state = refl

post_wants : (out : Side) (word : ℕ)
    → held_need (where_is (port_address_of out)) word ≡ need.Post out word
post_wants Right word = refl
post_wants Down word = refl
post_wants Left word = refl
post_wants Up word = refl

post_moved : (out : Side) (word left : ℕ) (state : State)
    → body_posted (where_is (port_address_of out)) word (held_at out word left state)
    ≡ check_at out word left state
post_moved Right word left state = refl
post_moved Down word left state = refl
post_moved Left word left state = refl
post_moved Up word left state = refl

passes : {P : Type 0} (out : Side) (word left : ℕ) (state next end : State) (moves : List Local)
    → word_done (in_body (port_address_of out) left state) ≡ next → (P → next.ram ≡ state.ram)
    → Way P next moves end → Way P (in_body (port_address_of out) left state)
    (Feed word ∷ Post out word ∷ Check out ∷ moves) end
passes out word left state next end moves e same way =
    move (in_body (port_address_of out) left state) (held_at out word left state) _ (Feed word) _
    (input_wants out) (input_moved out word left state) (λ p. refl) (
    move (held_at out word left state) (check_at out word left state) _ (Post out word) _
    (post_wants out word) (post_moved out word left state) (λ p. refl) (
    move (check_at out word left state) next _ (Check out) _ refl e same way))

sends : {P : Type 0} (out : Side) (word : ℕ) (words : List ℕ) (state : State) → Comes P waiting
    (in_body (port_address_of out) (length (word ∷ words)) state) (post_moves out (word ∷ words))
sends out word [] state = record {
  rest = in_body (port_address_of out) 0 state;
  way = passes out word 1 state (waiting (in_body (port_address_of out) 0 state)) _ _
      (last_word (port_address_of out) state) (λ p. refl) (done _);
  ram = refl;
}
sends out word (next ∷ words) state =
    let more = sends out next words state in
    record {
      rest = more.rest;
      way = passes out word (suc (length (next ∷ words))) state
          (in_body (port_address_of out) (length (next ∷ words)) state) _ _
          (a_word (port_address_of out) (length words) state) (λ p. refl) more.way;
      ram = more.ram;
    }

-- A FRAME TO A PORT
sends_frame : {P : Type 0} (out : Side) (word : ℕ) (words : List ℕ) (state : State)
    → Comes P waiting (waiting state) (frame_moves out (word ∷ words))
sends_frame out word words state =
    let one = sends out word words state in
    record {
      rest = one.rest;
      way = head (port_address_of out) (length words) state _ _ one.way;
      ram = one.ram;
    }

-- THE FRAMES of the subtrees
pub sends_frames : {P : Type 0} (part : BootPart) (trees : Grove) (state : State)
    → Comes P waiting (waiting state) (subtree_frames part trees)
sends_frames part Bare state = record { rest = state; way = done _; ram = refl }
sends_frames {P} part (Tree name out image inner beside) state =
    let some = some_word part name out image (pumps part inner) in
    let one : Comes P waiting (waiting state)
    (frame_moves out (sent part name out image (pumps part inner))) = subst (λ l. Comes P waiting
    (waiting state) (frame_moves out l)) (sym some.2) (sends_frame out some.0 some.1 state) in
    let rest : Comes P waiting (waiting one.rest) (subtree_frames part beside) =
    sends_frames part beside one.rest in
    record {
      rest = rest.rest;
      way = both _ _ _ (frame_moves out (sent part name out image (pumps part inner)))
          (subtree_frames part beside) one.way rest.way;
      ram = rest.ram ∙ one.ram;
    }

-- a word of the body goes into memory
body_wants : (i : ℕ) → i < 64 → input_need (write_need (where_is i) 0) ≡ need.Input
body_wants i h = ap (λ w. input_need (write_need w 0)) (in_ram i h)

abbrev put_one : ℕ → ℕ → State → State
put_one i word state = record state { ram = slice_set state.ram i word }

put_last : (i word : ℕ) (state : State) → i < 64 → body_taken (where_is i) word (in_body i 1 state)
    ≡ waiting (in_body (suc i) 0 (put_one i word state))
put_last i word state h =
    ap (λ w. body_taken w word (in_body i 1 state)) (in_ram i h)
    ∙ ap (λ n. word_done (in_body n 1 (put_one i word state))) (next_in_ram i h)
    ∙ last_word (suc i) (put_one i word state)

put_next : (i word n : ℕ) (state : State) → i < 64 → body_taken (where_is i) word
    (in_body i (suc (suc n)) state) ≡ in_body (suc i) (suc n) (put_one i word state)
put_next i word n state h =
    ap (λ w. body_taken w word (in_body i (suc (suc n)) state)) (in_ram i h)
    ∙ ap (λ k. word_done (in_body k (suc (suc n)) (put_one i word state))) (next_in_ram i h)
    ∙ a_word (suc i) n (put_one i word state)

puts : (word : ℕ) (words : List ℕ) (i : ℕ) (state : State) → i + length (word ∷ words) ≤ 64
    → Leaves waiting (in_body i (length (word ∷ words)) state)
    (map Feed (word ∷ words)) (put i (word ∷ words) state.ram)
puts word [] i state h = record {
  rest = in_body (suc i) 0 (put_one i word state);
  way = move (in_body i 1 state) (waiting (in_body (suc i) 0 (put_one i word state))) _ (Feed word)
      _ (body_wants i (omega arith)) (put_last i word state (omega arith)) (λ p. absurd p) (done _);
  memory = refl;
}
puts word (next ∷ words) i state h =
    let more = puts next words (suc i) (put_one i word state) (omega arith) in
    record {
      rest = more.rest;
      way = move (in_body i (length (word ∷ next ∷ words)) state)
          (in_body (suc i) (length (next ∷ words)) (put_one i word state)) _ (Feed word) _
          (body_wants i (omega arith)) (put_next i word (length words) state (omega arith))
          (λ p. absurd p) more.way;
      memory = more.memory;
    }

-- THE LAST FRAME of the load part
pub loads_root : (words : List ℕ) (state : State) → length words ≤ 64 → state.ram ≡ replicate 64 0
    → Leaves waiting (waiting state) (map Feed (frame MORE 0 words)) (holding words)
loads_root [] state h zeros =
    let one = record (waiting state)
    { place = Transfer; loader = record state.loader { completion = MORE; held = None } } in
    let two = record (waiting state)
    { place = Count; loader = record state.loader { completion = MORE; transfer = 0; held = None } }
    in
    let three = record (waiting state)
    { loader = record { completion = MORE; transfer = 0; left = 0; held = None } } in
    record {
      rest = three;
      way = move (waiting state) one _ (Feed MORE) _ refl refl (λ p. refl) (move one two _ (Feed 0)
          _ refl refl (λ p. refl) (move two three _ (Feed 0) _ refl refl (λ p. refl) (done _)));
      memory = zeros;
    }
loads_root (word ∷ words) state h zeros =
    let more = puts word words 0 state (omega arith) in
    record {
      rest = more.rest;
      way = head 0 (length words) state _ _ more.way;
      memory = more.memory ∙ ap (put 0 (word ∷ words)) zeros ∙ put_zeros (word ∷ words) h;
    }

-- THE LAST FRAME of the start part: P is the root's start address. No root starts at 0AE, which
-- would announce another frame.
pub starts_root : {P : Type 0} (address : ℕ) (state : State) → address < 2 ^ 10
    → (address == MORE) ≡ false
    → Comes P (fetching address) (waiting state) (map Feed (frame address 0 []))
starts_root address state low other =
    let one = record (waiting state)
    { place = Transfer; loader = record state.loader { completion = address; held = None } } in
    let two = record (waiting state) {
      place = Count;
      loader = record state.loader { completion = address; transfer = 0; held = None };
    } in
    let three = record state
    { loader = record { completion = address; transfer = 0; left = 0; held = None } } in
    record {
      rest = three;
      way = move (waiting state) one _ (Feed address) _ refl refl (λ p. refl)
          (move one two _ (Feed 0) _ refl refl (λ p. refl) (move two (fetching address three) _
          (Feed 0) _ refl (ended (address == MORE) other) (λ p. refl) (done _)));
      ram = refl;
    }
  where
    low_ten : address % 2 ^ 10 ≡ address
    low_ten = grind (arith, common_steps, low)

    ended : (b : Bool) → b ≡ false → (if b then waiting (record state
        { loader = record { completion = address; transfer = 0; left = 0; held = None } })
        else fetching (address % 2 ^ 10) (record state {
          place = Count;
          loader = record { completion = address; transfer = 0; left = 0; held = None };
        })) ≡ fetching address (record state
        { loader = record { completion = address; transfer = 0; left = 0; held = None } })
    ended b e =
        rw e (ap (λ n. fetching n (record state
        { loader = record { completion = address; transfer = 0; left = 0; held = None } })) low_ten)
