-- The load: a node that executes from a port stores the words that follow from address 0 on.
use Rattle.std.proofs.Common.{◌≡◌, ℕ, suc, ◌+◌, ◌-◌, ◌≤◌, ◌<◌, List, [], ◌∷◌, ◌++◌, length, drop, replicate, slice_set, Some, refl, sym, ap, ◌∙◌, subst, arith}
use Rattle.std.proofs.lemmas.Grind.{common_steps}
use Rattle.std.proofs.lemmas.List.{drop-replicate}
use Rattle.ga_word.specs.Op.{op_with}
use Rattle.ga_pack.specs.Decoded.{reading_of}
use Rattle.ga_place.specs.Address.{where_is, advance_of}
use Rattle.ga_place.specs.declared.address.Where.TheVariants as at
use Rattle.ga_place.specs.declared.side.Side.{Side}
use Rattle.ga_node.specs.State.{State, push_data, pop_data, pop_return}
use Rattle.ga_node.specs.declared.place.Place.TheVariants.{Fetch, Slot0, Slot1, Slot2, Slot3}
use Rattle.ga_asm.specs.Image.{ImageView}
use Rattle.ga_path.specs.Sequences.{STORE}
use Rattle.ga_boot.specs.inner.Local.{Local, Own}
use Rattle.ga_boot.specs.inner.Script.{head_moves, store_moves, load_moves}
use Rattle.ga_boot.proofs.Steps.{Way, done, both, at_port, in_slot, literal, nop, stores, repeats, ends_loop, with_a, with_r}
use Rattle.ga_boot.proofs.Pump.{Comes, in_loop, head, less}

pub in_ram : (i : ℕ) → i < 64 → where_is i ≡ at.Ram i
in_ram i h = grind (arith, common_steps)

pub next_in_ram : (i : ℕ) → i < 64 → advance_of i ≡ suc i
next_in_ram i h = grind (arith, common_steps)

-- memory with words put in from an address on
abbrev pub put : ℕ → List ℕ → List ℕ → List ℕ
put i [] ram = ram
put i (word ∷ words) ram = put (suc i) words (slice_set ram i word)

put_past : (i : ℕ) (words ram : List ℕ) (x : ℕ) → put (suc i) words (x ∷ ram) ≡ x ∷ put i words ram
put_past i [] ram x = refl
put_past i (word ∷ words) ram x = put_past (suc i) words (slice_set ram i word) x

-- words put at the front
put_first : (words ram : List ℕ) → length words ≤ length ram
    → put 0 words ram ≡ words ++ drop (length words) ram
put_first [] ram h = refl
put_first (word ∷ words) [] h = absurd (omega arith)
put_first (word ∷ words) (x ∷ ram) h =
    put_past 0 words ram word ∙ ap (λ l. word ∷ l) (put_first words ram (omega arith))

-- memory that begins with words, and then zeros
abbrev pub holding : List ℕ → List ℕ
holding words = words ++ replicate (64 - length words) 0

pub put_zeros : (words : List ℕ) → length words ≤ 64 → put 0 words (replicate 64 0) ≡ holding words
put_zeros words h =
    put_first words (replicate 64 0) h
    ∙ ap (λ l. words ++ l) (drop-replicate {X = ℕ} (length words) 64 0)

-- The node comes along the moves to a state of this form, and leaves its memory so.
pub record Leaves (form : State → State) (state : State) (moves : List Local)
    (ram : List ℕ) : Type 0 where
  pub rest : State
  pub way : Way ⊥ state moves (form rest)
  pub memory : rest.ram ≡ ram

-- each word is stored, at one address after the other
puts : (side : Side) (word : ℕ) (words : List ℕ) (i : ℕ) (state : State)
    → i + length (word ∷ words) ≤ 64
    → Leaves (in_slot side STORE Fetch) (in_loop side i (length words) STORE state)
    (store_moves side (word ∷ words)) (put i (word ∷ words) state.ram)
unfolding reading_of op_with
puts side word [] i state h =
    let there : where_is i ≡ at.Ram i = in_ram i (omega arith) in
    let one = record (pop_data (push_data word (with_a i (with_r 0 state))))
    { ram = slice_set state.ram i word; a = advance_of i } in
    record {
      rest = pop_return one;
      way =
          literal side STORE word Slot0 (with_a i (with_r 0 state)) _ _ tt refl (
          stores side STORE i Slot1 (push_data word (with_a i (with_r 0 state))) _ _
          (λ p. p) tt refl there (
          ends_loop side STORE Slot2 one _ _ tt refl (
          nop side STORE Slot3 (pop_return one) _ _ tt refl (done _))));
      memory = refl;
    }
puts side word (next ∷ words) i state h =
    let there : where_is i ≡ at.Ram i = in_ram i (omega arith) in
    let start = with_a i (with_r (length (next ∷ words)) state) in
    let one =
    record (pop_data (push_data word start)) { ram = slice_set state.ram i word; a = suc i } in
    let more = puts side next words (suc i) one (omega arith) in
    let on : Way ⊥ (in_slot side STORE Slot2
    (record (pop_data (push_data word start)) { ram = slice_set state.ram i word; a = suc i }))
    (Own ∷ store_moves side (next ∷ words)) (in_slot side STORE Fetch more.rest) =
    repeats side STORE (length words) Slot2 one _ _ tt refl more.way in
    record {
      rest = more.rest;
      way =
          literal side STORE word Slot0 start _ _ tt refl (
          stores side STORE i Slot1 (push_data word start) _ _ (λ p. p) tt refl there (
          subst (λ n. Way ⊥ (in_slot side STORE Slot2 (record (pop_data (push_data word start))
          { ram = slice_set state.ram i word; a = n })) (Own ∷ store_moves side (next ∷ words))
          (in_slot side STORE Fetch more.rest)) (sym (next_in_ram i (omega arith))) on));
      memory = more.memory;
    }

-- THE LOAD of at least one word and at most 64 into memory of zeros
pub loads : (side : Side) (word : ℕ) (words : List ℕ) (image : ImageView) (state : State)
    → image.words ≡ word ∷ words → length (word ∷ words) ≤ 64 → state.ram ≡ replicate 64 0
    → Leaves (at_port side) (at_port side state) (load_moves side (Some image))
    (holding (word ∷ words))
loads side word words image state is h zeros =
    let one : Comes ⊥ (in_loop side 0 (length words) STORE) (at_port side state)
    (head_moves side 0 (length words) STORE) = head side 0 (length words) STORE state in
    let two = puts side word words 0 one.rest (omega arith) in
    let first : Way ⊥ (at_port side state) (head_moves side 0 (length (word ∷ words) - 1) STORE)
    (in_loop side 0 (length words) STORE one.rest) =
    subst (λ n. Way ⊥ (at_port side state) (head_moves side 0 n STORE)
    (in_loop side 0 (length words) STORE one.rest)) (sym (less (length words))) one.way in
    record {
      rest = record two.rest { word = STORE };
      way = subst (λ l. Way ⊥ (at_port side state) (head_moves side 0 (length l - 1) STORE
          ++ store_moves side l) (at_port side (record two.rest { word = STORE }))) (sym is)
          (both _ _ _ (head_moves side 0 (length (word ∷ words) - 1) STORE)
          (store_moves side (word ∷ words)) first two.way);
      memory =
          two.memory ∙ ap (put 0 (word ∷ words)) (one.ram ∙ zeros) ∙ put_zeros (word ∷ words) h;
    }
