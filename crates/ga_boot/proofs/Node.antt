-- The whole of a booting node: it goes along its script, its memory is its image when its load is
-- taken, and it begins at its address.
use Rattle.ga_path.specs.declared.parts.Part.{Part}
use Rattle.ga_path.specs.declared.parts.Part.TheVariants.{Load, Start}
use Rattle.std.proofs.Common.{◌≡◌, ℕ, ◌≤◌, ◌<◌, ◌^◌, true, List, [], ◌∷◌, ◌++◌, length, replicate, Option, Some, None, refl, sym, ◌∙◌, subst, arith}
use Rattle.ga_place.specs.Address.{port_address_of}
use Rattle.ga_place.specs.Side.{has_side}
use Rattle.ga_place.specs.declared.side.Side.{Side}
use Rattle.ga_node.specs.State.{State}
use Rattle.ga_node.specs.Slot.{moved}
use Rattle.ga_node.specs.declared.place.Place.TheVariants.{Slot0}
use Rattle.ga_asm.specs.Image.{ImageView}
use Rattle.ga_path.specs.Sequences.{Grove, Bare, Tree, NOPS, jump_to, load, sent, pumps, start_address, image_words}
use Rattle.ga_boot.specs.Tree.{HasRoom}
use Rattle.ga_boot.specs.inner.Local.{Own, Take}
use Rattle.ga_boot.specs.inner.Script.{pump_moves, load_moves, subtree_moves, start_script}
use Rattle.ga_boot.proofs.Steps.{Way, done, both, at_port, in_slot, fetches, fetching}
use Rattle.ga_boot.proofs.Pump.{Comes, pumps_on, closes}
use Rattle.ga_boot.proofs.Store.{Leaves, holding, loads}
use Rattle.ga_boot.proofs.Idle.{idle, focuses, starts}

not_none : (front : List ℕ) (last : ℕ)
    → (word : ℕ) × (words : List ℕ) × (front ++ last ∷ [] ≡ word ∷ words)
not_none [] last = (last, [], refl)
not_none (word ∷ words) last = (word, words ++ last ∷ [], refl)

-- what a node is sent is no empty list
pub some_word : (part : Part) (name : ℕ) (side : Side) (image : Option ImageView) (inner : List ℕ)
    → (word : ℕ) × (words : List ℕ) × (sent part name side image inner ≡ word ∷ words)
some_word Load name side image inner =
    (jump_to (port_address_of side), inner ++ (load image ++ NOPS ∷ []), refl)
some_word Start name side image inner = not_none inner (jump_to (start_address name image))

-- the pumps of the subtrees
pub sends_subtrees : {P : Type 0} (part : Part) (side : Side) (inner : Grove) (state : State)
    → Comes P (at_port side) (at_port side state) (subtree_moves part side inner)
sends_subtrees part side Bare state = record { rest = state; way = done _; ram = refl }
sends_subtrees {P} part side (Tree name out image inner beside) state =
    let some = some_word part name out image (pumps part inner) in
    let one : Comes P (at_port side) (at_port side state)
    (pump_moves side out (sent part name out image (pumps part inner))) =
    subst (λ l. Comes P (at_port side) (at_port side state) (pump_moves side out l)) (sym some.2)
    (pumps_on side out some.0 some.1 state) in
    let rest : Comes P (at_port side) (at_port side one.rest) (subtree_moves part side beside) =
    sends_subtrees part side beside one.rest in
    record {
      rest = rest.rest;
      way = both _ _ _ (pump_moves side out (sent part name out image (pumps part inner)))
          (subtree_moves part side beside) one.way rest.way;
      ram = rest.ram ∙ one.ram;
    }

-- the image, or none
load_by : (side : Side) (image : ImageView) (words : List ℕ) (state : State) → image.words ≡ words
    → 1 ≤ length words → length words ≤ 64 → state.ram ≡ replicate 64 0
    → Leaves (at_port side) (at_port side state) (load_moves side (Some image)) (holding words)
load_by side image [] state e h k zeros = absurd (omega arith)
load_by side image (word ∷ words) state e h k zeros = loads side word words image state e k zeros

loads_image : (side : Side) (image : Option ImageView) (state : State) → HasRoom image
    → state.ram ≡ replicate 64 0 → Leaves (at_port side) (at_port side state)
    (load_moves side image) (holding (image_words image))
loads_image side None state h zeros = record { rest = state; way = done _; memory = zeros }
loads_image side (Some image) state h zeros =
    load_by side image image.words state refl h.some h.most zeros

-- THE LOAD of a node that waits for a word from any side
pub loads_node : (name : ℕ) (side : Side) (image : Option ImageView) (inner : Grove) (state : State)
    → has_side name side ≡ true → HasRoom image → state.ram ≡ replicate 64 0
    → Leaves (in_slot side NOPS Slot0)
    (moved (idle name state) (Some (jump_to (port_address_of side))))
    (Own ∷ (subtree_moves Load side inner ++ (load_moves side image ++ Take side NOPS ∷ [])))
    (holding (image_words image))
loads_node name side image inner state has h zeros =
    let first : State = moved (idle name state) (Some (jump_to (port_address_of side))) in
    let one : Comes ⊥ (at_port side) first (Own ∷ []) = focuses name side state has in
    let two : Comes ⊥ (at_port side) (at_port side one.rest) (subtree_moves Load side inner) =
    sends_subtrees Load side inner one.rest in
    let three = loads_image side image two.rest h (two.ram ∙ one.ram ∙ zeros) in
    let last : Way ⊥ (at_port side three.rest) (Take side NOPS ∷ [])
    (in_slot side NOPS Slot0 three.rest) = fetches side NOPS three.rest _ _ (done _) in
    record {
      rest = three.rest;
      way = both _ _ _ (Own ∷ [])
          (subtree_moves Load side inner ++ (load_moves side image ++ Take side NOPS ∷ [])) one.way
          (both _ _ _ (subtree_moves Load side inner)
          (load_moves side image ++ Take side NOPS ∷ []) two.way
          (both _ _ _ (load_moves side image) (Take side NOPS ∷ []) three.way last));
      memory = three.memory;
    }

-- THE START of a loaded node
pub starts_node : (name : ℕ) (side : Side) (image : Option ImageView) (inner : Grove)
    (state : State) → start_address name image < 2 ^ 10
    → Comes (Unit {0}) (fetching (start_address name image)) (in_slot side NOPS Slot0 state)
    (start_script name side image inner)
starts_node name side image inner state low =
    let two : Comes (Unit {0}) (at_port side) (at_port side (record state { word = NOPS }))
    (subtree_moves Start side inner) =
    sends_subtrees Start side inner (record state { word = NOPS }) in
    let three : Comes (Unit {0}) (fetching (start_address name image)) (at_port side two.rest)
    (Take side (jump_to (start_address name image)) ∷ Own ∷ []) =
    starts side name (start_address name image) two.rest low in
    record {
      rest = three.rest;
      way = closes side state _ (subtree_moves Start side inner ++ Take side
          (jump_to (start_address name image)) ∷ Own ∷ []) (both _ _ _ (subtree_moves Start side
          inner) (Take side (jump_to (start_address name image)) ∷ Own ∷ []) two.way three.way);
      ram = three.ram ∙ two.ram;
    }
