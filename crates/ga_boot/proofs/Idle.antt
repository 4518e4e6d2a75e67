-- An idle node, which looks at all its sides, takes its first word and comes to the port that the
-- word names.
use Rattle.std.proofs.Common.{◌==◌, ◌≡◌, ℕ, ◌+◌, ◌/◌, ◌%◌, ◌<◌, ◌^◌, Bool, true, false, [], ◌∷◌, Some, None, refl, sym, ap, ◌∙◌, subst, arith}
use Rattle.std.specs.Prelude.{if◌then◌else◌, bit_xor}
use Rattle.std.proofs.lemmas.Bool.{false≢true}
use Rattle.ga_word.specs.Op.{op_with}
use Rattle.ga_word.specs.declared.op.Op.TheVariants as op
use Rattle.ga_pack.specs.Decoded.{reading_of}
use Rattle.std.proofs.lemmas.Grind.{common_steps}
use native.Mathlib.Bridge.{le_by_compare, IsLe}
use Rattle.ga_place.specs.Address.{port_address_of, idle_address_of, advance_of, where_is}
use Rattle.ga_place.specs.declared.address.Where.TheVariants.{Ports}
use Rattle.ga_frame.specs.Frame.{MORE}
use Rattle.ga_place.specs.Node.{IsNodeName}
use Rattle.ga_place.specs.declared.side.Sides.{Sides}
use Rattle.ga_place.specs.Side.{one_side, sides_with, has_side, sides_bits}
use Rattle.ga_place.specs.declared.side.Side.{Side}
use Rattle.ga_place.specs.declared.side.Side.TheVariants.{Right, Down, Left, Up}
use Rattle.ga_node.specs.State.{State}
use Rattle.ga_node.specs.Need.{wants, fetch_need}
use Rattle.ga_node.specs.Slot.{moved}
use Rattle.ga_node.specs.Fetch.{found_word}
use Rattle.ga_node.specs.declared.need.Need.TheVariants as need
use Rattle.ga_node.specs.declared.place.Place.TheVariants.{Slot0}
use Rattle.ga_chip.specs.Part.{looked_at}
use Rattle.ga_path.specs.Sequences.{jump_to}
use Rattle.ga_boot.specs.inner.Local.{Own, Take}
use Rattle.ga_boot.proofs.Steps.{Way, done, at_port, in_slot0, fetching, with_word, fetches, jumps, op_at}
use Rattle.ga_boot.proofs.Pump.{Comes}

abbrev bits_by : Bool → Bool → Bool → Bool → ℕ
bits_by r d l u =
    (if r then 0x80 else 0) + (if d then 0x40 else 0) + (if l then 0x20 else 0)
    + (if u then 0x10 else 0)

abbrev flag : Bool → Bool → Bool → Bool → Side → Bool
flag r d l u Right = r
flag r d l u Down = d
flag r d l u Left = l
flag r d l u Up = u

abbrev Looks : ℕ → Side → Type 0
Looks bits side =
    (fetch_need (bit_xor 0x155 bits) ≡ need.Take (sides_with bits))
    × (looked_at (one_side (sides_with bits)) (sides_with bits) side ≡ Some side)
    × (where_is (bit_xor 0x155 bits) ≡ Ports (sides_with bits))

looks_by : (r d l u : Bool) (side : Side) → flag r d l u side ≡ true → Looks (bits_by r d l u) side
looks_by true true true true Right e = (refl, refl, refl)
looks_by true true true false Right e = (refl, refl, refl)
looks_by true true false true Right e = (refl, refl, refl)
looks_by true true false false Right e = (refl, refl, refl)
looks_by true false true true Right e = (refl, refl, refl)
looks_by true false true false Right e = (refl, refl, refl)
looks_by true false false true Right e = (refl, refl, refl)
looks_by true false false false Right e = (refl, refl, refl)
looks_by false true true true Right e = absurd (false≢true e)
looks_by false true true false Right e = absurd (false≢true e)
looks_by false true false true Right e = absurd (false≢true e)
looks_by false true false false Right e = absurd (false≢true e)
looks_by false false true true Right e = absurd (false≢true e)
looks_by false false true false Right e = absurd (false≢true e)
looks_by false false false true Right e = absurd (false≢true e)
looks_by false false false false Right e = absurd (false≢true e)
looks_by true true true true Down e = (refl, refl, refl)
looks_by true true true false Down e = (refl, refl, refl)
looks_by true true false true Down e = (refl, refl, refl)
looks_by true true false false Down e = (refl, refl, refl)
looks_by true false true true Down e = absurd (false≢true e)
looks_by true false true false Down e = absurd (false≢true e)
looks_by true false false true Down e = absurd (false≢true e)
looks_by true false false false Down e = absurd (false≢true e)
looks_by false true true true Down e = (refl, refl, refl)
looks_by false true true false Down e = (refl, refl, refl)
looks_by false true false true Down e = (refl, refl, refl)
looks_by false true false false Down e = (refl, refl, refl)
looks_by false false true true Down e = absurd (false≢true e)
looks_by false false true false Down e = absurd (false≢true e)
looks_by false false false true Down e = absurd (false≢true e)
looks_by false false false false Down e = absurd (false≢true e)
looks_by true true true true Left e = (refl, refl, refl)
looks_by true true true false Left e = (refl, refl, refl)
looks_by true true false true Left e = absurd (false≢true e)
looks_by true true false false Left e = absurd (false≢true e)
looks_by true false true true Left e = (refl, refl, refl)
looks_by true false true false Left e = (refl, refl, refl)
looks_by true false false true Left e = absurd (false≢true e)
looks_by true false false false Left e = absurd (false≢true e)
looks_by false true true true Left e = (refl, refl, refl)
looks_by false true true false Left e = (refl, refl, refl)
looks_by false true false true Left e = absurd (false≢true e)
looks_by false true false false Left e = absurd (false≢true e)
looks_by false false true true Left e = (refl, refl, refl)
looks_by false false true false Left e = (refl, refl, refl)
looks_by false false false true Left e = absurd (false≢true e)
looks_by false false false false Left e = absurd (false≢true e)
looks_by true true true true Up e = (refl, refl, refl)
looks_by true true true false Up e = absurd (false≢true e)
looks_by true true false true Up e = (refl, refl, refl)
looks_by true true false false Up e = absurd (false≢true e)
looks_by true false true true Up e = (refl, refl, refl)
looks_by true false true false Up e = absurd (false≢true e)
looks_by true false false true Up e = (refl, refl, refl)
looks_by true false false false Up e = absurd (false≢true e)
looks_by false true true true Up e = (refl, refl, refl)
looks_by false true true false Up e = absurd (false≢true e)
looks_by false true false true Up e = (refl, refl, refl)
looks_by false true false false Up e = absurd (false≢true e)
looks_by false false true true Up e = (refl, refl, refl)
looks_by false false true false Up e = absurd (false≢true e)
looks_by false false false true Up e = (refl, refl, refl)
looks_by false false false false Up e = absurd (false≢true e)

is_flag : (name : ℕ) (side : Side) → flag (has_side name Right) (has_side name Down)
    (has_side name Left) (has_side name Up) side ≡ has_side name side
is_flag name Right = refl
is_flag name Down = refl
is_flag name Left = refl
is_flag name Up = refl

low_by : (r d l u : Bool) → bit_xor 0x155 (bits_by r d l u) < 2 ^ 10
unfolding IsLe
low_by true true true true = le_by_compare 422 1024 tt
low_by true true true false = le_by_compare 438 1024 tt
low_by true true false true = le_by_compare 390 1024 tt
low_by true true false false = le_by_compare 406 1024 tt
low_by true false true true = le_by_compare 486 1024 tt
low_by true false true false = le_by_compare 502 1024 tt
low_by true false false true = le_by_compare 454 1024 tt
low_by true false false false = le_by_compare 470 1024 tt
low_by false true true true = le_by_compare 294 1024 tt
low_by false true true false = le_by_compare 310 1024 tt
low_by false true false true = le_by_compare 262 1024 tt
low_by false true false false = le_by_compare 278 1024 tt
low_by false false true true = le_by_compare 358 1024 tt
low_by false false true false = le_by_compare 374 1024 tt
low_by false false false true = le_by_compare 326 1024 tt
low_by false false false false = le_by_compare 342 1024 tt

pub idle_low : (name : ℕ) → idle_address_of name < 2 ^ 10
idle_low name =
    low_by (has_side name Right) (has_side name Down) (has_side name Left) (has_side name Up)

apart_by : (r d l u : Bool) → (bit_xor 0x155 (bits_by r d l u) == MORE) ≡ false
apart_by true true true true = refl
apart_by true true true false = refl
apart_by true true false true = refl
apart_by true true false false = refl
apart_by true false true true = refl
apart_by true false true false = refl
apart_by true false false true = refl
apart_by true false false false = refl
apart_by false true true true = refl
apart_by false true true false = refl
apart_by false true false true = refl
apart_by false true false false = refl
apart_by false false true true = refl
apart_by false false true false = refl
apart_by false false false true = refl
apart_by false false false false = refl

-- an idle address isn't the completion that announces another frame
pub idle_apart : (name : ℕ) → (idle_address_of name == MORE) ≡ false
idle_apart name =
    apart_by (has_side name Right) (has_side name Down) (has_side name Left) (has_side name Up)

-- each node has a right side and a down side
pub has_right : (name : ℕ) → IsNodeName name → has_side name Right ≡ true
has_right name named = grind (arith, common_steps)

has_down : (name : ℕ) → IsNodeName name → has_side name Down ≡ true
has_down name named = grind (arith, common_steps)

many_by : (r d l u : Bool) → r ≡ true → d ≡ true → one_side (sides_with (bits_by r d l u)) ≡ None
many_by true true true true e f = refl
many_by true true true false e f = refl
many_by true true false true e f = refl
many_by true true false false e f = refl
many_by true false l u e f = absurd (false≢true f)
many_by false d l u e f = absurd (false≢true e)

-- so an idle node looks at several sides
pub idle_many : (name : ℕ) → IsNodeName name → one_side (sides_with (sides_bits name)) ≡ None
idle_many name named =
    many_by (has_side name Right) (has_side name Down) (has_side name Left) (has_side name Up)
    (has_right name named) (has_down name named)

-- an idle node can take from each side that it has
idle_looks : (name : ℕ) (side : Side) → has_side name side ≡ true → Looks (sides_bits name) side
idle_looks name side e =
    looks_by (has_side name Right) (has_side name Down) (has_side name Left) (has_side name Up) side
    (is_flag name side ∙ e)

abbrev pub idle : ℕ → State → State
idle name state = fetching (idle_address_of name) state

jump_port : (side : Side) → (op_at (jump_to (port_address_of side)) Slot0 ≡ op.Jump)
    × ((reading_of (jump_to (port_address_of side))).dest ≡ Some (port_address_of side))
unfolding reading_of op_with
jump_port Right = (refl, refl)
jump_port Down = (refl, refl)
jump_port Left = (refl, refl)
jump_port Up = (refl, refl)

jump_code : (address : ℕ) → address < 2 ^ 10
    → op_with (bit_xor (jump_to address / 2 ^ 13) 0x0A) ≡ op.Jump
unfolding op_with
jump_code address h = ap (λ q. op_with (bit_xor q 0x0A)) high
  where
    high : (0x10000 + address) / 2 ^ 13 ≡ 8
    high = grind (arith, common_steps)

jump_dest : (address : ℕ) → address < 2 ^ 10 → jump_to address % 2 ^ 10 ≡ address
jump_dest address h = grind (arith, common_steps)

jump_low : (address : ℕ) → address < 2 ^ 10 → (op_at (jump_to address) Slot0 ≡ op.Jump)
    × ((reading_of (jump_to address)).dest ≡ Some address)
unfolding reading_of
jump_low address h =
    let code : op_with (bit_xor (jump_to address / 2 ^ 13) 0x0A) ≡ op.Jump =
    jump_code address h in
    (rw code refl, rw code (ap Some (jump_dest address h)))

-- a fetch of an idle node
idle_moved : (name word : ℕ) (side : Side) (state : State) → has_side name side ≡ true
    → moved (idle name state) (Some word)
    ≡ in_slot0 word (record state { p = advance_of (idle_address_of name) })
idle_moved name word side state e =
    ap (λ w. record (in_slot0 word (record state { p = advance_of (idle_address_of name) }))
    { word = found_word w (idle name state) (Some word) }) (idle_looks name side e).2

-- FOCUS: the first word is taken by a look at all sides, and from then on the node looks at the
-- port that the word names
pub focuses : {P : Type 0} (name : ℕ) (side : Side) (state : State) → has_side name side ≡ true
    → Comes P (at_port side) (moved (idle name state) (Some (jump_to (port_address_of side))))
    (Own ∷ [])
focuses {P} name side state e =
    let word = jump_to (port_address_of side) in
    let first = record state { p = advance_of (idle_address_of name) } in
    let there : moved (idle name state) (Some word) ≡ in_slot0 word first =
    idle_moved name word side state e in
    let way : Way P (in_slot0 word first) (Own ∷ []) (at_port side (with_word word first)) =
    jumps word (port_address_of side) first _ _ (jump_port side).0 (jump_port side).1 (done _) in
    record {
      rest = with_word word first;
      way = subst (λ s. Way P s (Own ∷ []) (at_port side (with_word word first))) (sym there) way;
      ram = ap (λ s. s.ram) (sym there);
    }

-- an idle node waits for a word from several sides
pub idle_wants : (name : ℕ) (state : State) → IsNodeName name
    → (sides : Sides) × (wants (idle name state) ≡ need.Take sides) × (one_side sides ≡ None)
idle_wants name state named = (
  sides_with (sides_bits name),
  (idle_looks name Right (has_right name named)).0,
  idle_many name named,
)

-- START: directly behind the slot step of its start word P is the node's start address
pub starts : {P : Type 0} (side : Side) (name address : ℕ) (state : State) → address < 2 ^ 10
    → Comes P (fetching address) (at_port side state) (Take side (jump_to address) ∷ Own ∷ [])
starts side name address state low =
    let word = jump_to address in
    record {
      rest = with_word word (record state { p = port_address_of side });
      way =
          fetches side word state _ _ (
          jumps word address (record state { p = port_address_of side }) _ _
          (jump_low address low).0 (jump_low address low).1 (done _));
      ram = refl;
    }
