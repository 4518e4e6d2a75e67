-- What a booting node does until it begins: its moves in order, by the words that it is sent.
use Rattle.std.specs.Prelude.{ℕ, ◌-◌, List, [], ◌∷◌, ◌++◌, length, map, Option, Some, None}
use Rattle.ga_asm.specs.Image.{ImageView}
use Rattle.ga_frame.specs.Frame.{MORE}
use Rattle.ga_path.specs.Sequences.{Grove, Bare, Tree, SET_A, PUSH, SEND, STORE, NOPS, jump_to, start_address, sent, pumps, own_frame}
use Rattle.ga_path.specs.declared.parts.Part.{Part}
use Rattle.ga_path.specs.declared.parts.Part.TheVariants.{Load, Start}
use Rattle.ga_place.specs.Address.{port_address_of}
use Rattle.ga_place.specs.declared.side.Side.{Side}
use Rattle.ga_boot.specs.inner.Local.{Local, Own, Feed, Take, Post, Check}

-- A is set, R is set to a count, and the word of a loop is fetched
abbrev pub head_moves : Side → ℕ → ℕ → ℕ → List Local
head_moves side address count loop =
    Take side SET_A ∷ Take side address ∷ Own ∷ Take side count ∷ Own
    ∷ Take side PUSH ∷ Own ∷ Own ∷ Own ∷ Own ∷ Take side loop ∷ []

-- the loop that sends the words that follow at another side
abbrev pub send_moves : Side → Side → List ℕ → List Local
send_moves side out [] = Own ∷ []
send_moves side out (word ∷ words) =
    Take side word ∷ Post out word ∷ Check out ∷ Own ∷ send_moves side out words

-- a pump
abbrev pub pump_moves : Side → Side → List ℕ → List Local
pump_moves side out words =
    head_moves side (port_address_of out) (length words - 1) SEND ++ send_moves side out words

-- one pump for each subtree
abbrev pub subtree_moves : Part → Side → Grove → List Local
subtree_moves part side Bare = []
subtree_moves part side (Tree name out image inner beside) =
    pump_moves side out (sent part name out image (pumps part inner))
    ++ subtree_moves part side beside

-- the loop that stores the words that follow
abbrev pub store_moves : Side → List ℕ → List Local
store_moves side [] = Own ∷ []
store_moves side (word ∷ words) = Take side word ∷ Own ∷ Own ∷ store_moves side words

-- the node's memory is filled
abbrev pub load_moves : Side → Option ImageView → List Local
load_moves side None = []
load_moves side (Some image) =
    head_moves side 0 (length image.words - 1) STORE ++ store_moves side image.words

-- what a node does up to the last word that loads it, `. . . .`
abbrev pub load_script : Side → Option ImageView → Grove → List Local
load_script side image inner =
    Take side (jump_to (port_address_of side)) ∷ Own
    ∷ (subtree_moves Load side inner ++ (load_moves side image ++ Take side NOPS ∷ []))

-- and from there until it has started: the jump of its start word is made
abbrev pub start_script : ℕ → Side → Option ImageView → Grove → List Local
start_script name side image inner =
    Own ∷ Own ∷ Own ∷ Own
    ∷ (subtree_moves Start side inner ++ Take side (jump_to (start_address name image)) ∷ Own ∷ [])

-- The root is fed by its stream. The words of a frame to a port are posted there.
abbrev pub post_moves : Side → List ℕ → List Local
post_moves out [] = []
post_moves out (word ∷ words) = Feed word ∷ Post out word ∷ Check out ∷ post_moves out words

abbrev pub frame_moves : Side → List ℕ → List Local
frame_moves out words =
    Feed MORE ∷ Feed (port_address_of out) ∷ Feed (length words) ∷ post_moves out words

-- one frame for each subtree
abbrev pub subtree_frames : Part → Grove → List Local
subtree_frames part Bare = []
subtree_frames part (Tree name out image inner beside) =
    frame_moves out (sent part name out image (pumps part inner)) ++ subtree_frames part beside

-- what the root does for a part of its stream
abbrev pub root_script : Part → ℕ → Option ImageView → Grove → List Local
root_script part name image trees =
    subtree_frames part trees ++ map Feed (own_frame part name image)
