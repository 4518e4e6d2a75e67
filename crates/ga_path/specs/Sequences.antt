-- The words that boot a tree of nodes, by what a node sends at one of its sides. A route is a tree
-- without branches.
use Rattle.std.specs.Prelude.{ℕ, ◌+◌, ◌-◌, List, [], ◌∷◌, ◌++◌, length, Option, Some, None}
use Rattle.ga_place.specs.Address.{idle_address_of, port_address_of}
use Rattle.ga_place.specs.declared.side.Side.{Side}
use Rattle.ga_asm.specs.Image.{ImageView}
use Rattle.ga_frame.specs.Frame.{MORE, words_of}
use Rattle.ga_path.specs.declared.parts.Part.{Part}
use Rattle.ga_path.specs.declared.parts.Part.TheVariants.{Load, Start}

-- Subtrees in order. Of each there is its root's name, the side that the root shares with its
-- parent (both give the port one name), the root's image, if it has one, and the subtrees of the
-- root; then come the other subtrees.
pub data Grove : Type 0 where
  Bare : Grove
  Tree : ℕ → Side → Option ImageView → Grove → Grove → Grove

-- `@p a! @p .`: the next word goes to A, and the one behind it to T
abbrev pub SET_A : ℕ
SET_A = 0x04A12

-- `push . . .`: T goes to R, as a count
abbrev pub PUSH : ℕ
PUSH = 0x2E9B2

-- `@p ! unext .`: the next word is written at A, again and again
abbrev pub SEND : ℕ
SEND = 0x05A72

-- `@p !+ unext .`: the next word is written at A, which advances, again and again
abbrev pub STORE : ℕ
STORE = 0x05872

-- `. . . .`
abbrev pub NOPS : ℕ
NOPS = 0x2C9B2

-- `jump` to an address, in slot 0
abbrev pub jump_to : ℕ → ℕ
jump_to address = 0x10000 + address

-- An address goes to A, and a word runs once for each of the words that follow.
abbrev pub word_loop : ℕ → ℕ → List ℕ → List ℕ
word_loop address loop words = SET_A ∷ address ∷ (length words - 1) ∷ PUSH ∷ loop ∷ words

-- a node that executes from a port sends words at a side
abbrev pub pump : Side → List ℕ → List ℕ
pump side words = word_loop (port_address_of side) SEND words

-- a node that executes from a port fills its memory
abbrev pub load : Option ImageView → List ℕ
load (Some image) = word_loop 0 STORE image.words
load None = []

-- the address at which a node starts: its entry, or without an image its idle address
abbrev pub start_address : ℕ → Option ImageView → ℕ
start_address name (Some image) = image.entry
start_address name None = idle_address_of name

-- What a node is sent at a side, if its subtrees are sent `inner`. To load it: the jump to the
-- port, `inner`, its memory, and a word that is taken only behind the last store. To start it:
-- `inner`, and the jump to its entry.
abbrev pub sent : Part → ℕ → Side → Option ImageView → List ℕ → List ℕ
sent Load name side image inner =
    jump_to (port_address_of side) ∷ inner ++ (load image ++ NOPS ∷ [])
sent Start name side image inner = inner ++ jump_to (start_address name image) ∷ []

-- what a node sends to its subtrees: one pump for each
abbrev pub pumps : Part → Grove → List ℕ
pumps part Bare = []
pumps part (Tree name side image inner beside) =
    pump side (sent part name side image (pumps part inner)) ++ pumps part beside

-- a frame of a boot stream
abbrev pub frame : ℕ → ℕ → List ℕ → List ℕ
frame completion transfer words =
    words_of (record { completion = completion; transfer = transfer; words = words })

-- what the root's loader sends to the subtrees: one frame for each
abbrev pub frames : Part → Grove → List ℕ
frames part Bare = []
frames part (Tree name side image inner beside) =
    frame MORE (port_address_of side) (sent part name side image (pumps part inner))
    ++ frames part beside

abbrev pub image_words : Option ImageView → List ℕ
image_words (Some image) = image.words
image_words None = []

-- the root's own frame: its memory; or none, and the root starts
abbrev pub own_frame : Part → ℕ → Option ImageView → List ℕ
own_frame Load name image = frame MORE 0 (image_words image)
own_frame Start name image = frame (start_address name image) 0 []

-- a part of the stream of a tree, by its root and the subtrees of the root
abbrev pub part_words : Part → ℕ → Option ImageView → Grove → List ℕ
part_words part name image trees = frames part trees ++ own_frame part name image
