-- Waveforms that were worked out by hand.
use Rattle.std.proofs.Common.{◌≡◌, ◌++◌, false, true, [], ◌∷◌, Some, None, codes, refl}
use Rattle.ga_place.specs.declared.address.Where.TheVariants.{Ram}
use Rattle.ga_place.specs.declared.side.Side.TheVariants.{Right, Left}
use Rattle.ga_place.specs.Side.{sides_with}
use Rattle.std.specs.Fmt.{digits}
use Rattle.ga_word.specs.Hex.{hex_digits}
use Rattle.ga_word.specs.declared.op.Op.TheVariants.{Store}
use Rattle.ga_chip.specs.Chip.{Chip}
use Rattle.ga_observe.specs.declared.step.Deed.TheVariants.{Posted, SawRead}
use Rattle.ga_observe.specs.declared.step.Step.{Step}
use Rattle.ga_wave.specs.declared.deed.Did.TheVariants.{Held, Posts, SeesRead, Spins}
use Rattle.ga_wave.specs.declared.deed.Intent.TheVariants.{Post, Check, Work}
use Rattle.ga_node.specs.declared.need.Need.TheVariants as need
use Rattle.ga_node.specs.declared.place.Place.TheVariants.{Slot0}
use Rattle.ga_wave.specs.declared.sample.Sample.{Sample}
use Rattle.ga_wave.specs.declared.sample.Stand.{Stand}
use Rattle.ga_wave.specs.declared.signal.Signal.TheVariants as signal
use Rattle.ga_wave.specs.declared.value.Value.TheVariants as value
use Rattle.ga_wave.specs.declared.work.Work.TheVariants.{Runs}
use Rattle.ga_wave.specs.Change.{changes}
use Rattle.ga_wave.specs.Deed.{did_text, intent_of, step_did}
use Rattle.ga_wave.specs.Header.{declarations, scope}
use Rattle.ga_wave.specs.Identifier.{identifier}
use Rattle.ga_wave.specs.Laws.{word_of, words_posted}
use Rattle.ga_wave.specs.Sample.{did_of, word_at}
use Rattle.ga_wave.specs.Save.{heading, saved_signal}
use Rattle.ga_wave.specs.Value.{label_or, value_text}
use Rattle.ga_wave.specs.Wave.{turn_block}

-- identifiers of one character, and of two
first_identifier : identifier 0 ≡ codes "!"
first_identifier = refl

last_short : identifier 93 ≡ codes "~"
last_short = refl

first_long : identifier 94 ≡ codes "!!"
first_long = refl

next_long : identifier 282 ≡ codes "#!"
next_long = refl

-- bits without leading zeros, no word, and a label in place of an address
bits : value_text [] 708 (value.Bits 0x2B) ≡ codes "b101011 "
unfolding digits
bits = refl

no_bits : value_text [] 708 (value.Bits 0) ≡ codes "b0 "
unfolding digits
no_bits = refl

labelled : label_or (codes " main+2") 2 ≡ codes "smain+2 "
labelled = refl

unlabelled : label_or [] 0x1D5 ≡ codes "s1D5 "
unfolding hex_digits
unlabelled = refl

-- a multiport read takes at the side of the turn, and a read of one port at its own
by_turn : did_text (step_did Left (intent_of (need.Take (sides_with 0xA0)))) ≡ codes "takes_left"
by_turn = refl

by_port : did_text (step_did Left (intent_of (need.Take (sides_with 0x40)))) ≡ codes "takes_down"
by_port = refl

saw_read : did_text (step_did Left (Check Right)) ≡ codes "sees_right_read"
saw_read = refl

-- a word is at its port in the turn in which it is posted, whatever the chip behind it
at_once : (chip : Chip) → word_at (Post Right 5) true chip 708 Right ≡ Some 5
at_once chip = refl

-- a corner has two ports; the second node's identifiers go on from 15
corner : scope 0 1
    ≡ codes "$scope module n000 $end\n$var string 1 0 did $end\n$var string 1 1 at $end\n"
    ++ codes "$var string 1 2 op $end\n$var wire 1 3 busy $end\n$var reg 10 4 p [9:0] $end\n"
    ++ codes "$var reg 18 5 t [17:0] $end\n$var reg 18 6 s [17:0] $end\n"
    ++ codes "$var reg 18 7 r [17:0] $end\n$var reg 18 8 a [17:0] $end\n"
    ++ codes "$var reg 9 9 b [8:0] $end\n$var reg 18 : io [17:0] $end\n"
    ++ codes "$var wire 18 ; right_to_001 [17:0] $end\n$var wire 18 < down_to_100 [17:0] $end\n"
    ++ codes "$upscope $end\n"
unfolding scope declarations
corner = refl

-- `!` at the port right posts 5, and the next turn sees that it was read: the port is empty
abbrev posted : Sample
posted = record {
  stand = record {
    intent = Post Right 5;
    held = false;
    spins = false;
    steps = 3;
    address = 1;
    reaches = Ram 1;
    work = Runs Store;
  };
  did = Posts Right;
  busy = true;
  registers = record { p = 2; t = 5; s = 0; r = 0; a = 0x1D5; b = 0x15D; io = 0 };
  ports = record { right = Some 5; down = None; left = None; up = None };
}

abbrev read : Sample
read = record posted {
  stand = record {
    intent = Check Right;
    held = false;
    spins = false;
    steps = 4;
    address = 1;
    reaches = Ram 1;
    work = Runs Store;
  };
  did = SeesRead Right;
  registers = record { p = 2; t = 0; s = 0; r = 0; a = 0x1D5; b = 0x15D; io = 0 };
  ports = record { right = None; down = None; left = None; up = None };
}

seen : changes [] 708 0 (Some posted) read ≡ codes "ssees_right_read !\nb0 &\nbz ,\n"
unfolding changes digits
seen = refl

same : changes [] 708 0 (Some read) read ≡ []
unfolding changes
same = refl

-- a node that spins isn't busy, though it makes steps
abbrev spinning : Stand
spinning = record read.stand { intent = Work; spins = true }

while_it_spins : (did_of Left spinning true ≡ Spins) × (did_of Left spinning false ≡ Held)
while_it_spins = (refl, refl)

-- a turn that changed nothing has no time
turn : turn_block 12 (codes "1$\n") ≡ codes "#12\n1$\n"
unfolding digits
turn = refl

no_turn : turn_block 12 [] ≡ []
no_turn = refl

-- in a save file: a text, and a port with its bits
saved_text : saved_signal 708 signal.Did ≡ codes "[color] 2\n@820\nchip.n708.did\n"
unfolding digits
saved_text = refl

saved_port : saved_signal 708 (signal.Port Right)
    ≡ codes "[color] 3\n@22\nchip.n708.right_to_709[17:0]\n"
unfolding digits
saved_port = refl

saved_heading : heading 5 ≡ codes "@200\n-005\n"
unfolding digits
saved_heading = refl

-- a node posts 5 at its right twice; a check, a post at its left, and a post of another node aren't
-- its posts there
abbrev post_5 : Step
post_5 = record {
  node = 708;
  number = 3;
  turn = 6;
  place = Slot0;
  p = 2;
  word = 0;
  deed = Posted Right 5;
}

two_posts : words_posted 708 Right
    (post_5 ∷ record post_5 { deed = SawRead Right } ∷ record post_5 { deed = Posted Left 7 }
    ∷ record post_5 { node = 709 } ∷ record post_5 { turn = 12 } ∷ [])
    ≡ 5 ∷ 5 ∷ []
two_posts = refl

-- an empty port is no word
words : (word_of (value.Bits 5) ≡ Some 5) × (word_of value.Nothing ≡ None)
words = (refl, refl)
