-- Which words of a node run in extended mode, which bit 9 of P selects, as far as the text shows.
use Rattle.std.specs.Prelude.{◌==◌, ◌&&◌, ◌||◌, ℕ, suc, ◌+◌, Bool, true, false, is_none, not, List, [], ◌∷◌, ◌++◌, Option, None}
use Rattle.std.specs.List.{list_any, slice_get}
use Rattle.std.specs.Option.{option_map_or}
use Rattle.ga_disasm.specs.Disassembling.{ItemView, Code, Follower, Data}
use Rattle.ga_lint.specs.NodeView.{dest_in, lands}
use Rattle.ga_lint.specs.Reaching.{is_code, is_word}
use Rattle.ga_word.specs.declared.op.Op.{Op}
use Rattle.ga_word.specs.declared.op.Op.TheVariants.{Return, Jump}
use Rattle.ga_word.specs.Op.{ends_word}

-- ---- by destinations

-- the destination of a word in slot 0, which is a new P with its bit 9
abbrev pub dest_of : List Op → Option ℕ → Option ℕ
dest_of (o ∷ []) dest = dest
dest_of ops dest = None

abbrev pub slot0_dest : ItemView → Option ℕ
slot0_dest (Code reading) = dest_of reading.ops reading.dest
slot0_dest item = None

-- a word enters extended mode at an address, also by a `call`
abbrev pub enters_at : ℕ → ItemView → Bool
enters_at address item = option_map_or (λ dest. dest == 0x200 + address) (slot0_dest item) false

-- the word at an address goes to another one in the mode in which it runs: by a destination in slot
-- 1 or 2, which keeps bit 9 of P
abbrev pub keeps_to : ℕ → ℕ → ItemView → Bool
keeps_to address at item =
    is_none (slot0_dest item)
    && option_map_or (λ dest. is_word address (lands dest)) (dest_in at item) false

-- it is known of the words from 000 on whether they run in extended mode, and this one does
abbrev pub is_known : List Bool → ℕ → Bool
is_known known at = option_map_or (λ extended. extended) (slice_get known at) false

-- such a word leads to an address so, among these, of which the first has an address
abbrev pub is_led_to : List Bool → ℕ → ℕ → List ItemView → Bool
is_led_to known address at [] = false
is_led_to known address at (item ∷ items) =
    is_known known at && keeps_to address at item || is_led_to known address (suc at) items

-- ---- on to the next word

-- Behind such an opcode the next word isn't run. `ex` is taken to come back, as `call`.
abbrev pub is_left : Op → Bool
is_left Return = true
is_left Jump = true
is_left o = false

-- execution goes on behind a word with these opcodes, in the mode in which it runs
abbrev pub stays_on : List Op → Bool
stays_on [] = true
stays_on (o ∷ ops) = not (is_left o) && (ends_word o || stays_on ops)

-- extended mode comes behind a word, if it comes to it from before or not, and the word runs so or
-- doesn't
abbrev pub comes_behind : Bool → Bool → ItemView → Bool
comes_behind comes extended (Code reading) = extended && stays_on reading.ops
comes_behind comes extended (Follower word) = comes
comes_behind comes extended (Data word) = false

-- ---- all words

-- the word at an address runs in extended mode: it comes there from the word before, a word enters
-- it there, or one of those before leads there in it
abbrev pub runs_extended : List ItemView → Bool → List Bool → ℕ → ItemView → Bool
runs_extended words comes known at item =
    is_code item
    && (comes || list_any (enters_at at) words || is_led_to known at 0 words)

-- whether each word runs in extended mode, if it is known of those before an address, and not yet
-- of these
abbrev pub extended_from : List ItemView → Bool → List Bool → ℕ → List ItemView → List Bool
extended_from words comes known at [] = known
extended_from words comes known at (item ∷ items) =
    extended_from words (comes_behind comes (runs_extended words comes known at item) item)
    (known ++ runs_extended words comes known at item ∷ []) (suc at) items

-- For each word whether it runs in extended mode. The words are looked at in order, so what only a
-- way back leads to doesn't count.
abbrev pub extended_words : List ItemView → List Bool
extended_words words = extended_from words false [] 0 words
