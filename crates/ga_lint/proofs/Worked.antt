-- The rules at worked values.
use Rattle.std.proofs.Common.{◌≡◌, ℕ, List, [], ◌∷◌, ◌++◌, Some, None, true, false, length, refl}
use Rattle.std.specs.Prelude.{Option, codes, map}
use Rattle.std.specs.Fmt.{digits}
use Rattle.ga_asm.specs.Image.{ImageView}
use Rattle.ga_disasm.specs.Disassembling.{ItemView, Code, Follower, Data}
use Rattle.ga_lint.specs.DataRuns.{begins_in_data, into_data}
use Rattle.ga_lint.specs.DeadCode.{is_dead}
use Rattle.ga_lint.specs.LeavesExtended.{leaves_extended}
use Rattle.ga_lint.specs.NodeView.{NodeView}
use Rattle.ga_lint.specs.NodeWarnings.{by_address, node_warnings}
use Rattle.ga_lint.specs.OverMemory.{over_memory}
use Rattle.ga_lint.specs.PortWrites.{writes_refused_at}
use Rattle.ga_lint.specs.RunsOff.{runs_off}
use Rattle.ga_lint.specs.SplitLoop.{split_loop}
use Rattle.ga_lint.specs.StraightRun.{is_first_wrong}
use Rattle.ga_lint.specs.UnextRepeats.{unext_repeats}
use Rattle.ga_lint.specs.Unreachable.{unreachable}
use Rattle.ga_lint.specs.Warning.{warning_text}
use Rattle.ga_lint.specs.declared.port_writes.Refused.TheVariants.{Several, Edge}
use Rattle.ga_lint.specs.declared.warning.WarningKind.TheVariants.{UnextRepeats, PushesTooMany, PopsTooMany, UnusedLabel, Unreachable, ReturnsNowhere, OverMemory, ReadsIo}
use Rattle.ga_pack.specs.Model.Layout.{Labels}
use Rattle.ga_pack.specs.Model.Source.{Item, Instruction, Literal, Here, Word}
use Rattle.ga_pack.specs.Model.Text.{Place}
use Rattle.ga_word.specs.declared.op.Op.{Op}
use Rattle.ga_word.specs.declared.op.Op.TheVariants as op

-- ---- nodes

-- a word of code
abbrev code : List Op → Option ℕ → ItemView
code ops dest = Code (record { ops = ops; dest = dest; spare = 0 })

abbrev image_of : List ℕ → ℕ → Labels → ImageView
image_of words code_len labels =
    record { words = words; code_len = code_len; entry = 0; labels = labels; item_counts = [] }

-- a node with these words, all code, and these numbers of them, if a rule looks at numbers
abbrev node_with : List ItemView → List ℕ → NodeView
node_with words numbers = record {
  items = [];
  item_places = [];
  image = image_of numbers (length words) [];
  words = words;
  word_places = [];
}

abbrev column : ℕ → Place
column n = record { line = 1; column = n }

-- a node with items at the columns 10, 20 and so on, and words that begin at these columns
abbrev node_of_items : List Item → List ItemView → List ℕ → NodeView
node_of_items items words columns = record {
  items = items;
  item_places = map column (10 ∷ 20 ∷ 30 ∷ 40 ∷ 50 ∷ []);
  image = image_of [] (length words) [];
  words = words;
  word_places = map column columns;
}

-- ---- `unext`

-- `5 !b unext`: each round takes the next word of the code, and writes it
a_literal_in_a_loop :
    unext_repeats
    (node_of_items (Literal 5 ∷ Instruction op.StoreB ∷ Instruction op.Micronext ∷ [])
    (code (op.FetchP ∷ op.StoreB ∷ op.Micronext ∷ op.Nop ∷ []) None ∷ Follower 5 ∷ [])
    (10 ∷ 10 ∷ [])) 0 ≡ true
a_literal_in_a_loop = refl

-- `[ @p !+ unext ]` is meant so, and `[ push unext ]` isn't
copies_words :
    unext_repeats
    (node_of_items (Word (op.FetchP ∷ op.StorePlus ∷ op.Micronext ∷ []) ∷ [])
    (code (op.FetchP ∷ op.StorePlus ∷ op.Micronext ∷ op.Nop ∷ []) None ∷ Follower 5 ∷ [])
    (10 ∷ 20 ∷ [])) 0 ≡ false
copies_words = refl

pushes_its_count :
    unext_repeats
    (node_of_items (Word (op.Push ∷ op.Micronext ∷ []) ∷ [])
    (code (op.Push ∷ op.Micronext ∷ op.Nop ∷ op.Nop ∷ []) None ∷ []) (10 ∷ [])) 0 ≡ true
pushes_its_count = refl

-- `dup dup dup dup @ unext`: the fifth item begins a word, and so the rounds
abbrev packed_loop : Item → NodeView
packed_loop fourth =
    node_of_items
    (Instruction op.Dup ∷ Instruction op.Dup ∷ Instruction op.Dup ∷ fourth ∷ Instruction op.Fetch
    ∷ Instruction op.Micronext ∷ [])
    (code (op.Dup ∷ op.Dup ∷ op.Dup ∷ op.Dup ∷ []) None
    ∷ code (op.Fetch ∷ op.Micronext ∷ op.Nop ∷ op.Nop ∷ []) None ∷ []) (10 ∷ 50 ∷ [])

its_rounds_are_split : split_loop (packed_loop (Instruction op.Dup)) 1 ≡ true
its_rounds_are_split = refl

-- behind a label they are not, nor behind `;`
a_label_begins_them : split_loop (packed_loop (Here (codes "loop"))) 1 ≡ false
a_label_begins_them = refl

a_return_ends_the_word : split_loop (packed_loop (Instruction op.Return)) 1 ≡ false
a_return_ends_the_word = refl

-- ---- the end of the code

two_nops : runs_off (node_with (code (op.Nop ∷ op.Nop ∷ op.Nop ∷ op.Nop ∷ []) None ∷ []) []) 0
    ≡ true
two_nops = refl

-- `@b` stops a node that never sets B, and behind `jump` nothing runs
reads_io : runs_off (node_with (code (op.FetchB ∷ op.Nop ∷ op.Nop ∷ op.Nop ∷ []) None ∷ []) []) 0
    ≡ false
reads_io = refl

jumps_away : runs_off (node_with (code (op.Jump ∷ []) (Some 0xA9) ∷ []) []) 0 ≡ false
jumps_away = refl

-- ---- code to which no execution comes

-- `main: jump main`, and a word behind it, with a label or without
abbrev behind_jump : Labels → List Item → NodeView
behind_jump labels items = record {
  items = items;
  item_places = map column (10 ∷ 20 ∷ 30 ∷ []);
  image = image_of [] 2 labels;
  words =
      code (op.Jump ∷ []) (Some 0) ∷ code (op.Drop ∷ op.Return ∷ op.Nop ∷ op.Nop ∷ []) None ∷ [];
  word_places = map column (10 ∷ 30 ∷ []);
}

without_a_label : node_warnings 708 (behind_jump [] [])
    ≡ record { node = 708; line = 1; column = 30; kind = Unreachable } ∷ []
unfolding node_warnings by_address is_dead
without_a_label = refl

with_a_label : node_warnings 708
    (behind_jump ((codes "sub", 1) ∷ []) (Instruction op.Nop ∷ Here (codes "sub") ∷ []))
    ≡ record { node = 708; line = 1; column = 20; kind = UnusedLabel } ∷ []
unfolding node_warnings by_address is_dead
with_a_label = refl

-- code behind these words, which doesn't run if they don't lead there
abbrev behind : List ItemView → List ℕ → NodeView
behind words numbers =
    node_with (words ++ code (op.Dup ∷ op.Return ∷ op.Nop ∷ op.Nop ∷ []) None ∷ []) numbers

-- `jump warm`, or a jump to a port: a neighbour may lead the node there
waits_for_words : unreachable (behind (code (op.Jump ∷ []) (Some 0xA9) ∷ []) []) 1 ≡ false
unfolding is_dead
waits_for_words = refl

runs_words_of_a_port : unreachable (behind (code (op.Jump ∷ []) (Some 0x1D5) ∷ []) []) 1 ≡ false
unfolding is_dead
runs_words_of_a_port = refl

-- at 155, io and 080 a fetch stops the node
stops_at_155 : unreachable (behind (code (op.Jump ∷ []) (Some 0x155) ∷ []) []) 1 ≡ true
unfolding is_dead
stops_at_155 = refl

stops_at_io : unreachable (behind (code (op.Jump ∷ []) (Some 0x15D) ∷ []) []) 1 ≡ true
unfolding is_dead
stops_at_io = refl

stops_in_rom : unreachable (behind (code (op.Jump ∷ []) (Some 0x80) ∷ []) []) 1 ≡ true
unfolding is_dead
stops_in_rom = refl

-- a number that is run as code may lead anywhere
runs_a_number : unreachable (behind (code (op.FetchP ∷ op.Jump ∷ []) (Some 1) ∷ Follower 5 ∷ []) [])
    2 ≡ false
unfolding is_dead
runs_a_number = refl

-- `2 push ;` goes to 002; `[ @p push pop ; ]` goes to 000, but no `call` leads there
a_computed_jump : unreachable
    (behind (code (op.FetchP ∷ op.Push ∷ op.Return ∷ op.Nop ∷ []) None ∷ Follower 2 ∷ []) []) 2
    ≡ false
unfolding is_dead
a_computed_jump = refl

over_a_pop : unreachable
    (behind (code (op.FetchP ∷ op.Push ∷ op.Pop ∷ op.Return ∷ []) None ∷ Follower 2 ∷ []) []) 2
    ≡ false
unfolding is_dead
over_a_pop = refl

-- behind a `call` its `;` comes back, and R is 0 before
comes_back : unreachable (behind (code (op.Call ∷ []) (Some 2) ∷ code (op.Jump ∷ []) (Some 1)
    ∷ code (op.Return ∷ op.Nop ∷ op.Nop ∷ op.Nop ∷ []) None ∷ []) []) 3 ≡ true
unfolding is_dead
comes_back = refl

-- `call 2` and `jump 1`, and at 002 a routine with these opcodes
abbrev calls_002 : List Op → NodeView
calls_002 ops =
    behind (code (op.Call ∷ []) (Some 2) ∷ code (op.Jump ∷ []) (Some 1) ∷ code ops None ∷ []) []

pops_what_it_pushed : unreachable (calls_002 (op.Push ∷ op.Pop ∷ op.Return ∷ op.Nop ∷ [])) 3 ≡ true
unfolding is_dead
pops_what_it_pushed = refl

returns_to_what_it_pushed : unreachable (calls_002 (op.Push ∷ op.Return ∷ op.Nop ∷ op.Nop ∷ [])) 3
    ≡ false
unfolding is_dead
returns_to_what_it_pushed = refl

-- rounds that take words of the code as numbers go on behind them
takes_code : unreachable (behind (code (op.FetchP ∷ op.Micronext ∷ op.Nop ∷ op.Nop ∷ []) None
    ∷ Follower 2 ∷ code (op.Jump ∷ []) (Some 2) ∷ []) []) 3 ≡ false
unfolding is_dead
takes_code = refl

-- `!` writes at 000, the address in A after reset; `$1D5 a! !` writes to the port right, and
-- `1 a! !` over the code
writes_at_once : unreachable (behind (code (op.Store ∷ op.Jump ∷ []) (Some 0) ∷ []) []) 1 ≡ false
unfolding is_dead
writes_at_once = refl

abbrev writes_by_a : ℕ → NodeView
writes_by_a address =
    behind (code (op.FetchP ∷ op.AStore ∷ op.Store ∷ op.Nop ∷ []) None ∷ Follower address
    ∷ code (op.Jump ∷ []) (Some 0) ∷ []) (0 ∷ address ∷ [])

writes_to_a_port : unreachable (writes_by_a 0x1D5) 3 ≡ true
unfolding is_dead
writes_to_a_port = refl

writes_over_code : unreachable (writes_by_a 1) 3 ≡ false
unfolding is_dead
writes_over_code = refl

-- ---- the straight run

-- eleven literals: the last one has no room
abbrev literals : ItemView
literals = code (op.FetchP ∷ op.FetchP ∷ op.FetchP ∷ op.FetchP ∷ []) None

eleven_words : is_first_wrong PushesTooMany (node_with (literals ∷ literals ∷ literals ∷ []) []) 2
    ≡ true
eleven_words = refl

adds_nothing : is_first_wrong PopsTooMany
    (node_with (code (op.Dup ∷ op.Plus ∷ op.Plus ∷ op.Nop ∷ []) None ∷ []) []) 0 ≡ true
adds_nothing = refl

-- `drop` and `dup` may clear and fill the stack
clears_the_stack : is_first_wrong PopsTooMany
    (node_with (code (op.Drop ∷ op.Drop ∷ op.Dup ∷ op.Or ∷ []) None ∷ []) []) 0 ≡ false
clears_the_stack = refl

returns_at_once : is_first_wrong ReturnsNowhere
    (node_with (code (op.Return ∷ op.Nop ∷ op.Nop ∷ op.Nop ∷ []) None ∷ []) []) 0 ≡ true
returns_at_once = refl

-- `push ;` is a jump
jumps_by_return : is_first_wrong ReturnsNowhere
    (node_with (code (op.FetchP ∷ op.Push ∷ op.Return ∷ op.Nop ∷ []) None ∷ Follower 5 ∷ []) []) 0
    ≡ false
jumps_by_return = refl

-- `dup or` makes 0, a word of the node
makes_zero : is_first_wrong PopsTooMany
    (node_with (code (op.Dup ∷ op.Or ∷ op.StoreB ∷ op.Nop ∷ []) None ∷ []) []) 0 ≡ false
makes_zero = refl

-- `@b` before `b!`, and behind it
reads_at_once : is_first_wrong ReadsIo
    (node_with (code (op.FetchB ∷ op.Nop ∷ op.Nop ∷ op.Nop ∷ []) None ∷ []) []) 0 ≡ true
reads_at_once = refl

reads_behind : is_first_wrong ReadsIo
    (node_with (code (op.FetchP ∷ op.BStore ∷ op.FetchB ∷ op.Nop ∷ []) None ∷ Follower 0x1D5 ∷ [])
    []) 0 ≡ false
reads_behind = refl

-- ---- ports

-- `[ @p b! @p !b ]` with an address as its first follower
abbrev writes_to : ℕ → NodeView
writes_to address =
    node_with (code (op.FetchP ∷ op.BStore ∷ op.FetchP ∷ op.StoreB ∷ []) None ∷ Follower address
    ∷ Follower 7 ∷ []) (0 ∷ address ∷ 7 ∷ [])

to_right_and_left : writes_refused_at Several (writes_to 0x1F5) 0 ≡ true
to_right_and_left = refl

to_right : writes_refused_at Several (writes_to 0x1D5) 0 ≡ false
to_right = refl

-- the address is taken in slot 3, and the next word begins with `a!`
in_the_next_word : writes_refused_at Several
    (node_with (code (op.Nop ∷ op.Nop ∷ op.Nop ∷ op.FetchP ∷ []) None ∷ Follower 0x1F5
    ∷ code (op.AStore ∷ op.Store ∷ op.Nop ∷ op.Nop ∷ []) None ∷ []) (0 ∷ 0x1F5 ∷ 0 ∷ [])) 0
    ≡ true
in_the_next_word = refl

-- `$1F5 .` at the end of a word, and `. b! !b` behind it: fillers change nothing
over_fillers : writes_refused_at Several
    (node_with (code (op.Dup ∷ op.Dup ∷ op.FetchP ∷ op.Nop ∷ []) None ∷ Follower 0x1F5
    ∷ code (op.Nop ∷ op.BStore ∷ op.StoreB ∷ op.Nop ∷ []) None ∷ []) (0 ∷ 0x1F5 ∷ 0 ∷ [])) 0
    ≡ true
over_fillers = refl

-- `$1F5 $1D5 .`: B is set to the address of one side
below_another : writes_refused_at Several
    (node_with (code (op.Dup ∷ op.FetchP ∷ op.FetchP ∷ op.Nop ∷ []) None ∷ Follower 0x1F5
    ∷ Follower 0x1D5 ∷ code (op.Nop ∷ op.BStore ∷ op.StoreB ∷ op.Nop ∷ []) None ∷ [])
    (0 ∷ 0x1F5 ∷ 0x1D5 ∷ 0 ∷ [])) 0 ≡ false
below_another = refl

-- a node of row 0 has no neighbour up, and one of column 0 none left
up_from_the_edge : writes_refused_at (Edge 8) (writes_to 0x145) 0 ≡ true
up_from_the_edge = refl

left_from_the_edge : writes_refused_at (Edge 700) (writes_to 0x175) 0 ≡ true
left_from_the_edge = refl

up_inside : writes_refused_at (Edge 108) (writes_to 0x145) 0 ≡ false
up_inside = refl

-- ---- destinations

-- `jump $201`, and a loop at 001 that `jump 1` in slot 0 closes
abbrev extended_loop : List ItemView
extended_loop =
    code (op.Jump ∷ []) (Some 0x201) ∷ code (op.Plus ∷ op.Nop ∷ op.Nop ∷ op.Nop ∷ []) None
    ∷ code (op.Jump ∷ []) (Some 1) ∷ []

leaves_in_a_loop : leaves_extended (node_with extended_loop []) 2 ≡ true
leaves_in_a_loop = refl

-- a word that jumps to itself ends the program
spins : leaves_extended (node_with (code (op.Jump ∷ []) (Some 0x201)
    ∷ code (op.Jump ∷ []) (Some 1) ∷ []) []) 1 ≡ false
spins = refl

-- `jump $201`, a word at 001, `jump 3` in slot 0, and a loop in normal mode at 003
in_normal_mode : leaves_extended (node_with (code (op.Jump ∷ []) (Some 0x201)
    ∷ code (op.Plus ∷ op.Nop ∷ op.Nop ∷ op.Nop ∷ []) None ∷ code (op.Jump ∷ []) (Some 3)
    ∷ code (op.Dup ∷ op.Nop ∷ op.Nop ∷ op.Nop ∷ []) None ∷ code (op.Jump ∷ []) (Some 3) ∷ []) []) 4
    ≡ false
in_normal_mode = refl

-- `call $202`, a jump to itself, and a word at 002 to which the loop goes back
abbrev called_loop : ItemView → List ItemView
called_loop last =
    code (op.Call ∷ []) (Some 0x202) ∷ code (op.Jump ∷ []) (Some 1)
    ∷ code (op.Plus ∷ op.Nop ∷ op.Nop ∷ op.Nop ∷ []) None ∷ last ∷ []

entered_by_a_call :
    leaves_extended (node_with (called_loop (code (op.Jump ∷ []) (Some 2))) []) 3 ≡ true
entered_by_a_call = refl

calls_again : leaves_extended (node_with (called_loop (code (op.Call ∷ []) (Some 2))) []) 3 ≡ false
calls_again = refl

-- behind its `;` the routine that was called doesn't run
behind_the_routine : leaves_extended (node_with (code (op.Call ∷ []) (Some 0x201)
    ∷ code (op.Plus ∷ op.Return ∷ op.Nop ∷ op.Nop ∷ []) None
    ∷ code (op.Plus ∷ op.Nop ∷ op.Nop ∷ op.Nop ∷ []) None ∷ code (op.Jump ∷ []) (Some 2) ∷ []) []) 3
    ≡ false
behind_the_routine = refl

-- `jump $201`, `if 3` in slot 1, which keeps the mode, `;`, and a loop at 003
led_over_a_return : leaves_extended (node_with (code (op.Jump ∷ []) (Some 0x201)
    ∷ code (op.Plus ∷ op.If ∷ []) (Some 3) ∷ code (op.Return ∷ op.Nop ∷ op.Nop ∷ op.Nop ∷ []) None
    ∷ code (op.Plus ∷ op.Nop ∷ op.Nop ∷ op.Nop ∷ []) None ∷ code (op.Jump ∷ []) (Some 3) ∷ []) []) 4
    ≡ true
led_over_a_return = refl

enters_it : leaves_extended (node_with extended_loop []) 0 ≡ false
enters_it = refl

-- 043 is 003 again, behind three words
behind_the_words : over_memory (node_with (code (op.Jump ∷ []) (Some 0x43) ∷ literals ∷ literals
    ∷ []) []) 0 ≡ true
behind_the_words = refl

among_them : over_memory (node_with (code (op.Jump ∷ []) (Some 0x42) ∷ literals ∷ literals ∷ []) [])
    0 ≡ false
among_them = refl

-- 080 is in ROM; at 0A9, and so at 0E9, it has a word that can be run
in_rom : over_memory (node_with (code (op.Jump ∷ []) (Some 0x80) ∷ []) []) 0 ≡ true
in_rom = refl

in_rom_again : over_memory (node_with (code (op.Jump ∷ []) (Some 0xC0) ∷ []) []) 0 ≡ true
in_rom_again = refl

to_warm : over_memory (node_with (code (op.Jump ∷ []) (Some 0xA9) ∷ []) []) 0 ≡ false
to_warm = refl

to_warm_again : over_memory (node_with (code (op.Jump ∷ []) (Some 0xE9) ∷ []) []) 0 ≡ false
to_warm_again = refl

-- `jump 1`, and behind it `, 5`, a number or data; then one that a neighbour may write
abbrev to_001 : ItemView → List ItemView → NodeView
to_001 word others = node_with (code (op.Jump ∷ []) (Some 1) ∷ word ∷ others) []

into_a_number : into_data (to_001 (Follower 5) []) 0 ≡ true
into_a_number = refl

into_a_table : into_data (to_001 (Data 5) []) 0 ≡ true
into_a_table = refl

to_code : into_data (to_001 (code (op.Jump ∷ []) (Some 0)) []) 0 ≡ false
to_code = refl

may_be_written : into_data (node_with (code (op.If ∷ []) (Some 2)
    ∷ code (op.Jump ∷ []) (Some 0x1D5) ∷ Data 5 ∷ []) []) 0 ≡ false
may_be_written = refl

of_data_alone : begins_in_data (node_with (Data 5 ∷ []) []) 0 ≡ true
of_data_alone = refl

-- `. main:`: the node begins at 001, and has one word
begins_behind : node_warnings 708 (record {
  items = Instruction op.Nop ∷ Here (codes "main") ∷ [];
  item_places = map column (10 ∷ 20 ∷ []);
  image = record (image_of [] 1 ((codes "main", 1) ∷ [])) { entry = 1 };
  words = code (op.Jump ∷ []) (Some 0) ∷ [];
  word_places = map column (10 ∷ []);
}) ≡ record { node = 708; line = 1; column = 20; kind = OverMemory } ∷ []
unfolding node_warnings by_address is_dead
begins_behind = refl

-- ---- how a warning is written

its_text : warning_text (record { node = 708; line = 3; column = 15; kind = UnextRepeats })
    ≡ codes "708 3:15 UnextRepeats"
unfolding digits
its_text = refl
