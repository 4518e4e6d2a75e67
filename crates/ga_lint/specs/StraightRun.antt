-- The straight run of a node: what it runs from its entry on, word by word, up to the first opcode
-- behind which it may go elsewhere. What is wrong there is wrong whenever the node runs.
use Rattle.std.specs.Prelude.{◌==◌, ◌&&◌, ◌||◌, ℕ, suc, ◌+◌, ◌-◌, Bool, true, false, List, [], ◌∷◌, Option, Some, None, drop, max, min, if◌then◌else◌}
use Rattle.ga_disasm.specs.Disassembling.{ItemView, Code, Follower, Data}
use Rattle.ga_lint.specs.NodeView.{NodeView}
use Rattle.ga_lint.specs.PortWrites.{sets}
use Rattle.ga_lint.specs.UnextRepeats.{is_push}
use Rattle.ga_lint.specs.declared.warning.WarningKind.{WarningKind}
use Rattle.ga_lint.specs.declared.warning.WarningKind.TheVariants.{PushesTooMany, PopsTooMany, ReturnsNowhere, ReadsIo}
use Rattle.ga_pack.specs.Model.Layout.{is_unext}
use Rattle.ga_word.specs.declared.op.Op.{Op}
use Rattle.ga_word.specs.declared.op.Op.TheVariants.{Return, FetchP, FetchPlus, FetchB, Fetch, StoreP, StorePlus, StoreB, Store, Plus, And, Or, Drop, Dup, Pop, Over, A, Push, BStore, AStore}
use Rattle.ga_word.specs.Op.{ends_word}

-- ---- the stacks

-- an opcode pushes a word on the data stack that isn't there yet
abbrev pub brings : Op → Bool
brings FetchP = true
brings FetchPlus = true
brings FetchB = true
brings Fetch = true
brings Pop = true
brings A = true
brings o = false

-- `dup` and `over` push a copy
abbrev pub pushes : Op → Bool
pushes Dup = true
pushes Over = true
pushes o = brings o

-- an opcode takes a word from the data stack, and needs it
abbrev pub needs : Op → Bool
needs StoreP = true
needs StorePlus = true
needs StoreB = true
needs Store = true
needs Plus = true
needs And = true
needs Or = true
needs Push = true
needs BStore = true
needs AStore = true
needs o = false

-- `drop` takes a word too, and clears a stack that has none
abbrev pub takes : Op → Bool
takes Drop = true
takes o = needs o

abbrev pub is_pop : Op → Bool
is_pop Pop = true
is_pop o = false

-- a count behind an opcode by which it rises, or falls; it is ten at most, as a stack has room for
abbrev pub changed : ℕ → Bool → Bool → ℕ
changed count more fewer = if more then min 10 (count + 1) else if fewer then count - 1 else count

-- ---- the rules

-- how many words a node has pushed on the data stack since its entry; `or` leaves one, since
-- `dup or` makes 0 of any word
abbrev pub words_behind : ℕ → Op → ℕ
words_behind count Or = max (count - 1) 1
words_behind count o = changed count (pushes o) (takes o)

-- What a rule counts from the entry on: for that of `;` words that were pushed on the return stack,
-- for that of `@b` how often B was set, and else words on the data stack.
abbrev pub count_behind : WarningKind → ℕ → Op → ℕ
count_behind ReturnsNowhere count o = changed count (is_push o) (is_pop o)
count_behind ReadsIo count o = changed count (sets true o) false
count_behind kind count o = words_behind count o

abbrev pub is_return : Op → Bool
is_return Return = true
is_return o = false

abbrev pub is_fetch_b : Op → Bool
is_fetch_b FetchB = true
is_fetch_b o = false

-- An opcode is wrong with this number of words pushed: a new word has no room beside ten; an opcode
-- needs a word, and there is none; `;` returns, and nothing was pushed. And `@b` is wrong if B
-- wasn't set: it is the address of io after reset, and a read there stops the node.
abbrev pub is_wrong : WarningKind → ℕ → Op → Bool
is_wrong PushesTooMany count o = (count == 10) && brings o
is_wrong PopsTooMany count o = (count == 0) && needs o
is_wrong ReturnsNowhere count o = (count == 0) && is_return o
is_wrong ReadsIo count o = (count == 0) && is_fetch_b o
is_wrong kind count o = false

-- ---- the run

-- behind such an opcode the run may go elsewhere
abbrev pub ends_run : Op → Bool
ends_run o = is_unext o || ends_word o

-- one of these opcodes is wrong, up to the end of the run
abbrev pub has_wrong : WarningKind → ℕ → List Op → Bool
has_wrong kind count [] = false
has_wrong kind count (o ∷ ops) =
    is_wrong kind count o
    || (if ends_run o then false else has_wrong kind (count_behind kind count o) ops)

-- how many words were pushed behind these opcodes, if the run goes on behind them
abbrev pub count_after : WarningKind → ℕ → List Op → Option ℕ
count_after kind count [] = Some count
count_after kind count (o ∷ ops) =
    if ends_run o then None else count_after kind (count_behind kind count o) ops

-- the address of the first word with a wrong opcode, of these from an address on
abbrev pub first_wrong : WarningKind → ℕ → Option ℕ → List ItemView → Option ℕ
first_wrong kind address None items = None
first_wrong kind address (Some count) [] = None
first_wrong kind address (Some count) (Code reading ∷ items) =
    if has_wrong kind count reading.ops then Some address
    else first_wrong kind (suc address) (count_after kind count reading.ops) items
first_wrong kind address (Some count) (Follower word ∷ items) =
    first_wrong kind (suc address) (Some count) items
first_wrong kind address (Some count) (Data word ∷ items) = None

abbrev pub is_same : ℕ → Option ℕ → Bool
is_same address None = false
is_same address (Some other) = other == address

-- the word at an address is the first one of its node's straight run that has a wrong opcode
abbrev pub is_first_wrong : WarningKind → NodeView → ℕ → Bool
is_first_wrong kind node address =
    is_same address (first_wrong kind node.image.entry (Some 0) (drop node.image.entry node.words))
