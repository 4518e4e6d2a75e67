-- Which words of a node its execution comes to by its own code.
use Rattle.std.specs.Prelude.{◌==◌, ◌&&◌, ◌||◌, ℕ, suc, Bool, true, false, not, List, [], ◌∷◌, take}
use Rattle.std.specs.List.{list_any, slice_get}
use Rattle.std.specs.Option.{option_map_or}
use Rattle.std.specs.Str.{bytes_eq}
use Rattle.ga_disasm.specs.Disassembling.{ItemView, Code, Follower, Data}
use Rattle.ga_lint.specs.NodeView.{NodeView, dest_in, lands}
use Rattle.ga_pack.specs.Model.Source.{Value, Number, Label, Item, Transfer, WordTo, Plain}
use Rattle.ga_place.specs.declared.address.Where.{Where}
use Rattle.ga_place.specs.declared.address.Where.TheVariants.{Ram}
use Rattle.ga_word.specs.declared.op.Op.{Op}
use Rattle.ga_word.specs.declared.op.Op.TheVariants.{Return, Execute, Jump, FetchB, BStore}
use Rattle.ga_word.specs.Op.{ends_word}

-- ---- names

abbrev pub names_label : List ℕ → Value → Bool
names_label name (Number n) = false
names_label name (Label s) = bytes_eq name s

-- an item uses the name of a label, as a destination or as a plain word
abbrev pub uses : List ℕ → Item → Bool
uses name (Transfer o v) = names_label name v
uses name (WordTo ops o v spare) = names_label name v
uses name (Plain v) = names_label name v
uses name i = false

abbrev pub is_used : List Item → List ℕ → Bool
is_used items name = list_any (uses name) items

-- ---- where runs begin

abbrev pub is_word : ℕ → Where → Bool
is_word address (Ram at) = at == address
is_word address reached = false

-- one of these words, the first of which has this address, has a destination that means an address
abbrev pub is_target : ℕ → ℕ → List ItemView → Bool
is_target address at [] = false
is_target address at (item ∷ items) =
    option_map_or (λ dest. is_word address (lands dest)) (dest_in at item) false
    || is_target address (suc at) items

-- Execution begins at an address, or may go to it: it is the entry, a destination, or the address
-- of a label that is used.
abbrev pub is_start : NodeView → ℕ → Bool
is_start node address =
    (node.image.entry == address) || is_target address 0 node.words
    || list_any (λ label. (label.1 == address) && is_used node.items label.0) node.image.labels

-- ---- what goes on to the next word

abbrev pub sets_b : Op → Bool
sets_b BStore = true
sets_b o = false

abbrev pub sets_b_in : ItemView → Bool
sets_b_in (Code reading) = list_any sets_b reading.ops
sets_b_in item = false

-- Behind such an opcode the next word isn't run. B is the address of io until the node sets it, and
-- a read there stops the node.
abbrev pub is_last : Bool → Op → Bool
is_last has_b Return = true
is_last has_b Execute = true
is_last has_b Jump = true
is_last has_b FetchB = not has_b
is_last has_b o = false

-- execution goes on behind a word with these opcodes; the node sets B or doesn't
abbrev pub goes_on : Bool → List Op → Bool
goes_on has_b [] = true
goes_on has_b (o ∷ ops) = not (is_last has_b o) && (ends_word o || goes_on has_b ops)

-- execution comes to the end of these words, the first of which has an address, if it comes to that
-- one from before or not
abbrev pub comes_behind : NodeView → Bool → Bool → ℕ → List ItemView → Bool
comes_behind node has_b comes address [] = comes
comes_behind node has_b comes address (Code reading ∷ items) =
    comes_behind node has_b ((comes || is_start node address) && goes_on has_b reading.ops)
    (suc address) items
comes_behind node has_b comes address (Follower word ∷ items) =
    comes_behind node has_b comes (suc address) items
comes_behind node has_b comes address (Data word ∷ items) =
    comes_behind node has_b false (suc address) items

-- execution comes to an address from the word before it
abbrev pub comes_on : NodeView → ℕ → Bool
comes_on node address =
    comes_behind node (list_any sets_b_in node.words) false 0 (take address node.words)

-- ---- code

abbrev pub is_code : ItemView → Bool
is_code (Code reading) = true
is_code item = false

abbrev pub is_code_at : NodeView → ℕ → Bool
is_code_at node address = option_map_or is_code (slice_get node.words address) false
