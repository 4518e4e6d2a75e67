-- Code to which no execution comes.
use Rattle.std.specs.Prelude.{◌==◌, ◌&&◌, ℕ, suc, Bool, false, not, List, [], ◌∷◌, Option, Some, None, take}
use Rattle.std.specs.List.{list_any}
use Rattle.std.specs.Option.{option_map_or}
use Rattle.ga_disasm.specs.Disassembling.{ItemView, Code}
use Rattle.ga_lint.specs.DeadCode.{is_dead}
use Rattle.ga_lint.specs.NodeView.{NodeView}

-- the address of the last word of code among words, of which the first has an address, or one that
-- was found before
abbrev pub last_code : Option ℕ → ℕ → List ItemView → Option ℕ
last_code found at [] = found
last_code found at (Code reading ∷ items) = last_code (Some at) (suc at) items
last_code found at (item ∷ items) = last_code found (suc at) items

abbrev pub has_label : NodeView → ℕ → Bool
has_label node address = list_any (λ label. label.1 == address) node.image.labels

-- no execution comes to the last word of code before an address
abbrev pub is_dead_before : NodeView → ℕ → Bool
is_dead_before node address =
    option_map_or (is_dead node) (last_code None 0 (take address node.words)) false

-- No execution comes to the word at an address, but to the code before it. The word has no label: a
-- label there is unused.
abbrev pub unreachable : NodeView → ℕ → Bool
unreachable node address =
    is_dead node address && not (has_label node address) && not (is_dead_before node address)
