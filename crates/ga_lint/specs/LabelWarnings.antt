-- The warnings about the labels of a node.
use Rattle.std.specs.Prelude.{◌==◌, ◌&&◌, ℕ, suc, Bool, false, List, [], ◌∷◌, ◌++◌, codes, length, nat_lt, if◌then◌else◌}
use Rattle.std.specs.List.{position_from}
use Rattle.std.specs.Option.{option_map_or}
use Rattle.std.specs.Str.{bytes_eq}
use Rattle.ga_lint.specs.DeadCode.{is_dead}
use Rattle.ga_lint.specs.NodeView.{NodeView}
use Rattle.ga_lint.specs.StraightRun.{is_same}
use Rattle.ga_lint.specs.Warning.{warning_at}
use Rattle.ga_lint.specs.declared.warning.Warning.{Warning}
use Rattle.ga_lint.specs.declared.warning.WarningKind.TheVariants.{OverMemory, UnusedLabel}
use Rattle.ga_pack.specs.Model.Layout.{address_of}
use Rattle.ga_pack.specs.Model.Program.{place_at}
use Rattle.ga_pack.specs.Model.Source.{Item, Here}

-- an item is a label with this address
abbrev pub is_label_at : NodeView → ℕ → Item → Bool
is_label_at node address (Here s) = is_same address (address_of node.image.labels s)
is_label_at node address i = false

-- those about the labels of an address, of items of which the first has a number
abbrev pub label_warnings : ℕ → NodeView → ℕ → ℕ → List Item → List Warning
label_warnings name node address at [] = []
label_warnings name node address at (item ∷ items) =
    (if is_label_at node address item
    then warning_at name (place_at node.item_places at) UnusedLabel ∷ [] else [])
    ++ label_warnings name node address (suc at) items

-- A label is unused if no execution comes to its address, by a name or from the word before it. A
-- label to which execution comes from there may serve as a mark, for sessions and for readers.
abbrev pub unused_labels : ℕ → NodeView → ℕ → List Warning
unused_labels name node address =
    if is_dead node address then label_warnings name node address 0 node.items else []

abbrev pub is_main : Item → Bool
is_main (Here s) = bytes_eq (codes "main") s
is_main i = false

-- The node begins behind its words, at the label `main`. Behind 64 words that would be the first
-- one again.
abbrev pub entry_warnings : ℕ → NodeView → List Warning
entry_warnings name node =
    if (node.image.entry == length node.words) && nat_lt node.image.entry 64
    then option_map_or (λ at. warning_at name (place_at node.item_places at) OverMemory ∷ [])
    (position_from is_main 0 node.items) [] else []
