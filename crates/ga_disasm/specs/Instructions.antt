-- The items of a layout: what each word holds that a node's source items are laid as.
use Rattle.std.specs.Prelude.{ℕ, Bool, true, false, List, [], ◌∷◌, ◌++◌, length, map, Option, Some, None, if◌then◌else◌}
use Rattle.std.specs.Option.{unwrap_or}
use Rattle.ga_word.specs.declared.op.Op.{Op}
use Rattle.ga_pack.specs.Model.Layout.{Group, Labels, Alone, Shared, dest_in, last_dest, literals, value_number, ops_of, with_fillers}
use Rattle.ga_pack.specs.Model.Source as source
use Rattle.ga_disasm.specs.Disassembling.{ItemView, Code, Follower, Data}

-- a word of code with these opcodes, and fillers behind them
abbrev pub code : List Op → Option ℕ → ℕ → ItemView
code ops dest spare = Code (record { ops = with_fillers ops dest; dest = dest; spare = spare })

-- The items of the words of a group, in the code part or behind `data`. A shared word has the
-- opcodes of its source items, and the numbers among them follow it. A plain number, behind `,`, is
-- a follower in the code part, and data behind it.
abbrev pub group_items : Labels → Bool → Group → List ItemView
group_items labels in_data (Shared i is) =
    code (ops_of (i ∷ is)) (last_dest labels 0 (i ∷ is)) 0 ∷ map Follower (literals (i ∷ is))
group_items labels in_data (Alone (source.Word ops)) = code ops None 0 ∷ []
group_items labels in_data (Alone (source.WordTo ops o v spare)) =
    code (ops ++ o ∷ []) (Some (dest_in labels (length ops) v)) (unwrap_or spare 0) ∷ []
group_items labels in_data (Alone (source.Plain v)) =
    (if in_data then Data (value_number labels v) else Follower (value_number labels v)) ∷ []
group_items labels in_data (Alone i) = []

-- whether `data` comes before the end of a group
abbrev pub is_behind_data : Bool → Group → Bool
is_behind_data in_data (Alone source.Data) = true
is_behind_data in_data group = in_data

-- the items of the words of groups, behind `data` or in front of it
abbrev pub items_in : Labels → Bool → List Group → List ItemView
items_in labels in_data [] = []
items_in labels in_data (group ∷ groups) =
    group_items labels in_data group ++ items_in labels (is_behind_data in_data group) groups

-- the items that the groups of a node name, with its labels
unfoldable pub named_items : Labels → List Group → List ItemView
named_items labels groups = items_in labels false groups
