-- The words of memory of the path, as text.
use Rattle.std.specs.Prelude.{ℕ, ◌==◌, Option, List, [], ◌∷◌, ◌++◌, codes, length, if◌then◌else◌}
use Rattle.std.specs.Fmt.{decimal}
use Rattle.std.specs.List.{concat, flat_map}
use Rattle.ga_place.specs.Node.{node_text}
use Rattle.ga_asm.specs.Image.{ImageView}
use Rattle.ga_profile.specs.declared.alike.LineGroup.{LineGroup}
use Rattle.ga_profile.specs.Code.{code_of, unloaded_text}
use Rattle.ga_profile.specs.Share.{cell, share_of, share_text}

-- how many other words are in a group, each of another node
abbrev pub others_text : ℕ → List ℕ
others_text others = if others == 0 then codes "   " else codes " +" ++ decimal others

-- The word of a line as it was loaded; or else its address, or a dot for code that isn't in memory.
abbrev pub word_text : List (ℕ × ImageView) → ℕ → Option ℕ → List ℕ
word_text images name word =
    if length (code_of images name word) == 0 then unloaded_text images name word
    else code_of images name word

-- a group of lines, by the share of the turns that it has on the path
unfoldable pub group_row : List (ℕ × ImageView) → ℕ → LineGroup → List ℕ
group_row images turns group =
    let first = group.first in
    concat (cell 4 (share_text (share_of first.turns turns)) ∷ cell 6 (node_text first.node)
    ∷ others_text group.others ∷ word_text images first.node first.word ∷ [])

unfoldable pub groups_text : List (ℕ × ImageView) → List LineGroup → ℕ → List ℕ
groups_text images groups turns =
    codes "path  node     word  where the path goes\n" ++ flat_map (group_row images turns) groups
