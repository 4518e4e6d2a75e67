-- The first fault of a list of tokens.
use Rattle.std.specs.Prelude.{◌⊎◌, ◌≡◌, ℕ, Bool, true, false, List, [], ◌∷◌, ◌++◌, length, reverse, if◌then◌else◌}
use Rattle.ga_word.specs.Op.{takes_dest}
use Rattle.ga_pack.specs.Followers.{is_followed}
use Rattle.ga_pack.specs.Model.Token.{Token, op, number, label, node, node_name, align, data_part, open_mark, close_mark, comma, bad, end, is_node, is_reserved, meanings}
use Rattle.ga_pack.specs.Model.Source.{Section, Source}
use Rattle.ga_pack.specs.declared.error_kind.SourceErrorKind.{SourceErrorKind}
use Rattle.ga_pack.specs.declared.error_kind.SourceErrorKind.TheVariants.{BadToken, NumberRange, BadNode, DuplicateNode, DuplicateLabel, ReservedLabel, OpenBracket, BadWord, NoNode, Empty}

-- the last of these tokens is `node`
abbrev pub ends_in_node : List Token → Bool
ends_in_node [] = false
ends_in_node (t ∷ []) = is_node t
ends_in_node (t ∷ u ∷ ts) = ends_in_node (u ∷ ts)

-- These tokens are a whole text, or a text begins with them: what further tokens are written as
-- leads to its end. And behind a whole text one more `node` goes on, even where no node is left to
-- name.
unfoldable pub GoesOn : List Token → Type 0
GoesOn front =
    (((program : List Section) × Source front program)
    ⊎ ((texts : List (List ℕ)) × (program : List Section)
    × Source (front ++ meanings (ends_in_node front) texts) program))
    ⊎ ((text : List Token) × (program : List Section) × (front ≡ text ++ node ∷ [])
    × Source (text ++ end ∷ []) program)

-- ---- which kind a fault has: by its token, and by the tokens before it, the nearest one first

-- the nearest bracket is `[`
abbrev pub in_brackets : List Token → Bool
in_brackets [] = false
in_brackets (open_mark ∷ back) = true
in_brackets (close_mark ∷ back) = false
in_brackets (t ∷ back) = in_brackets back

-- `data` is nearer than `node`
abbrev pub in_data : List Token → Bool
in_data [] = false
in_data (data_part ∷ back) = true
in_data (node ∷ back) = false
in_data (t ∷ back) = in_data back

-- such a token needs a number or a name behind it
abbrev pub wants_value : Token → Bool
wants_value comma = true
wants_value (op o) = takes_dest o
wants_value _ = false

-- A malformed token has its own fault anywhere.

-- at a place for a node's name
abbrev pub name_fault : Token → SourceErrorKind
name_fault (bad k) = k
name_fault (node_name n) = DuplicateNode
name_fault _ = BadNode

-- in brackets
abbrev pub bracket_fault : Token → SourceErrorKind
bracket_fault (bad k) = k
bracket_fault open_mark = OpenBracket
bracket_fault end = OpenBracket
bracket_fault _ = BadWord

-- at a place for a destination or a plain word
abbrev pub value_fault : Token → SourceErrorKind
value_fault (bad k) = k
value_fault (number n) = NumberRange
value_fault _ = BadToken

-- at a place for a follower: what begins an item of the code part would be allowed there otherwise
abbrev pub owed_fault : Token → SourceErrorKind
owed_fault (op o) = if is_followed o then BadToken else BadWord
owed_fault (number n) = BadWord
owed_fault align = BadWord
owed_fault open_mark = BadWord
owed_fault _ = BadToken

-- The fault at a place for an item. In the code part the only reason for another fault is a missing
-- follower.
abbrev pub item_fault : Bool → Token → SourceErrorKind
item_fault in_data (bad k) = k
item_fault in_data node = Empty
item_fault in_data end = Empty
item_fault in_data (label s) = if is_reserved s then ReservedLabel else DuplicateLabel
item_fault true t = BadToken
item_fault false t = owed_fault t

unfoldable pub kind_at : List Token → Token → SourceErrorKind
kind_at [] (bad k) = k
kind_at [] _ = NoNode
kind_at (u ∷ back) t =
    if is_node u then name_fault t
    else if in_brackets (u ∷ back) then bracket_fault t
    else if wants_value u then value_fault t
    else item_fault (in_data (u ∷ back)) t

-- The first fault of a list of tokens: how many tokens are before it, and its kind. The tokens
-- before it are a prefix of a right text, and those up to it are not.
unfoldable pub SourceFault : List Token → ℕ → SourceErrorKind → Type 0
SourceFault ts at kind =
    (before : List Token) × (t : Token) × (rest : List Token) × (ts ≡ before ++ t ∷ rest)
    × (at ≡ length before)
    × GoesOn before × (GoesOn (before ++ t ∷ []) → ⊥) × (kind ≡ kind_at (reverse before) t)
