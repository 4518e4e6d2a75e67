-- What each word of a node is, as far as the words alone determine it.
use Rattle.std.specs.Prelude.{ℕ, zero, suc, List, [], ◌∷◌}
use Rattle.ga_disasm.specs.declared.item.Item.{Item}
use Rattle.ga_disasm.specs.declared.item.Item.TheVariants as item
use Rattle.ga_pack.specs.Decoded.{Reading, reading_of}
use Rattle.ga_pack.specs.Followers.{followers}

pub data ItemView : Type 0 where
  -- a word that is code, with its reading
  Code : Reading → ItemView
  -- a follower of a word before it
  Follower : ℕ → ItemView
  -- a word behind the code part
  Data : ℕ → ItemView

-- an item as definitions have it
abbrev pub item_view : Item → ItemView
item_view (item.Code packed) =
    Code (record { ops = packed.ops.items; dest = packed.dest; spare = packed.spare })
item_view (item.Follower word) = Follower word
item_view (item.Data word) = Data word

-- The items of words, of which the first are code, behind a word that lacks a number of followers.
-- Each is code, followed by as many followers as it has, up to the end of the code part. The words
-- behind the code part are data.
unfoldable pub items_from : ℕ → ℕ → List ℕ → List ItemView
items_from owed left [] = []
items_from owed zero (word ∷ words) = Data word ∷ items_from owed zero words
items_from zero (suc left) (word ∷ words) =
    Code (reading_of word) ∷ items_from (followers (reading_of word).ops) left words
items_from (suc owed) (suc left) (word ∷ words) = Follower word ∷ items_from owed left words

-- the items of the words of a node, of which the first n are code
abbrev pub items_of : ℕ → List ℕ → List ItemView
items_of code_len words = items_from 0 code_len words
