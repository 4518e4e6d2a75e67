-- Source texts that were worked out by hand.
use Rattle.std.proofs.Common.{◌≡◌, ℕ, true, false, List, [], ◌∷◌, ◌++◌, Some, None, drop, refl, reverse}
use Rattle.std.specs.Prelude.{codes}
use Rattle.ga_word.specs.declared.op.Op.TheVariants.{Dup, FetchP, Jump}
use Rattle.ga_pack.specs.Model.Text.{Place, end_of, lexemes, places_of, texts_of}
use Rattle.ga_pack.specs.Model.Token.{Token, op, number, name, label, node, node_name, data_part, open_mark, close_mark, comma, bad, end, is_reserved, meaning_at, meaning_of, meanings}
use Rattle.ga_pack.specs.Model.Source.{Instruction, Transfer, Word, Plain, Number, Label, Here, Data, Source, Items, Sections, Code, Behind, is_item, part_after}
use Rattle.ga_pack.specs.Model.SourceFault.{kind_at}
use Rattle.ga_pack.specs.Model.Program.{IsProgram, placed_items, placed_sections, tokens_of}
use Rattle.ga_pack.specs.declared.error_kind.SourceErrorKind.{SourceErrorKind}
use Rattle.ga_pack.specs.declared.error_kind.SourceErrorKind.TheVariants.{BadToken, NumberRange, BadNode, DuplicateNode, DuplicateLabel, ReservedLabel, OpenBracket, BadWord, NoNode, Empty}

-- ---- tokens

-- two lines, a comment in the first
abbrev two_lines : List ℕ
two_lines = codes "node 000 \\ x y" ++ 10 ∷ codes " dup  jump z"

abbrev at : ℕ → ℕ → Place
at line column = record { line = line; column = column }

two_lines-lexemes : lexemes two_lines
    ≡ record { place = at 1 1; start = 0; text = codes "node" }
    ∷ record { place = at 1 6; start = 5; text = codes "000" }
    ∷ record { place = at 2 2; start = 16; text = codes "dup" }
    ∷ record { place = at 2 7; start = 21; text = codes "jump" }
    ∷ record { place = at 2 12; start = 26; text = codes "z" }
    ∷ []
unfolding lexemes
two_lines-lexemes = refl

two_lines-end : end_of two_lines ≡ at 2 13
unfolding end_of
two_lines-end = refl

-- columns count characters: a byte order mark, and a character of two bytes before `dup` and a tab
marked-places : places_of (0xEF ∷ 0xBB ∷ 0xBF ∷ codes "node " ++ 0xC3 ∷ 0xA9 ∷ 9 ∷ codes "dup" ++ 13
    ∷ 10 ∷ []) ≡ at 1 1 ∷ at 1 7 ∷ at 1 9 ∷ at 2 1 ∷ []
unfolding places_of lexemes end_of
marked-places = refl

-- an empty text has one token, its end
empty-tokens : tokens_of [] ≡ end ∷ []
unfolding tokens_of texts_of lexemes meanings
empty-tokens = refl

-- ---- meanings

-- names differ by case, and `dup` is reserved
lower_and_upper_case : (meaning_of (codes "DUP") ≡ name (codes "DUP"))
    × (meaning_of (codes "DUP:") ≡ label (codes "DUP"))
    × (meaning_of (codes "dup:") ≡ label (codes "dup"))
    × (is_reserved (codes "dup") ≡ true)
    × (is_reserved (codes "DUP") ≡ false)
unfolding meaning_of is_reserved
lower_and_upper_case = (refl, refl, refl, refl, refl)

-- sixteen letters are a name, seventeen none; a number has eight digits at most, and fits a word;
-- hex digits are of either case
names_and_numbers : (meaning_of (codes "abcdefghijklmnop") ≡ name (codes "abcdefghijklmnop"))
    × (meaning_of (codes "abcdefghijklmnopq") ≡ bad BadToken)
    × (meaning_of (codes "000000001") ≡ bad BadToken)
    × (meaning_of (codes "00262143") ≡ number 0x3_FFFF)
    × (meaning_of (codes "262144") ≡ bad NumberRange)
    × (meaning_of (codes "$3fFfF") ≡ number 0x3_FFFF)
    × (meaning_of (codes "$") ≡ bad BadToken)
unfolding meaning_of
names_and_numbers = (refl, refl, refl, refl, refl, refl, refl)

-- 17 is a column, 18 is none
nodes : (meaning_at true (codes "717") ≡ node_name 717)
    × (meaning_at true (codes "018") ≡ number 18)
unfolding meaning_at meaning_of
nodes = (refl, refl)

-- ---- programs

two_lines-program : IsProgram two_lines (record {
  name = 0;
  items = record { item = Instruction Dup; place = at 2 2; name_place = None } ∷ record
      { item = Transfer Jump (Label (codes "z")); place = at 2 7; name_place = Some (at 2 12) } ∷
      [];
} ∷ [])
unfolding IsProgram tokens_of texts_of places_of lexemes end_of meanings meaning_at meaning_of
    Source Sections Items is_item part_after placed_sections placed_items
two_lines-program = (
  record { name = 0; items = Instruction Dup ∷ Transfer Jump (Label (codes "z")) ∷ [] } ∷ [],
  (refl, (refl, (Code 0, refl, refl, refl, (Code 0, refl, refl, refl, refl)), tt)),
  refl,
)

-- a bracketed word, a label, its follower, and a datum
followed : tokens_of (codes "node 717 [ @p ] x: , 5 data , x") ≡ node ∷ node_name 717 ∷ open_mark
    ∷ op FetchP ∷ close_mark ∷ label (codes "x") ∷ comma ∷ number 5 ∷ data_part ∷ comma
    ∷ name (codes "x") ∷ end ∷ []
unfolding tokens_of texts_of lexemes meanings meaning_at meaning_of
followed = refl

followed-source : Source (node ∷ node_name 717 ∷ open_mark ∷ op FetchP ∷ close_mark ∷ label
    (codes "x") ∷ comma ∷ number 5 ∷ data_part ∷ comma ∷ name (codes "x") ∷ end ∷ []) (record {
      name = 717;
      items = Word (FetchP ∷ []) ∷ Here (codes "x") ∷ Plain (Number 5) ∷ Data
          ∷ Plain (Label (codes "x")) ∷ [];
    } ∷ [])
unfolding Source Sections Items is_item is_reserved part_after
followed-source = (
  refl,
  (
    refl,
    (
      Code 1,
      refl,
      refl,
      refl,
      (
        Code 1,
        refl,
        refl,
        refl,
        (
          Code 0,
          refl,
          refl,
          refl,
          (Behind, refl, refl, refl, (Behind, refl, refl, refl, refl)),
        ),
      ),
    ),
    tt,
  ),
)

-- ---- the kinds of faults that have these places

abbrev kind_of_first : List Token → SourceErrorKind
kind_of_first [] = NoNode
kind_of_first (t ∷ back) = kind_at back t

-- at the last token of a text, and at its end
kind_at_last : List ℕ → SourceErrorKind
kind_at_last text = kind_of_first (drop 1 (reverse (tokens_of text)))

kind_at_end : List ℕ → SourceErrorKind
kind_at_end text = kind_of_first (reverse (tokens_of text))

-- Each fault once, and those of a token that depend on the tokens before it.
kinds-at_last : (kind_at_last (codes "dup") ≡ NoNode)
    × (kind_at_last (codes "]") ≡ NoNode)
    × (kind_at_last (codes "/") ≡ NoNode)
    × (kind_at_last (codes "node 820") ≡ BadNode)
    × (kind_at_last (codes "node 8") ≡ BadNode)
    × (kind_at_last (codes "node $008") ≡ BadNode)
    × (kind_at_last (codes "node #") ≡ BadToken)
    × (kind_at_last (codes "node 999999") ≡ NumberRange)
    × (kind_at_last (codes "node 008 dup node 008") ≡ DuplicateNode)
    × (kind_at_last (codes "node 000 x: x:") ≡ DuplicateLabel)
    × (kind_at_last (codes "node 000 dup:") ≡ ReservedLabel)
    × (kind_at_last (codes "node 000 [ [") ≡ OpenBracket)
    × (kind_at_last (codes "node 000 [ dup dup dup drop") ≡ BadWord)
    × (kind_at_last (codes "node 000 [ ]") ≡ BadWord)
    × (kind_at_last (codes "node 000 [ node") ≡ BadWord)
    × (kind_at_last (codes "node 000 [ jump $400") ≡ BadWord)
    × (kind_at_last (codes "node 000 $40000") ≡ NumberRange)
    × (kind_at_last (codes "node 000 jump $400") ≡ NumberRange)
    × (kind_at_last (codes "node 000 #") ≡ BadToken)
    × (kind_at_last (codes "node 000 ]") ≡ BadToken)
    × (kind_at_last (codes "node 000 @p") ≡ BadToken)
    × (kind_at_last (codes "node 000 foo") ≡ BadToken)
    × (kind_at_last (codes "node 000 DUP") ≡ BadToken)
    × (kind_at_last (codes "node 000 ,") ≡ BadToken)
    × (kind_at_last (codes "node 000 jump dup") ≡ BadToken)
    × (kind_at_last (codes "node 000 jump [") ≡ BadToken)
    × (kind_at_last (codes "node 000 [ @p ] dup") ≡ BadWord)
    × (kind_at_last (codes "node 000 [ @p ] 5") ≡ BadWord)
    × (kind_at_last (codes "node 000 [ @p ] align") ≡ BadWord)
    × (kind_at_last (codes "node 000 [ @p ] [") ≡ BadWord)
    × (kind_at_last (codes "node 000 [ @p ] jump") ≡ BadWord)
    × (kind_at_last (codes "node 000 [ @p ] foo") ≡ BadToken)
    × (kind_at_last (codes "node 000 [ @p ] @p") ≡ BadToken)
    × (kind_at_last (codes "node 000 . data 5") ≡ BadToken)
    × (kind_at_last (codes "node 000 . data align") ≡ BadToken)
    × (kind_at_last (codes "node 000 x: node") ≡ Empty)
unfolding kind_at_last kind_at tokens_of texts_of lexemes meanings meaning_at meaning_of is_reserved
kinds-at_last = (
  refl,
  refl,
  refl,
  refl,
  refl,
  refl,
  refl,
  refl,
  refl,
  refl,
  refl,
  refl,
  refl,
  refl,
  refl,
  refl,
  refl,
  refl,
  refl,
  refl,
  refl,
  refl,
  refl,
  refl,
  refl,
  refl,
  refl,
  refl,
  refl,
  refl,
  refl,
  refl,
  refl,
  refl,
  refl,
  refl,
)

kinds-at_end : (kind_at_end [] ≡ NoNode)
    × (kind_at_end (codes "node 000 [ dup") ≡ OpenBracket)
    × (kind_at_end (codes "node 000") ≡ Empty)
    × (kind_at_end (codes "node 000 x: data") ≡ Empty)
    × (kind_at_end (codes "node") ≡ BadNode)
    × (kind_at_end (codes "node 000 jump") ≡ BadToken)
    × (kind_at_end (codes "node 000 [ @p ] ,") ≡ BadToken)
unfolding kind_at_end kind_at tokens_of texts_of lexemes meanings meaning_at meaning_of is_reserved
kinds-at_end = (refl, refl, refl, refl, refl, refl, refl)
