-- The tokens of a source text: what each is written as and means, and the faults that a text may
-- have.
use Rattle.std.specs.Prelude.{◌==◌, ◌&&◌, ◌||◌, ℕ, ◌/◌, ◌%◌, ◌^◌, Bool, true, false, List, [], ◌∷◌, ◌++◌, codes, find, length, nat_le, nat_lt, Option, Some, None, if◌then◌else◌}
use Rattle.std.specs.Char.{is_digit}
use Rattle.std.specs.List.{list_all}
use Rattle.std.specs.Option.{is_some, option_map, option_or, unwrap_or}
use Rattle.std.specs.Str.{bytes_eq}
use Rattle.std.specs.Str.Parse.{digits_value}
use Rattle.ga_word.specs.Op.{name_of, opcodes}
use Rattle.ga_word.specs.declared.op.Op.{Op}
use Rattle.ga_pack.specs.declared.error_kind.SourceErrorKind.{SourceErrorKind}
use Rattle.ga_pack.specs.declared.error_kind.SourceErrorKind.TheVariants as kind

-- how the fault of a text is named
abbrev pub source_kind_name : SourceErrorKind → List ℕ
source_kind_name kind.BadToken = codes "BadToken"
source_kind_name kind.NumberRange = codes "NumberRange"
source_kind_name kind.BadNode = codes "BadNode"
source_kind_name kind.DuplicateNode = codes "DuplicateNode"
source_kind_name kind.DuplicateLabel = codes "DuplicateLabel"
source_kind_name kind.ReservedLabel = codes "ReservedLabel"
source_kind_name kind.OpenBracket = codes "OpenBracket"
source_kind_name kind.BadWord = codes "BadWord"
source_kind_name kind.NoNode = codes "NoNode"
source_kind_name kind.Empty = codes "Empty"
source_kind_name kind.Memory = codes "Memory"

-- What a token means. The text's end is a token too, the last one.
pub data Token : Type 0 where
  op : Op → Token
  -- below 2 ^ 18
  number : ℕ → Token
  -- a name that is not reserved
  name : List ℕ → Token
  -- a name, reserved or not, in front of `:`
  label : List ℕ → Token
  node : Token
  -- behind `node`: three digits that name a node
  node_name : ℕ → Token
  align : Token
  data_part : Token
  open_mark : Token
  close_mark : Token
  comma : Token
  slash : Token
  -- malformed, with its fault
  bad : SourceErrorKind → Token
  end : Token

abbrev pub is_node : Token → Bool
is_node node = true
is_node _ = false

-- ---- what each token is written as

-- an opcode by its name
abbrev pub as_op : List ℕ → Option Token
as_op text = option_map op (find (λ o. bytes_eq (name_of o) text) opcodes)

-- the numbers that have a name: the ports of one side, io, the port of all sides, and the warm word
abbrev pub number_named : List ℕ → Option ℕ
number_named text =
    let names : List (List ℕ × ℕ) =
    (codes "right", 0x1D5) ∷ (codes "down", 0x115) ∷ (codes "left", 0x175) ∷ (codes "up", 0x145) ∷
    (codes "io", 0x15D) ∷ (codes "rdlu", 0x1A5) ∷ (codes "warm", 0x0A9) ∷ [] in
    option_map (λ entry. entry.1) (find (λ entry. bytes_eq entry.0 text) names)

-- the words and the marks
abbrev pub fixed : List (List ℕ × Token)
fixed =
    (codes "node", node) ∷ (codes "align", align) ∷ (codes "data", data_part) ∷
    (codes "[", open_mark) ∷ (codes "]", close_mark) ∷ (codes ",", comma) ∷ (codes "/", slash) ∷ []

abbrev pub as_fixed : List ℕ → Option Token
as_fixed text = option_map (λ entry. entry.1) (find (λ entry. bytes_eq entry.0 text) fixed)

-- the number that one to eight digits write
abbrev pub numeral : ℕ → List ℕ → Option ℕ
numeral radix digits =
    if nat_le 1 (length digits) && nat_le (length digits) 8
    && list_all (λ c. is_digit c radix) digits
    then Some (digits_value radix digits) else None

-- the number that a numeral writes, if a word holds it
abbrev pub ranged : ℕ → Token
ranged n = if nat_lt n (2 ^ 18) then number n else bad kind.NumberRange

-- `$` and hex digits of either case
abbrev pub as_hex : List ℕ → Option Token
as_hex [] = None
as_hex (c ∷ digits) = if c == 36 then option_map ranged (numeral 16 digits) else None

-- an ASCII letter or `_`
abbrev pub is_letter : ℕ → Bool
is_letter c = (nat_le 65 c && nat_le c 90) || (nat_le 97 c && nat_le c 122) || (c == 95)

abbrev pub is_letter_or_digit : ℕ → Bool
is_letter_or_digit c = is_letter c || is_digit c 10

-- one to sixteen letters and digits, the first no digit
abbrev pub is_name : List ℕ → Bool
is_name [] = false
is_name (c ∷ cs) = is_letter c && nat_lt (length cs) 16 && list_all is_letter_or_digit cs

abbrev pub as_name : List ℕ → Option Token
as_name text = if is_name text then Some (name text) else None

-- a name and `:`, with the given bytes before the others
abbrev pub label_from : List ℕ → List ℕ → Option Token
label_from front [] = None
label_from front (c ∷ []) = if (c == 58) && is_name front then Some (label front) else None
label_from front (c ∷ d ∷ cs) = label_from (front ++ c ∷ []) (d ∷ cs)

abbrev pub as_label : List ℕ → Option Token
as_label text = label_from [] text

-- The names of opcodes and numbers, `node`, `align` and `data` are no names of labels.
unfoldable pub is_reserved : List ℕ → Bool
is_reserved text = is_some (as_op text) || is_some (number_named text) || is_some (as_fixed text)

-- What a token means that is no name of a node. Only a name may be written as something else too:
-- it is reserved then.
unfoldable pub meaning_of : List ℕ → Token
meaning_of text =
    unwrap_or
    (option_or (as_op text) (option_or (option_map number (number_named text))
    (option_or (as_fixed text) (option_or (option_map ranged (numeral 10 text))
    (option_or (as_hex text) (option_or (as_label text) (as_name text)))))))
    (bad kind.BadToken)

-- three digits: a row from 0 to 7 and a column from 00 to 17
abbrev pub as_node : List ℕ → Option Token
as_node text =
    if (length text == 3) && list_all (λ c. is_digit c 10) text
    && (nat_lt (digits_value 10 text / 100) 8 && nat_lt (digits_value 10 text % 100) 18)
    then Some (node_name (digits_value 10 text)) else None

-- what a token means that is behind `node` or not
unfoldable pub meaning_at : Bool → List ℕ → Token
meaning_at true text = unwrap_or (as_node text) (meaning_of text)
meaning_at false text = meaning_of text

-- the tokens of a text, from what they are written as; the first is behind `node` or not
unfoldable pub meanings : Bool → List (List ℕ) → List Token
meanings behind [] = end ∷ []
meanings behind (text ∷ texts) =
    meaning_at behind text ∷ meanings (is_node (meaning_at behind text)) texts
