-- What a token means, as the model has it.
use Rattle.std.specs.Prelude.{◌≤◌, length, Result, Ok, Err}
use Rattle.ga_pack.specs.declared.error_kind.SourceErrorKind.{SourceErrorKind}
use Rattle.ga_source.specs.declared.meaning.Meaning.{Meaning}
use Rattle.ga_source.specs.declared.meaning.Meaning.TheVariants as means
use Rattle.ga_pack.specs.Model.Token.{Token, op, number, name, label, node, node_name, align, data_part, open_mark, close_mark, comma, slash, bad}

abbrev pub meaning_of : Meaning → Token
meaning_of (means.Op o) = op o
meaning_of (means.Number n) = number n
meaning_of (means.Name s) = name s.now
meaning_of (means.Label s) = label s.now
meaning_of means.Node = node
meaning_of (means.NodeName n) = node_name n
meaning_of means.Align = align
meaning_of means.Data = data_part
meaning_of means.OpenMark = open_mark
meaning_of means.CloseMark = close_mark
meaning_of means.Comma = comma
meaning_of means.Slash = slash

-- the same of a token that may be malformed
abbrev pub token_of : Result Meaning SourceErrorKind → Token
token_of (Ok meaning) = meaning_of meaning
token_of (Err kind) = bad kind

-- a name in the token has at most sixteen bytes
abbrev pub IsShort : Token → Type 0
IsShort (name s) = length s ≤ 16
IsShort (label s) = length s ≤ 16
IsShort t = Unit {0}
