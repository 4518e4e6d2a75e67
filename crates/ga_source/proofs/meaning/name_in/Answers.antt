use Rattle.std.proofs.Common.{◌≤◌, ◌∙◌, length, sym, subst}
use Rattle.ga_source.proofs.Names.{name-IsUtf8, name_fits, name_read}
use Rattle.ga_source.proofs.meaning.name_in.Goals as goal

pub from_utf8_unchecked-requires : goal.from_utf8_unchecked-requires
from_utf8_unchecked-requires c =
    name-IsUtf8 c.args.text.now (sym c.is_name.ensures ∙ c.if-not-is_name.false)

pub returns-clause-value : goal.returns-clause-value
returns-clause-value c =
    name_read c.args.text.now c.from_utf8_unchecked.result.now
    (sym c.is_name.ensures ∙ c.if-not-is_name.false) c.from_utf8_unchecked.ensures

pub returns-clause-short : goal.returns-clause-short
returns-clause-short c =
    subst (λ t. length t ≤ 16) (sym c.from_utf8_unchecked.ensures)
    (name_fits c.args.text.now (sym c.is_name.ensures ∙ c.if-not-is_name.false))
