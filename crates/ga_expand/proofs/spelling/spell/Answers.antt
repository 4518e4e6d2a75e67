use Rattle.std.proofs.Common.{◌∙◌, Ok, ap, sym}
use Rattle.ga_expand.specs.inner.Constants.{constants_in}
use Rattle.ga_expand.proofs.PlainTexts.{plain_word}
use Rattle.ga_expand.proofs.spelling.spell.Goals as goal

pub returns-then-is_plain : goal.returns-then-is_plain
returns-then-is_plain c =
    ap Ok c.spell_plain.ensures
    ∙ sym (plain_word (constants_in c.args.constants.now.values.entries) c.args.text.now
    (sym c.is_plain.ensures ∙ c.if-is_plain.true))
