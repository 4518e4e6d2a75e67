use Rattle.std.proofs.Common.{sym, ap, ◌∙◌}
use Rattle.std.specs.Option.{option_map}
use Rattle.ga_pack.specs.Model.Token.{ranged}
use Rattle.ga_source.proofs.Hex.{hex_first}
use Rattle.ga_source.proofs.meaning.plain_meaning.Goals as goal

pub returns-in-Some-clause-value : goal.returns-in-Some-clause-value
returns-in-Some-clause-value c =
    c.ranged.ensures.value ∙ hex_first c.args.text.now c.in-Some.number
    (ap (option_map ranged) (sym c.in-Some.is) ∙ c.hex_numeral.ensures)
