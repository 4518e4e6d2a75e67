use Rattle.std.proofs.Common.{subst}
use Rattle.memchr.specs.Find.{IsFirstByte, is_byte}
use Rattle.ga_source.proofs.Lines.{lines_without_end}
use Rattle.ga_source.proofs.token.first_line.Goals as goal

pub returns-in-None : goal.returns-in-None
returns-in-None c =
    lines_without_end c.args.text.now
    (subst (IsFirstByte (is_byte 10) c.args.text.now) c.in-None.is c.memchr.ensures)
