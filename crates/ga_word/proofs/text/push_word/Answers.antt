use Rattle.std.proofs.Common.{IsUtf8, subst, sym}
use Rattle.ga_word.proofs.TextLists.{each_digit, utf8_word}
use Rattle.ga_word.proofs.text.push_word.Goals as goal

pub from_utf8_unchecked-requires : goal.from_utf8_unchecked-requires
from_utf8_unchecked-requires c =
    subst IsUtf8 (sym (each_digit c.hex5.result c.args.word c.args.end c.hex5.ensures.text))
    (utf8_word c.args.word c.args.end c.requires)
