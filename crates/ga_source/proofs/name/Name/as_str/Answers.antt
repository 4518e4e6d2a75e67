use Rattle.std.proofs.Common.{subst, sym, take}
use Rattle.std.proofs.lemmas.Str.{IsUtf8-had}
use Rattle.std.specs.Prelude.{IsUtf8}
use Rattle.ga_source.proofs.name.Name.as_str.Goals as goal

pub from_utf8_unchecked-requires : goal.from_utf8_unchecked-requires
from_utf8_unchecked-requires c =
    let name = c.self.inside in
    subst (λ n. IsUtf8 (take n name.cells)) (sym c.from.ensures)
    (IsUtf8-had (take name.len name.cells) c.self.invariant.2)
