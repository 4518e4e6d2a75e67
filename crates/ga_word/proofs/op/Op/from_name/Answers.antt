use Rattle.std.proofs.Common.{◌∙◌, ap, List, ℕ}
use Rattle.std.specs.Prelude.{find}
use Rattle.std.specs.Str.{bytes_eq}
use Rattle.std.proofs.lemmas.Option.{IfSome_then}
use Rattle.std.proofs.lemmas.Slice.Eq.{bytes_eq-Decides}
use Rattle.ga_word.specs.Op.{name_of, opcodes}
use Rattle.ga_word.proofs.Find.{find_passes}
use Rattle.ga_word.proofs.op.Op.from_name.Goals as goal

pub returns-clause-found : goal.returns-clause-found
returns-clause-found c =
    rw (c.from_bytes.ensures ∙ ap
    (λ (name : List ℕ). find (λ op. bytes_eq (name_of op) name) opcodes) c.as_bytes.ensures.value)
    (IfSome_then _ (find_passes (λ op. bytes_eq (name_of op) c.args.name.now) opcodes)
    (λ op. (bytes_eq-Decides (name_of op) c.args.name.now).0))
