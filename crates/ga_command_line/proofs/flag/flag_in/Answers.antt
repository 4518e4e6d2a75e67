use Rattle.std.proofs.Common.{◌∙◌, false, ap, codes}
use Rattle.std.specs.Option.{option_map_or}
use Rattle.std.specs.Str.{bytes_eq}
use Rattle.clap.specs.Words.{found_of}
use Rattle.clap.proofs.WalkLemmas.{first_value-rows}
use Rattle.ga_command_line.proofs.flag.flag_in.Goals as goal

pub returns-in-Some : goal.returns-in-Some
returns-in-Some c =
    c.eq.ensures
    ∙ ap (λ o. option_map_or (λ text. bytes_eq text (codes "true")) o false)
    (c.in-Some.ensures ∙ first_value-rows (found_of c.args.found.now) c.args.id.now)

pub returns-in-None : goal.returns-in-None
returns-in-None c =
    ap (λ o. option_map_or (λ text. bytes_eq text (codes "true")) o false)
    (c.in-None.ensures ∙ first_value-rows (found_of c.args.found.now) c.args.id.now)
