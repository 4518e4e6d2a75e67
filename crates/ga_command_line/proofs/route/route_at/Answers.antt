use Rattle.std.proofs.Common.{◌≡◌, ◌∙◌, None, Some, ap, codes, sym}
use Rattle.clap.specs.Words.{found_of}
use Rattle.clap.proofs.WalkLemmas.{first_value-rows}
use Rattle.ga_command_line.proofs.route.route_at.Goals as goal

pub returns-in_ok-from_str-in-Some-clause-route : goal.returns-in_ok-from_str-in-Some-clause-route
returns-in_ok-from_str-in-Some-clause-route c =
    sym (first_value-rows (found_of c.args.found.now) (codes "ROUTE")) ∙ sym c.in-Some.ensures
    ∙ ap Some (sym c.in_ok-from_str-in-Some.ensures.ok)

pub returns-in-None-clause-right : goal.returns-in-None-clause-right
returns-in-None-clause-right c = λ route is.
    let there : None ≡ Some route =
    c.in-None.ensures ∙ first_value-rows (found_of c.args.found.now) (codes "ROUTE") ∙ is in
    absurd (cc)
