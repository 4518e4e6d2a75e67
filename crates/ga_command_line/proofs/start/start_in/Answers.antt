use Rattle.std.proofs.Common.{◌∙◌, Option, codes, refl, subst, sym}
use Rattle.clap.specs.Words.{Text, found_of}
use Rattle.clap.proofs.WalkLemmas.{first_value-rows}
use Rattle.ga_command_line.specs.Start.{IsStartBy}
use Rattle.ga_profile.specs.declared.window.WindowStart.TheVariants.{LastNode}
use Rattle.ga_command_line.proofs.start.start_in.Goals as goal

pub returns-in_default-clause-start : goal.returns-in_default-clause-start
returns-in_default-clause-start c =
    subst (λ (text : Option Text). IsStartBy text LastNode)
    (c.in_default.ensures ∙ first_value-rows (found_of c.args.found.now) (codes "WHERE")) refl

pub returns-in-Some-start_named-clause-start : goal.returns-in-Some-start_named-clause-start
returns-in-Some-start_named-clause-start c =
    subst (λ (text : Option Text). IsStartBy text c.in-Some-start_named.start)
    (c.in-Some.ensures ∙ first_value-rows (found_of c.args.found.now) (codes "WHERE"))
    c.in-Some-start_named.ensures.named

pub returns-in-None-clause-right : goal.returns-in-None-clause-right
returns-in-None-clause-right c = λ start within is.
    absurd (c.in-None.ensures.none refl start within
    (subst (λ (text : Option Text). IsStartBy text start)
    (sym (c.in-Some.ensures ∙ first_value-rows (found_of c.args.found.now) (codes "WHERE"))) is))
