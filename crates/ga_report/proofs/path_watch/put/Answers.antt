use Rattle.std.proofs.Common.{◌≡◌, ◌∙◌, ◌==◌, Bool, ap, get_or, length, length-set, set, sym}
use Rattle.std.specs.Prelude.{None, Some, if◌then◌else◌}
use Rattle.ga_report.specs.declared.trail.Trail.{Trail}
use Rattle.ga_report.specs.inner.Trails.{NO_TRAIL}
use Rattle.ga_report.proofs.Following.{either_mark, marked, or_none, put_one}
use Rattle.ga_report.proofs.path_watch.put.Goals as goal

pub returns-in-Some-clause-kept : goal.returns-in-Some-clause-kept
returns-in-Some-clause-kept c mark within =
    let old = c.args.trails.now.items in
    let new = c.args.new.now in
    let own = c.step_mark.result in
    let port = c.in-Some.mark in
    let all : length (set old own new) ≡ 1296 = length-set old own new ∙ c.requires in
    put_one (set old own new) port mark new all c.in-Some.ensures.bound
    ∙ ap (λ (t : Trail). if port == mark then new else t)
    (put_one old own mark new c.requires c.step_mark.ensures.bound)
    ∙ either_mark (own == mark) (port == mark) new (get_or old mark NO_TRAIL)
    ∙ sym (ap (λ (b : Bool). if b then new else get_or old mark NO_TRAIL)
    (marked mark own c.args.step.now (Some port) (sym c.step_mark.ensures.value)
    (sym c.in-Some.ensures.value)))

pub returns-in_default-clause-kept : goal.returns-in_default-clause-kept
returns-in_default-clause-kept c mark within =
    let old = c.args.trails.now.items in
    let new = c.args.new.now in
    let own = c.step_mark.result in
    put_one old own mark new c.requires c.step_mark.ensures.bound
    ∙ sym (ap (λ (b : Bool). if b then new else get_or old mark NO_TRAIL)
    (marked mark own c.args.step.now None (sym c.step_mark.ensures.value)
    (sym c.port_mark.ensures.value ∙ c.in_default.is) ∙ or_none (own == mark)))
