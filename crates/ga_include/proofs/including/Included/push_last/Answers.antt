use Rattle.std.proofs.Common.{◌≡◌, true, rules}
use Rattle.std.proofs.lemmas.Result.{IfErr-weaker, on_ok_weaker}
use Rattle.ga_include.specs.IncludeLine.{is_include}
use Rattle.ga_include.specs.Including.{file_items, last_items, whole_of}
use Rattle.ga_include.specs.inner.Adding.{Fails, scope_of}
use Rattle.ga_include.proofs.Opening.{last_added, last_failed, still_fails}
use Rattle.ga_include.proofs.including.Included.push_last.Goals as goal

pub returns-in_err-push_include-clause-trouble : goal.returns-in_err-push_include-clause-trouble
returns-in_err-push_include-clause-trouble c =
    let inner = file_items c.args.scope.now.left in
    let scope = scope_of c.args.scope.now in
    let include : is_include c.args.line.now ≡ true = search rules in
    let fault : Fails c.args.self.now (last_items inner scope c.args.origin c.args.line.now)
    c.in_err-push_include.field-0.0 =
    still_fails c.args.self.now _ c.args.self.now _ c.in_err-push_include.field-0.0
    (λ trouble h. last_failed inner scope c.args.origin c.args.line.now (whole_of c.args.self.now)
    trouble include h) c.in_err-push_include.ensures.trouble in
    search (rules, fault)

pub returns-in_ok-push_include-clause-added : goal.returns-in_ok-push_include-clause-added
returns-in_ok-push_include-clause-added c =
    let include : is_include c.args.line.now ≡ true = search rules in
    on_ok_weaker c.push_text.result (λ h.
    last_added (file_items c.args.scope.now.left) (scope_of c.args.scope.now) c.args.origin
    c.args.line.now (whole_of c.args.self.now) (whole_of c.push_include.new.self) _ include
    c.in_ok-push_include.ensures.added h) c.push_text.ensures.added

pub returns-in_ok-push_include-clause-trouble : goal.returns-in_ok-push_include-clause-trouble
returns-in_ok-push_include-clause-trouble c =
    let include : is_include c.args.line.now ≡ true = search rules in
    IfErr-weaker c.push_text.result _ _ (λ error.
    still_fails c.push_include.new.self _ c.args.self.now _ error (λ trouble h.
    last_added (file_items c.args.scope.now.left) (scope_of c.args.scope.now) c.args.origin
    c.args.line.now (whole_of c.args.self.now) (whole_of c.push_include.new.self) _ include
    c.in_ok-push_include.ensures.added h)) c.push_text.ensures.trouble
