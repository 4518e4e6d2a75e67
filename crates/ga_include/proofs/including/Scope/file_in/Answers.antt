use Rattle.std.proofs.Common.{◌∙◌, ap, string_bytes}
use Rattle.std.proofs.lemmas.Result.{IfErr-weaker, IfOk-weaker}
use Rattle.ga_include.specs.Error.{trouble_of}
use Rattle.ga_include.specs.inner.Adding.{scope_of}
use Rattle.ga_include.proofs.Opening.{by_path, still_some}
use Rattle.ga_include.proofs.including.Scope.file_in.Goals as goal

pub returns-clause-index : goal.returns-clause-index
returns-clause-index c =
    let scope = scope_of c.args.self.now in
    IfOk-weaker c.file_at.result _ _ (λ index h inner.
    by_path inner scope c.args.origin c.args.line.now c.in-Some.name.now c.name_at.result.now
    (string_bytes c.in_ok-path.path) c.place_in-place.result c.in-Some.ensures
    c.place_in-place.ensures c.name_at.ensures c.in_ok-path.ensures
    ∙ h inner
    ∙ ap (λ place. inner scope place index) c.place_in-place.ensures) c.file_at.ensures.index

pub returns-clause-trouble : goal.returns-clause-trouble
returns-clause-trouble c =
    let scope = scope_of c.args.self.now in
    IfErr-weaker c.file_at.result _ _ (λ error. still_some (trouble_of error) _ _
    (λ trouble h inner.
    by_path inner scope c.args.origin c.args.line.now c.in-Some.name.now c.name_at.result.now
    (string_bytes c.in_ok-path.path) c.place_in-place.result c.in-Some.ensures
    c.place_in-place.ensures c.name_at.ensures c.in_ok-path.ensures
    ∙ h inner)) c.file_at.ensures.trouble
