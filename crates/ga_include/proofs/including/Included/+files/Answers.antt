use Rattle.std.proofs.Common.{◌≡◌, ◌∙◌, ◌<◌, Err, [], ◌∷◌, ◌++◌, ap, arith, length, refl, rules, sym}
use Rattle.std.proofs.lemmas.Result.{IfErr-weaker, on_ok_weaker}
use Rattle.ga_pack.specs.Model.Text.{lines_of}
use Rattle.ga_include.specs.declared.error.IncludeFaultKind.TheVariants.{IncludeDepth}
use Rattle.ga_include.specs.Error.{Faulty, trouble_of}
use Rattle.ga_include.specs.Including.{ended_lines, file_items, include_items, lines_items, whole_of, with_items}
use Rattle.ga_include.specs.inner.Adding.{Fails, scope_of}
use Rattle.ga_include.proofs.Adding.{lines_added, lines_end, lines_failed, one_trouble}
use Rattle.ga_include.proofs.Lines.{ended_first, last_first}
use Rattle.ga_include.proofs.Opening.{file_added, file_failed, no_rest, still_fails, still_some, too_deep}
use Rattle.ga_include.proofs.including.Included.+files.Goals as goal

pub push_file-returns-then-scope-eq0-clause-trouble :
    goal.push_file-returns-then-scope-eq0-clause-trouble
push_file-returns-then-scope-eq0-clause-trouble t c =
    let whole = whole_of c.args.self.now in
    let left = c.args.scope.now.left in
    let scope = scope_of c.args.scope.now in
    let failed : with_items whole (file_items left scope c.args.place c.args.index)
    ≡ Err (Faulty c.args.place IncludeDepth) =
    ap (with_items whole) (too_deep left scope c.args.place c.args.index c.if-scope-eq0.true)
    ∙ one_trouble whole (Faulty c.args.place IncludeDepth) in
    rw c.fault.ensures failed

pub push_file-returns-in_err-rest-clause-trouble : goal.push_file-returns-in_err-rest-clause-trouble
push_file-returns-in_err-rest-clause-trouble t c =
    let left = c.args.scope.now.left in
    let scope = scope_of c.args.scope.now in
    let some : 0 < left = omega (arith, c.if-scope-eq0.false) in
    let is : c.as_slice.result.now ≡ scope.around ++ c.args.index ∷ [] = search rules in
    let fault : Fails c.args.self.now (file_items left scope c.args.place c.args.index)
    c.in_err-rest.field-0.0 =
    still_fails c.args.self.now _ c.args.self.now _ c.in_err-rest.field-0.0
    (λ trouble h. file_failed left scope c.args.place c.args.index c.text_at-text.result.now
    c.as_slice.result.now (whole_of c.args.self.now) trouble some c.text_at-text.ensures is h)
    c.in_err-rest.ensures.trouble in
    search (rules, fault)

pub push_file-returns-clause-added : goal.push_file-returns-clause-added
push_file-returns-clause-added t c =
    let left = c.args.scope.now.left in
    let scope = scope_of c.args.scope.now in
    let some : 0 < left = omega (arith, c.if-scope-eq0.false) in
    let is : c.as_slice.result.now ≡ scope.around ++ c.args.index ∷ [] = search rules in
    on_ok_weaker c.push_rest.result (λ h.
    file_added left scope c.args.place c.args.index c.in_ok-rest.line c.text_at-text.result.now
    c.in_ok-rest.rest.now c.as_slice.result.now (whole_of c.args.self.now)
    (whole_of c.push_lines.new.self) _ some c.text_at-text.ensures is c.in_ok-rest.ensures.added
    c.in_ok-rest.ensures.last c.in_ok-rest.ensures.line h) c.push_rest.ensures.added

pub push_file-returns-clause-trouble : goal.push_file-returns-clause-trouble
push_file-returns-clause-trouble t c =
    let left = c.args.scope.now.left in
    let scope = scope_of c.args.scope.now in
    let some : 0 < left = omega (arith, c.if-scope-eq0.false) in
    let is : c.as_slice.result.now ≡ scope.around ++ c.args.index ∷ [] = search rules in
    IfErr-weaker c.push_rest.result _ _ (λ error.
    still_fails c.push_lines.new.self _ c.args.self.now _ error (λ trouble h.
    file_added left scope c.args.place c.args.index c.in_ok-rest.line c.text_at-text.result.now
    c.in_ok-rest.rest.now c.as_slice.result.now (whole_of c.args.self.now)
    (whole_of c.push_lines.new.self) _ some c.text_at-text.ensures is c.in_ok-rest.ensures.added
    c.in_ok-rest.ensures.last c.in_ok-rest.ensures.line h)) c.push_rest.ensures.trouble

pub push_include-returns-in_err-index-clause-trouble :
    goal.push_include-returns-in_err-index-clause-trouble
push_include-returns-in_err-index-clause-trouble t c =
    let whole = whole_of c.args.self.now in
    let inner = file_items c.args.scope.now.left in
    let scope = scope_of c.args.scope.now in
    let fault : Fails c.args.self.now (include_items inner scope c.args.origin c.args.line.now)
    c.in_err-index.field-0.0 =
    still_some (trouble_of c.in_err-index.field-0.0) _ _ (λ trouble h.
    ap (with_items whole) (h inner) ∙ one_trouble whole trouble) c.in_err-index.ensures.trouble in
    search (rules, fault)

pub push_lines-returns-in_err-push_line-clause-trouble :
    goal.push_lines-returns-in_err-push_line-clause-trouble
push_lines-returns-in_err-push_line-clause-trouble t c =
    let inner = file_items c.args.scope.now.left in
    let scope = scope_of c.args.scope.now in
    let fault : Fails c.args.self.now (lines_items inner scope c.args.file 1
    (ended_lines (lines_of c.args.text.now))) c.in_err-push_line.field-0.0 =
    still_fails c.loop-line.self _ c.args.self.now _ c.in_err-push_line.field-0.0
    (λ trouble h. c.loop-line.invariant.added
    ∙ lines_failed (whole_of c.loop-line.self) inner scope c.args.file c.loop-line.number
    c.loop-line.rest.now c.in-Some.line.now c.in-Some.behind.now trouble c.in-Some.ensures.some h)
    c.in_err-push_line.ensures.trouble in
    search (rules, fault)

pub push_lines-loop-line-preserved : goal.push_lines-loop-line-preserved
push_lines-loop-line-preserved t c =
    let inner = file_items c.args.scope.now.left in
    let scope = scope_of c.args.scope.now in
    let rest = c.loop-line.rest.now in
    let behind = c.in-Some.behind.now in
    let cut = c.in-Some.ensures.some in
    record {
      text = search rules;
      short = omega (arith, c.loop-line.invariant.short, c.in-Some.ensures.short);
      added = c.loop-line.invariant.added
          ∙ lines_added (whole_of c.loop-line.self) (whole_of c.push_line.new.self) inner scope
          c.args.file c.loop-line.number rest c.in-Some.line.now behind cut
          c.in_ok-push_line.ensures.added;
      last = sym (last_first rest c.in-Some.line.now behind cut) ∙ c.loop-line.invariant.last;
      line = let more = ap length (ended_first rest c.in-Some.line.now behind cut) in
          omega (arith, more, c.loop-line.invariant.line);
    }

pub push_lines-returns-clause-added : goal.push_lines-returns-clause-added
push_lines-returns-clause-added t c =
    c.loop-line.invariant.added
    ∙ lines_end (whole_of c.loop-line.self) (file_items c.args.scope.now.left)
    (scope_of c.args.scope.now) c.args.file c.loop-line.number c.loop-line.rest.now
    (c.in_default.ensures.none refl)

pub push_rest-returns-then-origin-gt1-clause-added :
    goal.push_rest-returns-then-origin-gt1-clause-added
push_rest-returns-then-origin-gt1-clause-added t c =
    no_rest (file_items c.args.scope.now.left) (scope_of c.args.scope.now) c.args.origin
    c.args.line.now (whole_of c.args.self.now) (search rules) c.if-origin-gt1.true
