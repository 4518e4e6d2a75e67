use Rattle.std.proofs.Common.{◌≡◌, Err, IfSome, map, rules, string_bytes}
use Rattle.ga_include.specs.Error.{trouble_of}
use Rattle.ga_include.specs.File.{file_of}
use Rattle.ga_include.specs.Including.{Whole, empty, included, whole_of}
use Rattle.ga_include.proofs.Opening.{root_added, root_failed, still_some}
use Rattle.ga_include.proofs.including.whole_text.Goals as goal

pub returns-in_err-last-clause-trouble : goal.returns-in_err-last-clause-trouble
returns-in_err-last-clause-trouble c =
    let files = map file_of c.args.files.now in
    let first : Whole =
    record { text = string_bytes c.new.result; lines = c.new-2.result.items } in
    let is : first ≡ empty = search rules in
    let fault : IfSome (trouble_of c.in_err-last.field-0.0)
    (λ trouble. included files ≡ Err trouble) =
    still_some (trouble_of c.in_err-last.field-0.0) _ _ (λ trouble h.
    root_failed files c.text_at.result.now first trouble is c.text_at.ensures h)
    c.in_err-last.ensures.trouble in
    search (rules, fault)

pub returns-in_err-push_last-clause-trouble : goal.returns-in_err-push_last-clause-trouble
returns-in_err-push_last-clause-trouble c =
    let files = map file_of c.args.files.now in
    let first : Whole =
    record { text = string_bytes c.new.result; lines = c.new-2.result.items } in
    let is : first ≡ empty = search rules in
    let fault : IfSome (trouble_of c.in_err-push_last.field-0.0)
    (λ trouble. included files ≡ Err trouble) =
    still_some (trouble_of c.in_err-push_last.field-0.0) _ _ (λ trouble h.
    root_added files c.text_at.result.now c.in_ok-last.last.now c.in_ok-last.line first
    (whole_of c.push_lines.new.self) (Err trouble) is c.text_at.ensures c.in_ok-last.ensures.added
    c.in_ok-last.ensures.last c.in_ok-last.ensures.line h)
    c.in_err-push_last.ensures.trouble in
    search (rules, fault)

pub returns-clause-text : goal.returns-clause-text
returns-clause-text c =
    let first : Whole =
    record { text = string_bytes c.new.result; lines = c.new-2.result.items } in
    let is : first ≡ empty = search rules in
    root_added (map file_of c.args.files.now) c.text_at.result.now c.in_ok-last.last.now
    c.in_ok-last.line first (whole_of c.push_lines.new.self) _ is c.text_at.ensures
    c.in_ok-last.ensures.added c.in_ok-last.ensures.last c.in_ok-last.ensures.line
    c.in_ok-push_last.ensures.added
