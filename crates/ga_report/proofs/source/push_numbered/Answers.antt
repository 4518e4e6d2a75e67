use Rattle.std.proofs.Common.{◌∙◌, [], ◌∷◌, ◌++◌, ap, drop, length, rules, string_bytes, sym}
use Rattle.std.specs.List.{enumerate_from, flat_map}
use Rattle.std.specs.Str.Lines.{lines}
use Rattle.std.proofs.lemmas.Iterator.Consumers.{YieldsList-end, YieldsList-from_enumerate, YieldsList-turn}
use Rattle.std.proofs.lemmas.Iterator.Splits.{YieldsList-from_lines}
use Rattle.std.proofs.lemmas.List.{append-nil, drop_all, length_push}
use Rattle.ga_report.specs.Source.{numbered_pair}
use Rattle.ga_report.proofs.Numbering.{line_more}
use Rattle.ga_report.proofs.source.push_numbered.Goals as goal

pub loop-index-preserved : goal.loop-index-preserved
loop-index-preserved c =
    let source = c.args.source.now in
    let all = enumerate_from 0 (lines source) in
    let yielded = c.loop-index.yielded in
    let turn = YieldsList-turn
    (YieldsList-from_enumerate (YieldsList-from_lines source (cc)) (cc)) yielded _
    c.loop-index.yielded_by _ _ (c.in-Some.index, c.in-Some.line) c.in-Some.is
    c.next.ensures.steps in
    let more = yielded ++ (c.in-Some.index, c.in-Some.line) ∷ [] in
    ap (λ text. text ++ flat_map numbered_pair (drop (length more) all))
    c.in_ok-push_line.ensures
    ∙ line_more all (string_bytes c.loop-index.text) (length yielded) _ _ turn
    (length_push yielded (c.in-Some.index, c.in-Some.line))
    ∙ c.loop-index.invariant

pub returns : goal.returns
returns c =
    let source = c.args.source.now in
    let all = enumerate_from 0 (lines source) in
    let yielded = c.loop-index.yielded in
    let end = YieldsList-end (YieldsList-from_enumerate (YieldsList-from_lines source (cc)) (cc))
    yielded _ c.loop-index.yielded_by _ _ c.in-None.is c.next.ensures.steps in
    sym (append-nil (string_bytes c.loop-index.text))
    ∙ ap (λ rest. string_bytes c.loop-index.text ++ flat_map numbered_pair rest)
    (sym (drop_all (length yielded) all (search (rules, end.1))))
    ∙ c.loop-index.invariant
