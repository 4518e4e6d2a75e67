use Rattle.std.proofs.Common.{◌≡◌, ◌∙◌, ◌+◌, suc, ℕ, [], ◌∷◌, ◌++◌, ap, ap₂, arith, get_or, length, map, sym}
use Rattle.std.specs.Prelude.{Option, None}
use Rattle.std.specs.List.{range_with_len}
use Rattle.std.specs.Option.{option_or}
use Rattle.std.proofs.lemmas.List.FromFn.{length-map-range_with_len}
use Rattle.ga_profile.proofs.Writing.{item_more}
use Rattle.ga_report.specs.Holder.{held}
use Rattle.ga_report.proofs.holders.held_nodes.Goals as goal

pub loop-column-preserved : goal.loop-column-preserved
loop-column-preserved c =
    let kept : ℕ → Option ℕ = λ at. get_or c.args.trail.now.nodes at None in
    let all : ℕ → Option ℕ = λ column. held kept (column + 1) in
    let column = c.loop-column.column in
    let one : suc column ≡ column + 1 = omega arith in
    let is : c.or-holder.result ≡ all column = c.or-holder.ensures
    ∙ ap₂ option_or c.last_in.ensures c.loop-column.invariant.holder ∙ ap (held kept) one in
    record {
      holder = is;
      nodes = c.in_ok-push.ensures.items
          ∙ ap (λ nodes. nodes ++ c.or-holder.result ∷ []) c.loop-column.invariant.nodes
          ∙ ap (λ node. map all (range_with_len 0 column) ++ node ∷ []) is
          ∙ sym (item_more all column);
    }

pub returns-clause-nodes : goal.returns-clause-nodes
returns-clause-nodes c =
    let all : c.loop-column.column ≡ c.args.columns = omega arith in
    c.loop-column.invariant.nodes
    ∙ ap (λ count. map (λ column. held (λ at. get_or c.args.trail.now.nodes at None) (column + 1))
    (range_with_len 0 count)) all

pub returns-clause-all : goal.returns-clause-all
returns-clause-all c =
    let all : c.loop-column.column ≡ c.args.columns = omega arith in
    ap length c.loop-column.invariant.nodes
    ∙ length-map-range_with_len
    (λ column. held (λ at. get_or c.args.trail.now.nodes at None) (column + 1)) 0
    c.loop-column.column ∙ all
