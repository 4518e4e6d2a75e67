use Rattle.std.proofs.Common.{◌∙◌, List, ℕ, ap, sym, subst, take, take_all}
use Rattle.ga_pack.specs.Model.Layout.{names_in}
use Rattle.ga_pack.specs.Model.LayoutFault.{fault_at}
use Rattle.ga_source.specs.Item.{item_of}
use Rattle.ga_asm.specs.Image.{labels_of}
use Rattle.ga_asm.specs.inner.Layout.{Laying, joins_open, open_of, plain, plain_names}
use Rattle.ga_asm.proofs.LayingSteps.{front_next, laid_among, laying_all, laying_fault, laying_next, laying_none, next_new}
use Rattle.ga_asm.proofs.RightItems.{items_some}
use Rattle.ga_asm.proofs.layout.first_pass.Goals as goal

pub loop-at-init : goal.loop-at-init
loop-at-init c =
    (laying_none (names_in (plain c.args.items.now)) _ c.in-Ok.ensures, c.new-names.ensures)

pub judge-requires-clause-laid : goal.judge-requires-clause-laid
judge-requires-clause-laid c =
    laid_among c.args.items.now c.loop-at.at c.index-items-at.result c.loop-at.layout
    c.loop-at.names.labels.now c.loop-at-test.true c.index-items-at.is c.loop-at.invariant.0
    (ap plain_names c.loop-at.invariant.1 ∙ c.requires.names)

pub returns-in-Err-judge-clause-err : goal.returns-in-Err-judge-clause-err
returns-in-Err-judge-clause-err c some =
    let l = c.loop-at.layout in
    let x = item_of c.index-items-at.result in
    let fault = λ (names : List (List ℕ)). fault_at names (labels_of l.labels.entries) l.address
    (joins_open (labels_of l.labels.entries) (open_of l) x) x in
    laying_fault c.args.items.now c.loop-at.at c.index-items-at.result l c.in-Err-judge.kind
    c.loop-at-test.true c.index-items-at.is c.loop-at.invariant.0
    (ap fault (sym (ap plain_names c.loop-at.invariant.1 ∙ c.requires.names))
    ∙ c.in-Err-judge.ensures.told some)

pub add-requires-clause-new : goal.add-requires-clause-new
add-requires-clause-new c =
    next_new (names_in (plain c.args.items.now)) c.args.items.now c.loop-at.at
    c.index-items-at.result c.loop-at.layout c.loop-at-test.true c.index-items-at.is
    c.requires.right c.loop-at.invariant.0

pub loop-at-preserved : goal.loop-at-preserved
loop-at-preserved c =
    let items = c.args.items.now in
    let l = c.loop-at.layout in
    let m = c.add.new.self in
    let names = names_in (plain items) in
    let x = item_of c.index-items-at.result in
    let e = c.in_default-add.ensures in
    let fault = λ (names : List (List ℕ)). fault_at names (labels_of l.labels.entries) l.address
    (joins_open (labels_of l.labels.entries) (open_of l) x) x in (
      subst (λ t. Laying names t m) (sym (front_next items c.loop-at.at c.index-items-at.result
          c.loop-at-test.true c.index-items-at.is))
          (laying_next names (plain (take c.loop-at.at items)) l m x c.loop-at.invariant.0
          (ap fault (sym (ap plain_names c.loop-at.invariant.1 ∙ c.requires.names))
          ∙ c.in_default.ensures.told)
          (record {
            labels = e.labels;
            address = e.address;
            word = e.word;
            counts = e.counts;
            data_start = e.data;
          })),
      c.in_default.ensures.labels ∙ c.loop-at.invariant.1,
    )

pub returns-in-Ok-close-clause-ok : goal.returns-in-Ok-close-clause-ok
returns-in-Ok-close-clause-ok c =
    let items = c.args.items.now in
    let laying = subst (λ t. Laying (names_in (plain items)) (plain t) c.loop-at.layout)
    (take_all c.loop-at.at items c.loop-at-test.false) c.loop-at.invariant.0 in
    laying_all (plain items) c.loop-at.layout c.close.new.self laying c.in-Ok-close.ensures.ok
    c.in-Ok-close.ensures.counts

pub returns-in-Err-close-clause-at : goal.returns-in-Err-close-clause-at
returns-in-Err-close-clause-at c = items_some c.args.items.now c.requires.right

pub returns-in-Err-clause-at : goal.returns-in-Err-clause-at
returns-in-Err-clause-at c = items_some c.args.items.now c.requires.right
