use Rattle.std.proofs.Common.{◌≡◌, ◌∙◌, ◌<◌, length, map, sym, ap, subst}
use Rattle.std.proofs.lemmas.Map.Iter.{rest_all, rest_more}
use Rattle.std.specs.Map.Iter.{deref_pair}
use Rattle.ga_source.specs.Section.{section_of}
use Rattle.ga_source.specs.Program.{items_at}
use Rattle.ga_asm.specs.inner.Assembling.{IsReported}
use Rattle.ga_asm.specs.Error.{error_place}
use Rattle.ga_asm.proofs.Sections.{Ongoing, no_fault, one_assembled, ongoing_all, ongoing_fault, ongoing_new, ongoing_next, ongoing_none, ongoing_right, ongoing_within}
use Rattle.ga_asm.proofs.assembling.assemble.Goals as goal

pub loop-node-init : goal.loop-node-init
loop-node-init c =
    let same : c.into_iter-node-iterator.result ≡ c.sections-node-items.result.now.entries =
    c.into_iter-node-iterator.ensures.into_iter_gives.0 in
    ongoing_none c.args.program.now c.new-images.result.entries c.into_iter-node-iterator.result
    (ap (map section_of) same
    ∙ c.sections-node-items.ensures.value) c.sections-node-items.ensures.right
    c.new-images.ensures.empty

pub image_of-requires : goal.image_of-requires
image_of-requires c =
    let o = subst (Ongoing c.args.program.now c.loop-node.images.entries)
    (rest_more deref_pair c.loop-node.node-iterator c.next.new.self c.next.result
    (c.in-Some.node, c.in-Some.section) c.in-Some.is c.next.ensures.steps) c.loop-node.invariant in
    ongoing_right c.args.program.now c.loop-node.images.entries
    (c.in-Some.node.now, c.in-Some.section.now) c.next.new.self o

pub error_at-requires : goal.error_at-requires
error_at-requires c =
    let o = subst (Ongoing c.args.program.now c.loop-node.images.entries)
    (rest_more deref_pair c.loop-node.node-iterator c.next.new.self c.next.result
    (c.in-Some.node, c.in-Some.section) c.in-Some.is c.next.ensures.steps) c.loop-node.invariant in
    subst (λ n. c.in-Err.refusal.at < length (items_at c.args.program.now n))
    (sym c.len-before.ensures.len) (ongoing_within c.args.program.now c.loop-node.images.entries
    (c.in-Some.node.now, c.in-Some.section.now) c.next.new.self o c.in-Err.refusal.at
    c.in-Err.ensures.at)

pub returns-in-Err-clause-fault : goal.returns-in-Err-clause-fault
returns-in-Err-clause-fault c some =
    let o = subst (Ongoing c.args.program.now c.loop-node.images.entries)
    (rest_more deref_pair c.loop-node.node-iterator c.next.new.self c.next.result
    (c.in-Some.node, c.in-Some.section) c.in-Some.is c.next.ensures.steps) c.loop-node.invariant in
    ongoing_fault c.args.program.now c.loop-node.images.entries
    (c.in-Some.node.now, c.in-Some.section.now) c.next.new.self o c.in-Err.refusal.at
    c.error_at.result.node (error_place c.error_at.result) c.in-Err.refusal.kind
    c.error_at.result.kind c.error_at.ensures.node c.in-Err.ensures.err
    (subst (λ n. IsReported (items_at c.args.program.now n) c.in-Err.refusal.at
    c.in-Err.refusal.kind c.error_at.result.kind (error_place c.error_at.result))
    c.len-before.ensures.len c.error_at.ensures.reported)
    some

pub returns-clause-images : goal.returns-clause-images
returns-clause-images c =
    (ongoing_all c.args.program.now c.loop-node.images.entries c.loop-node.node-iterator
    c.loop-node.invariant (rest_all deref_pair c.loop-node.node-iterator c.next.new.self
    c.next.result c.in-None.is c.next.ensures.steps)).0

pub returns-clause-only : goal.returns-clause-only
returns-clause-only c =
    let all = ongoing_all c.args.program.now c.loop-node.images.entries c.loop-node.node-iterator
    c.loop-node.invariant (rest_all deref_pair c.loop-node.node-iterator c.next.new.self
    c.next.result c.in-None.is c.next.ensures.steps) in
    λ other is. one_assembled c.args.program.now c.loop-node.images.entries other all.0 is

pub returns-clause-none : goal.returns-clause-none
returns-clause-none c =
    let all = ongoing_all c.args.program.now c.loop-node.images.entries c.loop-node.node-iterator
    c.loop-node.invariant (rest_all deref_pair c.loop-node.node-iterator c.next.new.self
    c.next.result c.in-None.is c.next.ensures.steps) in
    no_fault c.args.program.now all.1

pub add_image-requires : goal.add_image-requires
add_image-requires c =
    let o = subst (Ongoing c.args.program.now c.loop-node.images.entries)
    (rest_more deref_pair c.loop-node.node-iterator c.next.new.self c.next.result
    (c.in-Some.node, c.in-Some.section) c.in-Some.is c.next.ensures.steps) c.loop-node.invariant in
    ongoing_new c.args.program.now c.loop-node.images.entries
    (c.in-Some.node.now, c.in-Some.section.now) c.next.new.self o

pub loop-node-preserved : goal.loop-node-preserved
loop-node-preserved c =
    let o = subst (Ongoing c.args.program.now c.loop-node.images.entries)
    (rest_more deref_pair c.loop-node.node-iterator c.next.new.self c.next.result
    (c.in-Some.node, c.in-Some.section) c.in-Some.is c.next.ensures.steps) c.loop-node.invariant in
    ongoing_next c.args.program.now c.loop-node.images.entries
    (c.in-Some.node.now, c.in-Some.section.now) c.next.new.self o c.add_image.new.images.entries
    c.in-Ok.image c.in-Ok.ensures.ok c.in_default.ensures.ok
