use Rattle.std.proofs.Common.{◌≡◌, ◌∙◌, None, ap, arith, get_or, inl, inr, map, take}
use Rattle.std.specs.Prelude.{slice_get, unwrap_or}
use Rattle.std.proofs.lemmas.List.{length-map}
use Rattle.ga_faults.specs.Sections.{part_in, section_starts, sections_at}
use Rattle.ga_faults.specs.declared.sections.Section.{Section}
use Rattle.ga_faults.proofs.AllFaults.{faults_more, no_faults, part_faults, the_parts}
use Rattle.ga_faults.proofs.Keeping.{now}
use Rattle.ga_faults.proofs.listing.part_faults.Goals as goal

pub loop-section-init : goal.loop-section-init
loop-section-init c = no_faults c.new-faults.result.items c.new-faults.ensures.items

pub loop-section-preserved : goal.loop-section-preserved
loop-section-preserved c =
    let head = c.unwrap_or-head.result in
    let sections = c.deref-section-items.result.now in
    let index = c.loop-section.section-index in
    let none : Section = record { first = 0; next = None } in
    let here = c.as_str.ensures.value ∙ c.in_ok-part.ensures
    ∙ ap (λ lines. part_in (map now lines) head (get_or sections index none))
    c.deref-in-loop-section.ensures.value in
    faults_more (part_in (map now c.in_ok-lines.lines.items) head) sections index none
    c.loop-section.faults.items c.push_new.new.faults.items c.as_str.result.now
    c.in_ok-first_fault.field-0 c.loop-section-test.true c.loop-section.invariant here
    c.in_ok-first_fault.ensures c.in_ok-push_new.ensures

pub returns : goal.returns
returns c =
    let text = c.args.text.now in
    let lines = map now c.in_ok-lines.lines.items in
    let head = c.unwrap_or-head.result in
    let sections = c.deref-section-items.result.now in
    let starts : c.deref.result.now ≡ section_starts text =
    c.deref.ensures.value ∙ c.in_ok-starts.ensures in
    let starts_too : c.deref-2.result.now ≡ section_starts text =
    c.deref-2.ensures.value ∙ c.in_ok-starts.ensures in
    let first : head ≡ unwrap_or (slice_get c.deref.result.now 0) 0 =
    c.unwrap_or-head.ensures ∙ ap (λ first. unwrap_or first 0)
    (c.copied.ensures ∙ c.first.ensures.value) in
    let some : sections ≡ take 144 (sections_at (section_starts text)) =
    c.deref-section-items.ensures.value ∙ c.truncate.ensures.items
    ∙ ap (take 144) (c.in_ok-sections.ensures ∙ ap sections_at starts_too) in
    part_faults text (map (part_in lines head) sections) c.loop-section.section-index
    c.loop-section.faults.items
    (the_parts text lines c.deref.result.now sections head c.in_ok-lines.ensures starts first some)
    c.loop-section.invariant
    (inl (omega (arith, length-map sections (part_in lines head), c.loop-section-test.false)))

pub returns-then-len-ge-MOST_FAULTS : goal.returns-then-len-ge-MOST_FAULTS
returns-then-len-ge-MOST_FAULTS c =
    let text = c.args.text.now in
    let lines = map now c.in_ok-lines.lines.items in
    let head = c.unwrap_or-head.result in
    let sections = c.deref-section-items.result.now in
    let starts : c.deref.result.now ≡ section_starts text =
    c.deref.ensures.value ∙ c.in_ok-starts.ensures in
    let starts_too : c.deref-2.result.now ≡ section_starts text =
    c.deref-2.ensures.value ∙ c.in_ok-starts.ensures in
    let first : head ≡ unwrap_or (slice_get c.deref.result.now 0) 0 =
    c.unwrap_or-head.ensures ∙ ap (λ first. unwrap_or first 0)
    (c.copied.ensures ∙ c.first.ensures.value) in
    let some : sections ≡ take 144 (sections_at (section_starts text)) =
    c.deref-section-items.ensures.value ∙ c.truncate.ensures.items
    ∙ ap (take 144) (c.in_ok-sections.ensures ∙ ap sections_at starts_too) in
    part_faults text (map (part_in lines head) sections) c.loop-section.section-index
    c.loop-section.faults.items
    (the_parts text lines c.deref.result.now sections head c.in_ok-lines.ensures starts first some)
    c.loop-section.invariant
    (inr (omega (arith, c.len.ensures, c.if-len-ge-MOST_FAULTS.true)))
