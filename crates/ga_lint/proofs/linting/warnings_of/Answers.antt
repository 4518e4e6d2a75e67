use Rattle.std.proofs.Common.{◌∙◌, ◌<◌, ℕ, map, ap, subst}
use Rattle.ga_lint.proofs.Sections.{is_found, section_found, warnings_next}
use Rattle.ga_source.specs.Program.{item_place_of}
use Rattle.ga_lint.proofs.linting.warnings_of.Goals as goal
use Rattle.ga_lint.proofs.linting.warnings_of.Goals.{in-Some+in_ok-push_section, in_default}

pub push_section-requires : goal.push_section-requires
push_section-requires c =
    let all = ap (map (λ places. map item_place_of places.items)) c.as_slice.ensures.value in
    ap (map item_place_of) c.places_at-own.ensures
    ∙ section_found (λ places. places.items) c.as_slice.result.now c.args.program.now
    c.loop-section.section (all ∙ c.in_ok-found.ensures)

pub loop-section-preserved : goal.loop-section-preserved
loop-section-preserved c =
    let images = c.images-images.result.now.entries in
    elim c.match-get_index.branch [
      | in-Some+in_ok-push_section w ↦
          let node = w.in-Some.node.now in
          let image = w.in-Some.image.now in
          warnings_next c.args.program.now images c.loop-section.section
          (node, image) _ _ _ w.in-Some.ensures.entry c.loop-section.invariant
          (ap (λ v. v.items) w.warnings-is ∙ w.in_ok-push_section.ensures)
      | in_default w ↦
          absurd (is_found images c.loop-section.section
          (subst (λ (n : ℕ). c.loop-section.section < n) c.len-section-end.ensures.len
          c.loop-section-test.true) w.in_default.ensures.entry)
    ]
