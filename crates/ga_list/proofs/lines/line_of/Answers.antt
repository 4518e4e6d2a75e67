use Rattle.std.proofs.Common.{◌∙◌, ◌<◌, ℕ, map, option_map, slice_get, ap, subst, sym}
use Rattle.ga_list.specs.Lines.{line_from}
use Rattle.ga_list.proofs.Rows.{is_found, line_here, line_next, section_found}
use Rattle.ga_pack.specs.Model.Text.{Place}
use Rattle.ga_source.specs.Program.{item_place_of}
use Rattle.ga_source.specs.Token.{place_of}
use Rattle.ga_list.proofs.lines.line_of.Goals as goal
use Rattle.ga_list.proofs.lines.line_of.Goals.{in-Some+else-eq, in_default}

pub word_places-requires : goal.word_places-requires
word_places-requires c =
    let all = ap (map (λ places. map item_place_of places.items)) c.as_slice.ensures.value in
    ap (map item_place_of) c.places_at-own.ensures
    ∙ section_found (λ places. places.items) c.as_slice.result.now c.args.program.now
    c.loop-section.section (all ∙ c.in_ok-found.ensures)

pub returns-then-eq : goal.returns-then-eq
returns-then-eq c =
    c.line_at.ensures
    ∙ ap (λ places. option_map (λ (place : Place). place.line) (slice_get places c.args.address))
    (ap (map place_of) c.deref.ensures.value ∙ c.in_ok-places.ensures.places)
    ∙ sym (line_here c.args.program.now c.images-images.result.now.entries c.loop-section.section
    c.args.node c.args.address (c.in-Some.other.now, c.in-Some.image.now) c.in-Some.ensures.entry
    (sym c.eq.ensures ∙ c.if-eq.true))
    ∙ c.loop-section.invariant
    ∙ ap (λ images. line_from c.args.program.now 0 images c.args.node c.args.address)
    c.images-images.ensures

pub loop-section-preserved : goal.loop-section-preserved
loop-section-preserved c =
    let images = c.images-images.result.now.entries in
    elim c.match-get_index.branch [
      | in-Some+else-eq w ↦
          line_next c.args.program.now images c.loop-section.section c.args.node c.args.address
          (w.in-Some.other.now, w.in-Some.image.now) w.in-Some.ensures.entry
          (sym w.eq.ensures ∙ w.if-eq.false)
          ∙ c.loop-section.invariant
      | in_default w ↦
          absurd (is_found images c.loop-section.section
          (subst (λ (n : ℕ). c.loop-section.section < n) c.len-section-end.ensures.len
          c.loop-section-test.true) w.in_default.ensures.entry)
    ]
