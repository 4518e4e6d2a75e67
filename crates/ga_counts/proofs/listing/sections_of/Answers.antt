use Rattle.std.proofs.Common.{◌≡◌, ◌∙◌, ◌<◌, ◌++◌, ◌∷◌, [], ℕ, Global, List, Vec, map, ap, subst}
use Rattle.std.proofs.lemmas.List.{map-append}
use Rattle.ga_source.specs.Program.{item_place_of}
use Rattle.ga_source.specs.Token.{place_of}
use Rattle.ga_counts.specs.declared.section.CountedSection.{CountedSection}
use Rattle.ga_counts.specs.Listing.{section_of, section_view}
use Rattle.ga_counts.proofs.Rows.{is_found, section_found, section_next}
use Rattle.ga_counts.proofs.listing.sections_of.Goals as goal
use Rattle.ga_counts.proofs.listing.sections_of.Goals.{in-Some+in_ok-places+in_ok-section_of+in_ok-push, in_default}

one_more : {A B : Type 0} (f : A → B) (old new : List A) (one : A) (its : B)
    → new ≡ old ++ one ∷ [] → f one ≡ its → map f new ≡ map f old ++ its ∷ []
one_more f old new one its is seen =
    ap (map f) is ∙ map-append f old (one ∷ []) ∙ ap (λ b. map f old ++ b ∷ []) seen

pub word_places-requires : goal.word_places-requires
word_places-requires c =
    let all = ap (map (λ places. map item_place_of places.items)) c.as_slice.ensures.value in
    ap (map item_place_of) c.places_at-own.ensures
    ∙ section_found (λ places. places.items) c.as_slice.result.now c.args.program.now
    c.loop-section.section (all ∙ c.in_ok-found.ensures)

pub loop-section-preserved : goal.loop-section-preserved
loop-section-preserved c =
    let images = c.images-images.result.now.entries in
    let counts = c.args.counts.now.words.items in
    elim c.match-get_index.branch [
      | in-Some+in_ok-places+in_ok-section_of+in_ok-push w ↦
          let node = w.in-Some.node.now in
          let image = w.in-Some.image.now in
          let old = c.loop-section.sections.items in
          section_next counts c.args.before c.args.program.now images c.loop-section.section
          (node, image) _ _ _ w.in-Some.ensures.entry c.loop-section.invariant
          (one_more section_view old c.match-get_index.sections.items w.in_ok-section_of.field-0 _
          (ap (λ (all : Vec CountedSection Global). all.items) w.sections-is
          ∙ w.in_ok-push.ensures.items)
          (w.in_ok-section_of.ensures
          ∙ ap (section_of counts c.args.before images node image)
          (ap (map place_of) w.deref.ensures.value ∙ w.in_ok-places.ensures.places)))
      | in_default w ↦
          absurd (is_found images c.loop-section.section
          (subst (λ (n : ℕ). c.loop-section.section < n) c.len-section-end.ensures.len
          c.loop-section-test.true) w.in_default.ensures.entry)
    ]
