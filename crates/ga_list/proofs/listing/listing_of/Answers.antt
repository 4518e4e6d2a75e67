use Rattle.std.proofs.Common.{◌∙◌, ◌<◌, ◌++◌, ℕ, map, ap, subst, string_bytes}
use Rattle.ga_list.specs.Listing.{node_listing}
use Rattle.ga_list.proofs.Rows.{is_found, listing_next, section_found}
use Rattle.ga_source.specs.Program.{item_place_of}
use Rattle.ga_source.specs.Token.{place_of}
use Rattle.ga_list.proofs.listing.listing_of.Goals as goal
use Rattle.ga_list.proofs.listing.listing_of.Goals.{in-Some+in_ok-places+in_ok-push_node, in_default}

pub word_places-requires : goal.word_places-requires
word_places-requires g c =
    let all = ap (map (λ places. map item_place_of places.items)) c.as_slice.ensures.value in
    ap (map item_place_of) c.places_at-own.ensures
    ∙ section_found (λ places. places.items) c.as_slice.result.now c.args.program.now
    c.loop-section.section (all ∙ c.in_ok-found.ensures)

pub loop-section-preserved : goal.loop-section-preserved
loop-section-preserved g c =
    let images = c.images-images.result.now.entries in
    let names = g.N.LineNames.names c.args.names.now in
    elim c.match-get_index.branch [
      | in-Some+in_ok-places+in_ok-push_node w ↦
          let node = w.in-Some.node.now in
          let image = w.in-Some.image.now in
          listing_next names c.args.program.now images c.loop-section.section
          (node, image) _ _ _ w.in-Some.ensures.entry c.loop-section.invariant
          (ap string_bytes w.text-is ∙ w.in_ok-push_node.ensures
          ∙ ap (λ ps. string_bytes c.loop-section.text ++ node_listing names node image ps)
          (ap (map place_of) w.deref.ensures.value ∙ w.in_ok-places.ensures.places))
      | in_default w ↦
          absurd (is_found images c.loop-section.section
          (subst (λ (n : ℕ). c.loop-section.section < n) c.len-section-end.ensures.len
          c.loop-section-test.true) w.in_default.ensures.entry)
    ]
