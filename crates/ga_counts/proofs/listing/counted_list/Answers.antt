use Rattle.std.proofs.Common.{◌∙◌, ap, map}
use Rattle.ga_counts.specs.Listing.{listing_of, section_view}
use Rattle.ga_counts.proofs.listing.counted_list.Goals as goal

pub returns-in-Ok-clause-listing : goal.returns-in-Ok-clause-listing
returns-in-Ok-clause-listing c =
    record {
      sections = _;
      sections_are = c.in_ok-sections.ensures.sections;
      listing_is = c.in-Ok.ensures
          ∙ ap (λ sections. listing_of (map section_view sections)) c.as_slice.ensures.value;
    }
