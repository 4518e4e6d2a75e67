use Rattle.ga_counts.proofs.listing.counted_sections.Goals as goal

pub returns-in-Ok-clause-sections : goal.returns-in-Ok-clause-sections
returns-in-Ok-clause-sections c =
    record {
      images = _;
      images_are = record {
        program = _;
        program_is = c.in_ok-program.ensures.program;
        faultless = c.in_ok-images.ensures.none;
        assembled = c.in_ok-images.ensures.images;
      };
      sections_are = c.in-Ok.ensures;
    }
