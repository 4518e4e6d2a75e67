use Rattle.ga_list.proofs.listing.list_with.Goals as goal

pub returns-in-Ok-clause-listing : goal.returns-in-Ok-clause-listing
returns-in-Ok-clause-listing g c =
    record {
      images = _;
      images_are = record {
        program = _;
        program_is = c.in_ok-program.ensures.program;
        faultless = c.in_ok-images.ensures.none;
        assembled = c.in_ok-images.ensures.images;
      };
      listing_is = c.in-Ok.ensures;
    }
