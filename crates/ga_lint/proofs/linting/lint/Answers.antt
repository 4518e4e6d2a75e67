use Rattle.ga_lint.proofs.linting.lint.Goals as goal

pub returns-in-Ok-clause-warnings : goal.returns-in-Ok-clause-warnings
returns-in-Ok-clause-warnings c =
    record {
      images = _;
      images_are = record {
        program = _;
        program_is = c.in_ok-program.ensures.program;
        faultless = c.in_ok-images.ensures.none;
        assembled = c.in_ok-images.ensures.images;
      };
      warnings_are = c.in-Ok.ensures;
    }
