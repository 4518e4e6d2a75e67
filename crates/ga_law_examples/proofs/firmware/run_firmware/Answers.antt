use Rattle.std.proofs.Common.{◌∙◌, ◌++◌, refl, sym, ap, subst}
use Rattle.ga_path.specs.Stream.{tree_load, tree_start}
use Rattle.ga_chip.specs.Chip.{part_of}
use Rattle.ga_chip.specs.Run.{tries_of}
use Rattle.ga_boot.specs.Boot.{IsSupplied}
use Rattle.ga_law_examples.specs.Firmware.{firmware, fork}
use Rattle.ga_law_examples.proofs.Assembled.{first_named, fork_sound, has_firmware, text}
use Rattle.ga_law_examples.proofs.firmware.run_firmware.Goals as goal

pub returns-clause-memory : goal.returns-clause-memory
returns-clause-memory c = λ now there taken not_begun.
    let tries = tries_of c.args.tries.now in
    let words = tree_load firmware fork ++ tree_start firmware fork in
    let given = c.boot_any_schedule.ensures.supplied firmware fork tries first_named fork_sound in
    let supply = subst (λ chip. IsSupplied chip 708 words tries) (sym c.requires.booted) given in
    c.headline.ensures.boot text firmware fork c.args.chip.now tries has_firmware first_named
    fork_sound refl supply 608 _ now refl
    (ap (λ chip. part_of chip 608) (sym c.run.ensures.chip) ∙ there) taken not_begun
