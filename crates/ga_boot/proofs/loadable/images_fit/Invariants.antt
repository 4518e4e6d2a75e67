use Rattle.std.specs.List.{AllByRecursion}
use Rattle.ga_asm.specs.Image.{IsLoadable}
use Rattle.ga_boot.proofs.loadable.images_fit.Given as goal

-- if those that are left fit, all do
abbrev pub invariant-loop-image : goal.invariant-loop-image
invariant-loop-image l =
    AllByRecursion (λ entry. IsLoadable entry.1) l.image-iterator
    → AllByRecursion (λ entry. IsLoadable entry.1) l.images
