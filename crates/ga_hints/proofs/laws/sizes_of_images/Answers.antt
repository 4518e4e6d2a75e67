use Rattle.ga_hints.proofs.ImageSizes.{image_size}
use Rattle.ga_hints.proofs.laws.sizes_of_images.Goals as goal

pub returns : goal.returns
returns c = image_size
