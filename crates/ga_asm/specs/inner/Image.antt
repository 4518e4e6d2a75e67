-- What an image is kept as.
use Rattle.std.specs.Prelude.{◌≡◌, ◌<◌, ◌≤◌, true, length}
use Rattle.ga_asm.specs.Image.{ImageView, all_near}

-- a node has room for it, and has at least a word
pub record Fits (image : ImageView) : Type 0 where
  pub some : 0 < length image.words
  pub most : length image.words ≤ 64
  pub code_within : image.code_len ≤ length image.words
  pub entry_near : image.entry ≤ 64
  pub labels_near : all_near image.labels ≡ true
