-- A goal by the cases of a test.
use Rattle.std.proofs.Common.{◌≡◌, Bool, true, false, refl}

pub on_test : (b : Bool) (P : Bool → Type 0) → (b ≡ true → P true) → (b ≡ false → P false) → P b
on_test true P if_true if_false = if_true refl
on_test false P if_true if_false = if_false refl
