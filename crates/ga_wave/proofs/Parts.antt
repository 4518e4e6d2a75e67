-- Texts that are written in three parts.
use Rattle.std.proofs.Common.{◌≡◌, ℕ, List, ◌++◌}
use Rattle.ga_dump.proofs.Lines.{parts}

pub three : (old one two new first second third : List ℕ) → one ≡ old ++ first
    → two ≡ one ++ second → new ≡ two ++ third → new ≡ old ++ (first ++ second ++ third)
three old one two new first second third e f g =
    parts old two new (first ++ second) third (parts old one two first second e f) g
