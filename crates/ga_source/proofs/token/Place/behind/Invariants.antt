use Rattle.std.proofs.Common.{◌≡◌, take}
use Rattle.ga_source.specs.Token.{place_of}
use Rattle.ga_source.specs.inner.Walk.{walk}
use Rattle.ga_source.proofs.token.Place.behind.Given as goal

abbrev pub invariant-loop-byte : goal.invariant-loop-byte
invariant-loop-byte l = place_of l.place ≡ walk (place_of l.fn.self) (take l.byte-index l.bytes)
