use Rattle.std.proofs.Common.{◌∙◌, ap, arith, get_or, sym, take}
use Rattle.std.proofs.lemmas.List.{length-take}
use Rattle.ga_source.specs.Token.{place_of}
use Rattle.ga_source.specs.inner.Walk.{step}
use Rattle.ga_source.proofs.Walking.{walk_low, walk_more}
use Rattle.ga_source.proofs.token.Place.behind.Goals as goal

pub next-place-requires : goal.next-place-requires
next-place-requires c =
    let low = walk_low (place_of c.args.self) (take c.loop-byte.byte-index c.args.bytes.now) in
    let long = length-take c.loop-byte.byte-index c.args.bytes.now in (
      omega (
        arith,
        low.0,
        ap (λ p. p.line) c.loop-byte.invariant,
        long,
        c.loop-byte-test.true,
        c.requires.line,
      ),
      omega (
        arith,
        low.1,
        ap (λ p. p.column) c.loop-byte.invariant,
        long,
        c.loop-byte-test.true,
        c.requires.column,
      ),
    )

pub loop-byte-preserved : goal.loop-byte-preserved
loop-byte-preserved c =
    c.next-place.ensures
    ∙ ap (λ p. step p (get_or c.args.bytes.now c.loop-byte.byte-index 0)) c.loop-byte.invariant
    ∙ sym
    (walk_more (place_of c.args.self) c.args.bytes.now c.loop-byte.byte-index c.loop-byte-test.true)
