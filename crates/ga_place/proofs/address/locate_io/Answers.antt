use Rattle.std.proofs.Common.{◌≡◌, ◌≢◌, ◌%◌, ◌∙◌, sym, arith, ap, bit_xor}
use Rattle.ga_place.specs.Side.{sides_with}
use Rattle.ga_place.proofs.AddressLemmas.{io_difference, io_where-ports, io_where-nothing, low_4}
use Rattle.ga_place.specs.declared.address.Where.TheVariants.{Ports}
use Rattle.ga_place.proofs.address.locate_io.Goals as goal

pub returns-then-difference-eq8 : goal.returns-then-difference-eq8
returns-then-difference-eq8 c =
    let register : bit_xor c.args.low 85 ≡ 8 = omega arith in
    rw (io_difference c.args.low c.ranges.low.fits, register)

pub returns-then-difference-eq0 : goal.returns-then-difference-eq0
returns-then-difference-eq0 c =
    let some : bit_xor c.args.low 85 ≢ 0 = omega arith in
    let sides : bit_xor c.args.low 85 % 16 ≡ 0 = omega (arith, low_4 (bit_xor c.args.low 85)) in
    rw (io_difference c.args.low c.ranges.low.fits) (ap (λ bits. Ports (sides_with bits))
    (c.from_bits_retain.ensures tt) ∙ sym (io_where-ports (bit_xor c.args.low 85) some sides))

pub returns-else-difference-ne0 : goal.returns-else-difference-ne0
returns-else-difference-ne0 c =
    let other : bit_xor c.args.low 85 ≢ 8 = omega arith in
    let none : bit_xor c.args.low 85 ≢ 0 → bit_xor c.args.low 85 % 16 ≢ 0 =
    λ some sides. grind (arith, low_4 (bit_xor c.args.low 85)) in
    rw (io_difference c.args.low c.ranges.low.fits)
    (sym (io_where-nothing (bit_xor c.args.low 85) other none))
