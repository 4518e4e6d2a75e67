use Rattle.std.proofs.Common.{◌≡◌, ◌/◌, ◌%◌, ◌≢◌, sym, arith}
use Rattle.ga_place.proofs.AddressLemmas.{advance_of-stays, advance_of-steps, bit_8, low_7}
use Rattle.ga_place.proofs.address.advance.Goals as goal

pub returns-then-address-ne0-clause-value : goal.returns-then-address-ne0-clause-value
returns-then-address-ne0-clause-value c =
    let high : c.args.address / 256 % 2 ≡ 1 = omega (arith, bit_8) in
    sym (advance_of-stays c.args.address high)

pub returns-clause-value : goal.returns-clause-value
returns-clause-value c =
    let low : c.args.address / 256 % 2 ≢ 1 = omega (arith, bit_8) in
    rw (advance_of-steps c.args.address low) (simp low_7 (omega arith))

pub returns-clause-kept : goal.returns-clause-kept
returns-clause-kept c = simp low_7 (omega arith)
