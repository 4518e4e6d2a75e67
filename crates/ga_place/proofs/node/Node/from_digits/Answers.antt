use Rattle.std.proofs.Common.{◌∙◌, arith}
use Rattle.ga_place.proofs.NodeDigits.{digits_named, no_last_digit}
use Rattle.ga_place.proofs.node.Node.from_digits.Goals as goal

pub returns-in_err-c : goal.returns-in_err-c
returns-in_err-c c =
    c.from_residual-in_err-c.ensures ∙ no_last_digit c.args.text.now c.from-3.result
    (omega arith) c.from-3.ensures c.in_err-c.ensures.value

pub returns : goal.returns
returns c =
    digits_named c.args.text.now c.from.result c.from-2.result c.from-3.result c.in_ok-a.a
    c.in_ok-b.b c.in_ok-c.c c.new.result (omega arith)
    c.from.ensures c.from-2.ensures c.from-3.ensures
    (record { below = c.in_ok-a.ensures.value.0; value = c.in_ok-a.ensures.value.1 })
    (record { below = c.in_ok-b.ensures.value.0; value = c.in_ok-b.ensures.value.1 })
    (record { below = c.in_ok-c.ensures.value.0; value = c.in_ok-c.ensures.value.1 })
    c.new.ensures
