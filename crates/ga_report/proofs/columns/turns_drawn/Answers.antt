use Rattle.std.proofs.Common.{◌≡◌, ℕ, ◌+◌, ◌-◌, ◌*◌, ◌/◌, ◌<◌, ◌≤◌, ◌^◌, ap₂, arith, max, subst, sym}
use Rattle.std.proofs.Math.Nat.{div-mul-le_self}
use Rattle.ga_profile.specs.Window.{length_of}
use Rattle.ga_report.specs.Columns.{columns_of, stride_of}
use Rattle.ga_report.proofs.columns.turns_drawn.Goals as goal

-- the turns of all columns are fewer than those of the window and of one column more
all_below : (turns stride all : ℕ) → stride ≡ max ((turns + 599) / 600) 1 → stride < 2 ^ 32
    → all ≤ turns + (stride - 1) → all < 2 ^ 64
all_below turns stride all is few within = omega arith

pub overflow_mul-result : goal.overflow_mul-result
overflow_mul-result c =
    let window = c.args.window in
    let turns = length_of window in
    let stride = c.stride_of.result in
    let columns = c.columns_of-columns.result in
    let few : columns_of window * stride_of window ≤ turns + (stride_of window - 1) =
    div-mul-le_self (turns + (stride_of window - 1)) (stride_of window) in
    let same : columns * stride ≡ columns_of window * stride_of window =
    ap₂ (λ a b. a * b) c.columns_of-columns.ensures c.stride_of.ensures.value in
    let is : stride ≡ max ((turns + 599) / 600) 1 = c.stride_of.ensures.value in
    let all : columns * stride ≤ turns + (stride - 1) =
    subst (λ n. n ≤ turns + (stride - 1)) (sym same)
    (subst (λ s. columns_of window * stride_of window ≤ turns + (s - 1))
    (sym c.stride_of.ensures.value) few) in
    let below : columns * stride < 2 ^ 64 =
    all_below turns stride (columns * stride) is c.stride_of.ensures.bound all in
    omega (arith, below)
