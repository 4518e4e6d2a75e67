use Rattle.std.proofs.Common.{◌∙◌, ◌≤◌, length, sym, subst, arith}
use Rattle.std.specs.List.{AllByRecursion}
use Rattle.std.proofs.lemmas.List.Elements.{All-from_recursion}
use Rattle.ga_asm.specs.Image.{IsLoadable}
use Rattle.ga_boot.proofs.loadable.images_fit.Goals as goal

pub loop-image-init : goal.loop-image-init
loop-image-init c =
    λ all. subst (AllByRecursion (λ entry. IsLoadable entry.1))
    (c.into_iter-image-iterator.ensures.into_iter_gives.0 ∙ c.images-image-items.ensures) all

pub loop-image-preserved : goal.loop-image-preserved
loop-image-preserved c =
    let value = c.words-words.ensures.value in
    let some = c.words-words.ensures.some in
    let most = c.words-words.ensures.most in
    let same = c.entry-entry.ensures.value in
    let near = c.entry-entry.ensures.bound in
    let fits : IsLoadable c.in-Some.image.now = record {
      some = subst (λ l. 1 ≤ length l) value (omega (arith, some));
      most = subst (λ l. length l ≤ 64) value most;
      entry_near = subst (λ n. n ≤ 64) same near;
    } in
    λ rest. c.loop-image.invariant (subst (AllByRecursion (λ entry. IsLoadable entry.1))
    (sym c.in-Some.ensures.steps) (fits, rest))

pub returns : goal.returns
returns c =
    All-from_recursion (λ entry. IsLoadable entry.1) c.args.images.now (c.loop-image.invariant
    (subst (AllByRecursion (λ entry. IsLoadable entry.1)) (sym c.in-None.ensures.steps.0) tt))
