use Rattle.std.proofs.Common.{rules, ◌≡◌, ◌∙◌, [], false, refl, subst, sym, true}
use Rattle.ga_source.specs.inner.Walk.{Begins, is_mark}
use Rattle.ga_source.proofs.Walking.{IsLeft, behind_comment, behind_more, behind_nothing, found_behind, found_first}
use Rattle.ga_source.proofs.token.next_token.Goals as goal

pub loop-run-init : goal.loop-run-init
loop-run-init c = behind_nothing c.args.text.now

pub returns-then-not-is_comment-clause-some : goal.returns-then-not-is_comment-clause-some
returns-then-not-is_comment-clause-some c =
    let begins : Begins c.loop-run.rest.now c.in_ok-run.run'.now c.in_ok-run.behind.now =
    search rules in
    let unmarked : is_mark c.in_ok-run.run'.now ≡ false =
    sym c.is_comment.ensures ∙ c.if-not-is_comment.true in
    found_behind c.args.text.now c.loop-run.rest.now c.in_ok-run.run'.now c.in_ok-run.behind.now
    c.loop-run.invariant
    (found_first c.loop-run.rest.now c.in_ok-run.run'.now c.in_ok-run.behind.now begins unmarked)

pub loop-run-preserved-in-Some : goal.loop-run-preserved-in-Some
loop-run-preserved-in-Some c =
    let begins : Begins c.loop-run.rest.now c.in_ok-run.run'.now c.in_ok-run.behind.now =
    search rules in
    let marked : is_mark c.in_ok-run.run'.now ≡ true =
    sym c.is_comment.ensures ∙ c.if-not-is_comment.false in
    behind_more c.args.text.now c.loop-run.rest.now c.in-Some.lines.now c.loop-run.invariant
    (behind_comment c.loop-run.rest.now c.in_ok-run.run'.now c.in_ok-run.behind.now begins
    c.first_line.result.0.now c.first_line.result.1 c.in-Some.lines.now marked c.first_line.ensures
    (subst (λ n. IsLeft n c.in-Some.lines.now) (sym c.in-Some.is) refl))

pub loop-run-preserved : goal.loop-run-preserved
loop-run-preserved c =
    let begins : Begins c.loop-run.rest.now c.in_ok-run.run'.now c.in_ok-run.behind.now =
    search rules in
    let marked : is_mark c.in_ok-run.run'.now ≡ true =
    sym c.is_comment.ensures ∙ c.if-not-is_comment.false in
    behind_more c.args.text.now c.loop-run.rest.now [] c.loop-run.invariant
    (behind_comment c.loop-run.rest.now c.in_ok-run.run'.now c.in_ok-run.behind.now begins
    c.first_line.result.0.now c.first_line.result.1 [] marked c.first_line.ensures
    (subst (λ n. IsLeft n []) (sym c.in-None.is) refl))
