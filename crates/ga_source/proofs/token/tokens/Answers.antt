use Rattle.std.proofs.Common.{rules, ◌≡◌, ◌∙◌, ◌<◌, List, [], ℕ, ap, arith, length, map, refl, subst, sym}
use Rattle.std.specs.Prelude.{All, ◌≤◌, slice_range}
use Rattle.ga_pack.specs.Model.Text.{Place, lexemes}
use Rattle.ga_source.specs.Token.{place_of, token_of}
use Rattle.ga_source.specs.inner.Walk.{FirstRun, lexemes_at, walk}
use Rattle.ga_source.proofs.Slices.{tokens_inside, tokens_sliced}
use Rattle.ga_source.proofs.Walking.{HasWalked, front_is, lengths, walk_low, walked_all, walked_more, walked_nothing}
use Rattle.ga_source.proofs.token.tokens.Goals as goal

pub loop-run-init : goal.loop-run-init
loop-run-init c =
    subst (HasWalked c.args.text.now 1 1 c.as_bytes-rest.result.now)
    (sym c.new-tokens.ensures.items)
    (subst (λ (rest : List ℕ). HasWalked c.args.text.now 1 1 rest [])
    (sym c.as_bytes-rest.ensures.value) (walked_nothing c.args.text.now))

pub behind-place-requires-in-Some-clause-line : goal.behind-place-requires-in-Some-clause-line
behind-place-requires-in-Some-clause-line c =
    let rest = c.loop-run.rest.now in
    let w = c.loop-run.invariant in
    let f : FirstRun rest c.in-Some.run'.now c.in-Some.behind.now = search rules in
    let long = lengths c.args.text.now rest c.in-Some.run'.now c.in-Some.behind.now
    c.loop-run.place.line c.loop-run.place.column c.loop-run.tokens.items w f in
    let front = ap length (front_is c.args.text.now rest c.in-Some.run'.now c.in-Some.behind.now
    c.loop-run.place.line c.loop-run.place.column c.loop-run.tokens.items w f
    c.split_at.result.0.now c.split_at.ensures.front) in
    omega (
      arith,
      w.low_line,
      (walk_low (place_of c.loop-run.place) c.split_at.result.0.now).0,
      ap (λ p. p.line) c.behind-place.ensures,
      long,
      front,
    )

pub behind-place-requires-in-Some-clause-column : goal.behind-place-requires-in-Some-clause-column
behind-place-requires-in-Some-clause-column c =
    let rest = c.loop-run.rest.now in
    let w = c.loop-run.invariant in
    let f : FirstRun rest c.in-Some.run'.now c.in-Some.behind.now = search rules in
    let long = lengths c.args.text.now rest c.in-Some.run'.now c.in-Some.behind.now
    c.loop-run.place.line c.loop-run.place.column c.loop-run.tokens.items w f in
    let front = ap length (front_is c.args.text.now rest c.in-Some.run'.now c.in-Some.behind.now
    c.loop-run.place.line c.loop-run.place.column c.loop-run.tokens.items w f
    c.split_at.result.0.now c.split_at.ensures.front) in
    omega (
      arith,
      w.low_column,
      (walk_low (place_of c.loop-run.place) c.split_at.result.0.now).1,
      ap (λ p. p.column) c.behind-place.ensures,
      long,
      front,
    )

pub loop-run-smaller : goal.loop-run-smaller
loop-run-smaller c =
    let rest = c.loop-run.rest.now in
    let f : FirstRun rest c.in-Some.run'.now c.in-Some.behind.now = search rules in
    let long = lengths c.args.text.now rest c.in-Some.run'.now c.in-Some.behind.now
    c.loop-run.place.line c.loop-run.place.column c.loop-run.tokens.items c.loop-run.invariant f in
    let shorter : length c.in-Some.behind.now < length rest = omega (arith, long, f.some) in
    shorter

pub loop-run-preserved : goal.loop-run-preserved
loop-run-preserved c =
    let rest = c.loop-run.rest.now in
    let w = c.loop-run.invariant in
    let f : FirstRun rest c.in-Some.run'.now c.in-Some.behind.now = search rules in
    let front = front_is c.args.text.now rest c.in-Some.run'.now c.in-Some.behind.now
    c.loop-run.place.line c.loop-run.place.column c.loop-run.tokens.items w f
    c.split_at.result.0.now c.split_at.ensures.front in
    walked_more c.args.text.now rest c.in-Some.run'.now c.in-Some.behind.now c.loop-run.place.line
    c.loop-run.place.column c.loop-run.tokens.items w f (place_of c.behind-place.result)
    (place_of c.behind-place-in-Some.result) _ c.push.new.self.items
    (c.behind-place.ensures ∙ ap (walk (place_of c.loop-run.place)) front)
    c.behind-place-in-Some.ensures refl c.in_ok-push.ensures.items

pub returns-clause-inside : goal.returns-clause-inside
returns-clause-inside c =
    let none : (p : Place) (start : ℕ) → lexemes_at p start c.loop-run.rest.now ≡ [] =
    search rules in
    let all : c.loop-run.tokens.items ≡ map token_of (lexemes c.args.text.now) =
    walked_all c.args.text.now c.loop-run.rest.now c.loop-run.place.line c.loop-run.place.column
    c.loop-run.tokens.items c.loop-run.invariant none in
    subst (All (λ t. (t.start ≤ t.end) × (t.end ≤ length c.args.text.now))) (sym all)
    (tokens_inside c.args.text.now)

pub returns-clause-slices : goal.returns-clause-slices
returns-clause-slices c =
    let none : (p : Place) (start : ℕ) → lexemes_at p start c.loop-run.rest.now ≡ [] =
    search rules in
    let all : c.loop-run.tokens.items ≡ map token_of (lexemes c.args.text.now) =
    walked_all c.args.text.now c.loop-run.rest.now c.loop-run.place.line c.loop-run.place.column
    c.loop-run.tokens.items c.loop-run.invariant none in
    ap (map (λ t. slice_range c.args.text.now t.start t.end)) all ∙ tokens_sliced c.args.text.now
