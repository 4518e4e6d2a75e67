use Rattle.std.proofs.Common.{rules, ◌≡◌, ◌∙◌, ◌∷◌, [], ℕ, ap, length, sym}
use Rattle.ga_pack.specs.Model.Text.{Place}
use Rattle.ga_source.specs.inner.Walk.{FirstRun, lexemes_at}
use Rattle.ga_source.proofs.Walking.{texts_first, texts_none}
use Rattle.ga_source.proofs.token.TextsIterator.next.Goals as goal

pub returns-in_err-run-clause-steps : goal.returns-in_err-run-clause-steps
returns-in_err-run-clause-steps c =
    let empty : (p : Place) (start : ℕ) → lexemes_at p start c.args.self.now.rest.now ≡ [] =
    search rules in
    let none = texts_none c.args.self.now.rest.now empty in
    rw c.from_residual.ensures (none, none)

pub returns-clause-steps : goal.returns-clause-steps
returns-clause-steps c =
    let found : FirstRun c.args.self.now.rest.now c.in_ok-run.run'.now c.in_ok-run.behind.now =
    search rules in
    texts_first c.args.self.now.rest.now c.in_ok-run.run'.now c.in_ok-run.behind.now found
    ∙ ap (λ texts. c.in_ok-run.run'.now ∷ texts) (sym c.behind_blank-self.ensures.texts)

pub returns-clause-goes : goal.returns-clause-goes
returns-clause-goes c = let shorter = ap length (returns-clause-steps c) in search (rules, shorter)
