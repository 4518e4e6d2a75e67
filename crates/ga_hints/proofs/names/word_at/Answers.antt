use Rattle.std.proofs.Common.{◌≡◌, ◌∙◌, ap, map}
use Rattle.std.specs.Prelude.{slice_get}
use Rattle.ga_pack.specs.Model.Text.{lexemes}
use Rattle.ga_source.specs.Token.{token_of}
use Rattle.ga_hints.proofs.Lists.{now, word_found}
use Rattle.ga_hints.proofs.names.word_at.Goals as goal

pub returns-in-Some : goal.returns-in-Some
returns-in-Some c =
    let text = c.args.text.now in
    let tokens : c.deref.result.now ≡ map token_of (lexemes text) =
    c.deref.ensures.value ∙ c.in_ok-tokens.ensures.tokens in
    c.word_with.ensures
    ∙ ap (λ words. slice_get (map now words) c.in-Some.index) c.deref-in-Some.ensures.value
    ∙ ap (λ words. slice_get words c.in-Some.index) c.in_ok-words_of-in-Some.ensures
    ∙ word_found text c.deref.result.now c.args.place _ tokens c.in-Some.ensures

pub returns : goal.returns
returns c =
    let text = c.args.text.now in
    let tokens : c.deref.result.now ≡ map token_of (lexemes text) =
    c.deref.ensures.value ∙ c.in_ok-tokens.ensures.tokens in
    word_found text c.deref.result.now c.args.place _ tokens c.in-None.ensures
