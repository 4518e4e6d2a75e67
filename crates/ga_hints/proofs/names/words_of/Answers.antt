use Rattle.std.proofs.Common.{◌∙◌, ◌++◌, [], ◌∷◌, ap, map}
use Rattle.std.specs.Prelude.{slice_range}
use Rattle.std.proofs.lemmas.List.{map-append}
use Rattle.ga_source.specs.declared.token.Token.{Token}
use Rattle.ga_hints.proofs.Lists.{more_read, now}
use Rattle.ga_hints.proofs.TokenTexts.{token_whole}
use Rattle.ga_hints.proofs.names.words_of.Goals as goal

pub token_text-requires-clause-whole : goal.token_text-requires-clause-whole
token_text-requires-clause-whole c =
    let text = c.args.text.now in
    let written = λ (t : Token). slice_range text t.start t.end in
    token_whole text c.deref-token-items.result.now c.loop-token.token-index _ c.utf8.text
    c.loop-token-test.true
    (ap (map written) c.deref-token-items.ensures.value ∙ c.in_ok-tokens.ensures.slices)

pub loop-token-preserved : goal.loop-token-preserved
loop-token-preserved c =
    let text = c.args.text.now in
    let written = λ (t : Token). slice_range text t.start t.end in
    more_read written c.deref-token-items.result.now c.loop-token.token-index _
    (map now c.loop-token.words.items) (map now c.push.new.self.items) c.loop-token-test.true
    c.loop-token.invariant
    (ap (map now) c.in_ok-push.ensures.items ∙ map-append now c.loop-token.words.items _
    ∙ ap (λ t. map now c.loop-token.words.items ++ t ∷ []) c.token_text.ensures)
