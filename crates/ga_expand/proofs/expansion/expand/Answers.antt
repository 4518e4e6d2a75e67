use Rattle.std.proofs.Common.{◌≡◌, ◌∙◌, ap, map, subst, sym}
use Rattle.std.specs.Prelude.{All}
use Rattle.ga_expand.specs.Expanding.{pieces_of}
use Rattle.ga_expand.specs.inner.Piece.{token_piece}
use Rattle.ga_expand.specs.inner.Pieces.{left_in}
use Rattle.ga_expand.specs.inner.Plain.{IsTokenOf}
use Rattle.ga_expand.proofs.Made.{expansion_failed, expansion_made}
use Rattle.ga_expand.proofs.Tokens.{pieces_are, tokens_of_text}
use Rattle.ga_expand.proofs.expansion.expand.Goals as goal

pub of_text-requires : goal.of_text-requires
of_text-requires c =
    subst (All (IsTokenOf c.args.source.now)) (sym c.deref.ensures.value)
    (tokens_of_text c.args.source.now c.in_ok-tokens.tokens.items c.in_ok-tokens.ensures.inside
    c.in_ok-tokens.ensures.slices)

pub returns-clause-expansion : goal.returns-clause-expansion
returns-clause-expansion c =
    let text = c.args.source.now in
    let are : left_in c.of_text.result ≡ pieces_of text =
    c.of_text.ensures ∙ ap (map (token_piece text)) c.deref.ensures.value
    ∙ pieces_are text c.in_ok-tokens.tokens.items c.in_ok-tokens.ensures.tokens
    c.in_ok-tokens.ensures.slices in
    expansion_made text (left_in c.of_text.result) are c.expand_pieces.result
    c.expand_pieces.ensures

pub returns-clause-fault : goal.returns-clause-fault
returns-clause-fault c =
    let text = c.args.source.now in
    let are : left_in c.of_text.result ≡ pieces_of text =
    c.of_text.ensures ∙ ap (map (token_piece text)) c.deref.ensures.value
    ∙ pieces_are text c.in_ok-tokens.tokens.items c.in_ok-tokens.ensures.tokens
    c.in_ok-tokens.ensures.slices in
    expansion_failed text (left_in c.of_text.result) are c.expand_pieces.result
    c.expand_pieces.ensures
