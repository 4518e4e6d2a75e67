use Rattle.std.proofs.Common.{◌≡◌, sym}
use Rattle.std.specs.List.{position_or_len}
use Rattle.ga_word.specs.Text.{is_blank}
use Rattle.ga_word.proofs.TokenLists.{no_token, token_at, unwrap_or-position}
use Rattle.ga_include.proofs.line.first_token.Goals as goal

pub returns-in_err-first_non_blank-clause-none : goal.returns-in_err-first_non_blank-clause-none
returns-in_err-first_non_blank-clause-none c =
    λ _. no_token c.args.text.now (sym c.in_err-first_non_blank.ensures)

pub returns-clause-some : goal.returns-clause-some
returns-clause-some c =
    let rest = c.split_at.result.1.now in
    let end : c.unwrap_or.result ≡ position_or_len is_blank rest =
    rw (c.unwrap_or.ensures, c.first_blank.ensures) (unwrap_or-position is_blank rest) in
    rw (c.split_at-2.ensures.front, c.split_at-2.ensures.back, end)
    (token_at c.args.text.now rest c.in_ok-first_non_blank.field-0
    (sym c.in_ok-first_non_blank.ensures) c.split_at.ensures.back)
