use Rattle.std.proofs.Common.{rules, ◌≡◌, sym, ap, length}
use Rattle.std.specs.List.{position_or_len}
use Rattle.ga_word.specs.Text.{is_blank}
use Rattle.ga_word.proofs.TokenLists.{no_token, token_at, unwrap_or-position, position_or_len-le}
use Rattle.ga_word.proofs.tokens.TokensIterator.next.Goals as goal

pub returns-in_err-start-clause-steps : goal.returns-in_err-start-clause-steps
returns-in_err-start-clause-steps c =
    let none = no_token c.args.self.now.text.now (sym c.in_err-start.ensures) in
    rw c.from_residual.ensures (none, none)

pub split_at-requires-2 : goal.split_at-requires-2
split_at-requires-2 c =
    let text = c.split_at.result.1.now in
    rw (c.unwrap_or.ensures, c.first_blank.ensures, unwrap_or-position is_blank text)
    (position_or_len-le is_blank text)

pub returns-clause-steps : goal.returns-clause-steps
returns-clause-steps c =
    let text = c.split_at.result.1.now in
    let end : c.unwrap_or.result ≡ position_or_len is_blank text =
    rw (c.unwrap_or.ensures, c.first_blank.ensures) (unwrap_or-position is_blank text) in
    rw (c.split_at-2.ensures.front, c.split_at-2.ensures.back, end)
    (token_at c.args.self.now.text.now text c.in_ok-start.start
    (sym c.in_ok-start.ensures) c.split_at.ensures.back)

pub returns-clause-goes : goal.returns-clause-goes
returns-clause-goes c = let shorter = ap length (returns-clause-steps c) in search (rules, shorter)
