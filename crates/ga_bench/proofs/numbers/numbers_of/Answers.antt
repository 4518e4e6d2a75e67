use Rattle.std.proofs.Common.{string_bytes, subst}
use Rattle.ga_json.specs.Run.{IsRunJson}
use Rattle.ga_views.specs.Race.{most_turns}
use Rattle.ga_bench.proofs.numbers.numbers_of.Goals as goal

pub returns : goal.returns
returns c =
    let text = string_bytes c.in_ok-line.line in
    let most = most_turns c.args.turns in
    let in_turns = subst (λ turns. IsRunJson c.args.start turns c.chip.result.now text)
    c.unwrap_or.ensures c.in_ok-line.ensures in
    let of_live = subst (λ chip. IsRunJson c.args.start most chip text) c.chip.ensures in_turns in
    (c.in_ok-live.live, c.in_ok-live.ensures, (text, of_live, c.in_ok-push_str.ensures.bytes))
