use Rattle.std.proofs.Common.{◌≡◌, ◌∙◌, ap, length, map, sym, take}
use Rattle.std.specs.Prelude.{unwrap_or}
use Rattle.std.proofs.lemmas.List.{length-map, take-map}
use Rattle.ga_hints.specs.Bodies.{first_open}
use Rattle.ga_hints.specs.Names.{bodies_in}
use Rattle.ga_hints.proofs.Lists.{now}
use Rattle.ga_hints.proofs.names.bodies_before_open.Goals as goal

pub returns : goal.returns
returns c =
    let tokens = map now c.args.tokens.now in
    let names = c.in_ok-names.names in
    let items = names.items in
    let long : c.len.result ≡ length (bodies_in tokens) =
    c.len.ensures ∙ names.ok.0 ∙ sym (length-map items now) ∙ ap length c.in_ok-names.ensures in
    ap (map now) c.truncate.ensures.items ∙ sym (take-map now c.unwrap_or.result items)
    ∙ ap (take c.unwrap_or.result) c.in_ok-names.ensures
    ∙ ap (λ n. take n (bodies_in tokens)) (c.unwrap_or.ensures
    ∙ ap (λ index. unwrap_or index c.len.result) c.first_open.ensures
    ∙ ap (unwrap_or (first_open tokens)) long)
