use Rattle.std.proofs.Common.{◌≡◌, option_map, rules, string_bytes}
use Rattle.ga_views.specs.Race.{most_turns}
use Rattle.ga_views.specs.TraceJob.{text_of}
use Rattle.ga_views.proofs.Traced.{handed_on, traced}
use Rattle.ga_views.proofs.trace.prepared.Goals as goal

pub returns-in_err-nodes : goal.returns-in_err-nodes
returns-in_err-nodes c =
    handed_on c.args.loading.now c.args.turns (option_map string_bytes c.args.names.now)
    c.args.input.now c.in_ok-live.live c.in_ok-live.ensures text_of
    c.from_residual-in_err-nodes.result c.in_err-nodes.field-0.0
    c.from_residual-in_err-nodes.ensures.1 c.in_err-nodes.ensures

pub returns : goal.returns
returns c =
    let most : c.unwrap_or.result ≡ most_turns c.args.turns = search rules in
    traced c.args.loading.now c.args.turns (option_map string_bytes c.args.names.now)
    c.args.input.now c.in_ok-live.live c.in_ok-live.ensures text_of
    c.in_ok-nodes.nodes.items c.unwrap_or.result c.traced.result c.in_ok-nodes.ensures most
    c.traced.ensures
