use Rattle.std.proofs.Common.{rules, ◌≡◌}
use Rattle.ga_transcript.specs.Live.{LiveView}
use Rattle.ga_input.specs.Session.{IsSession}
use Rattle.ga_input.specs.declared.loading.Loading.TheVariants.{Any}
use Rattle.ga_replays.proofs.Sourcing.{seen_in_file}
use Rattle.ga_replays.proofs.sourced.Sourced.open_session.Goals as goal

pub returns-in-Err : goal.returns-in-Err
returns-in-Err c =
    let whole : c.as_bytes.result.now ≡ c.args.self.now.whole = search rules in
    seen_in_file c.args.self.now (λ (live : LiveView). live) (IsSession Any) c.as_bytes.result.now
    c.in-Err.fault c.fault_in_file.result whole c.fault_in_file.ensures c.in-Err.ensures
