use Rattle.std.proofs.Common.{rules, ◌≡◌}
use Rattle.ga_replays.specs.Sourced.{recording_in_file}
use Rattle.ga_replays.specs.Transcript.{IsRecordOutput}
use Rattle.ga_replays.proofs.Sourcing.{seen_in_file}
use Rattle.ga_replays.proofs.sourced.Sourced.record.Goals as goal

pub returns-in-Err : goal.returns-in-Err
returns-in-Err c =
    let whole : c.as_bytes.result.now ≡ c.args.self.now.whole = search rules in
    seen_in_file c.args.self.now (recording_in_file c.args.self.now) IsRecordOutput
    c.as_bytes.result.now c.in-Err.fault c.fault_in_file.result whole c.fault_in_file.ensures
    c.in-Err.ensures.output
