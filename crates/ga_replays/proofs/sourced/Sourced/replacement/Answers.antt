use Rattle.std.proofs.Common.{rules, ◌≡◌, ◌∙◌, ap, option_map, string_bytes}
use Rattle.ga_replays.specs.Sourced.{recording_in_file}
use Rattle.ga_replays.specs.Transcript.{IsReplacement}
use Rattle.ga_replays.proofs.Sourcing.{fault_of_replacement, replaces_file, seen_in_file, too_long_in_file}
use Rattle.ga_replays.proofs.sourced.Sourced.replacement.Goals as goal

pub returns-then-len-gt-INPUT_LIMIT : goal.returns-then-len-gt-INPUT_LIMIT
returns-then-len-gt-INPUT_LIMIT c =
    let whole : c.as_bytes.result.now ≡ c.args.self.now.whole = search rules in
    too_long_in_file c.args.self.now c.as_bytes.result.now (string_bytes c.in-Ok-Some.recording)
    whole (rw c.in-Ok-Some.field-0-is at c.in-Ok-Some.ensures.replacement) (search rules)

pub returns-else-len-gt-INPUT_LIMIT : goal.returns-else-len-gt-INPUT_LIMIT
returns-else-len-gt-INPUT_LIMIT c =
    let whole : c.as_bytes.result.now ≡ c.args.self.now.whole = search rules in (
      replaces_file c.args.self.now c.as_bytes.result.now (string_bytes c.in-Ok-Some.recording)
          (string_bytes c.in_ok-text-in-Ok-Some.text) whole
          (rw c.in-Ok-Some.field-0-is at c.in-Ok-Some.ensures.replacement)
          (c.in_ok-text-in-Ok-Some.ensures
          ∙ ap (recording_in_file c.args.self.now) c.as_str.ensures.value),
      search rules,
    )

pub returns-in-Err : goal.returns-in-Err
returns-in-Err c =
    let whole : c.as_bytes.result.now ≡ c.args.self.now.whole = search rules in
    fault_of_replacement c.args.self.now c.fault_in_file.result
    (seen_in_file c.args.self.now (option_map (recording_in_file c.args.self.now)) IsReplacement
    c.as_bytes.result.now c.in-Err.fault c.fault_in_file.result whole c.fault_in_file.ensures
    c.in-Err.ensures.replacement)
