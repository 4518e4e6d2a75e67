-- Two outputs of one job for one input are equal.
use Rattle.std.proofs.Common.{◌≡◌, ◌∙◌, sym, ℕ, Bool, true, false, List, Result, Ok, Err}
use Rattle.std.specs.Prelude.{MatchBool, string_bytes}
use Rattle.ga_asm.specs.Text.{AtMostOne}
use Rattle.ga_jobs.specs.declared.Job.{Job}
use Rattle.ga_jobs.specs.declared.Job.TheVariants.{Counts, Expand, Lint, Map, Profile, Race, Report, Run, Talk, Trace}
use Rattle.ga_input.specs.declared.fault.ServeError.TheVariants.{Input}
use Rattle.ga_input.specs.declared.fault.InputFault.TheVariants.{TooLong}
use Rattle.ga_input.proofs.OneInput.{one_images, one_made}
use Rattle.ga_programs.proofs.OneOutput.{one_boot_output, one_list_output}
use Rattle.ga_programs.proofs.OneRun.{run_outputs}
use Rattle.ga_replays.proofs.OneOutput.{one_check_output, one_debug_output, one_record_output, one_replay_output}
use Rattle.ga_programs.specs.Run.{AreTextsOrEqual}
use Rattle.ga_input.specs.declared.fault.ServeError.{ServeError}
use Rattle.ga_jobs.specs.{IsJobOutput}
use Rattle.ga_jobs.specs.Answering.{HasOneOutput, IsOutput, is_too_long}

-- Answers to one input are alike, if those to one that is not too long are.
alike_within : (job : Job) (input : List ℕ) (Alike : Result (List ℕ) ServeError
    → Result (List ℕ) ServeError → Type 0) → ((one other : Result (List ℕ) ServeError)
    → one ≡ Err (Input TooLong) → other ≡ Err (Input TooLong) → Alike one other)
    → ((one other : Result (List ℕ) ServeError) → IsJobOutput job input one
    → IsJobOutput job input other → Alike one other) → (one other : Result (List ℕ) ServeError)
    → IsOutput job input one → IsOutput job input other → Alike one other
alike_within job input Alike refused alike one other = by (is_too_long job input)
  where
    by : (b : Bool) → MatchBool b (one ≡ Err (Input TooLong)) (IsJobOutput job input one)
        → MatchBool b (other ≡ Err (Input TooLong)) (IsJobOutput job input other) → Alike one other
    by true p q = refused one other p q
    by false p q = alike one other p q

refused_alike : (one other : Result (List ℕ) ServeError) → one ≡ Err (Input TooLong)
    → other ≡ Err (Input TooLong) → AreTextsOrEqual one other
refused_alike (Ok one) other p q = absurd cc
refused_alike (Err one) (Ok other) p q = absurd cc
refused_alike (Err one) (Err other) p q = cc

within_limit : (job : Job) (input : List ℕ) → AtMostOne (IsJobOutput job input)
    → AtMostOne (IsOutput job input)
within_limit job input only =
    alike_within job input (λ one other. one ≡ other) (λ one other p q. p ∙ sym q) only

-- why an answer is the only one, of each job that is no function of its input
ruleset one_outputs = (
  one_images,
  one_made,
  one_boot_output,
  one_debug_output,
  one_replay_output,
  one_check_output,
  one_record_output,
  one_list_output,
)

pub one_output : (job : Job) (input : List ℕ) → HasOneOutput job input
unfolding IsJobOutput
one_output (Run route workers turns file) input =
    let runs = run_outputs (string_bytes route) input workers turns in
    record {
      texts = alike_within (Run route workers turns file) input AreTextsOrEqual refused_alike
          runs.texts;
      alone = λ single. within_limit (Run route workers turns file) input (runs.alone single);
    }
one_output (Race loading turns witness file) input = tt
one_output (Talk loading file any) input = tt
one_output (Expand file) input = tt
one_output (Lint deny json file) input = tt
one_output (Map loading turns file) input = tt
one_output (Profile loading start json turns file) input = tt
one_output (Trace loading turns nodes save file) input = tt
one_output (Counts loading turns file) input = tt
one_output (Report loading start turns file) input = tt
one_output job input = within_limit job input (λ one other p q. first_of (cc, search one_outputs))
