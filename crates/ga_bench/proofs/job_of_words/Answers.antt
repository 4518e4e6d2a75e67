use Rattle.std.proofs.Common.{◌≡◌, ◌∙◌, ◌++◌, IfErr, ap, append-nil, arith, map, string_bytes, subst, sym}
use Rattle.std.proofs.lemmas.List.{drop_all}
use Rattle.ga_command_line.specs.CommandLine.{IsRight}
use Rattle.ga_command_line.specs.declared.command_line.LineError.TheVariants.{Memory}
use Rattle.ga_jobs.specs.declared.Job.{Job}
use Rattle.ga_bench.proofs.job_of_words.Goals as goal

pub returns-clause-right : goal.returns-clause-right
returns-clause-right c =
    let so_far = map (λ word. word.now) c.loop-word.line.items in
    let none =
    drop_all c.loop-word.word-index c.args.words.now (omega (arith, c.loop-word-test.false)) in
    let all = sym (append-nil so_far) ∙ ap (λ rest. so_far ++ map string_bytes rest) (sym none)
    ∙ c.loop-word.invariant in
    let line = ap (map (λ word. word.now)) c.deref.ensures.value ∙ all in
    subst (λ words. IfErr c.job.result (λ error. (job : Job) → IsRight words job → error ≡ Memory))
    line c.job.ensures.right
