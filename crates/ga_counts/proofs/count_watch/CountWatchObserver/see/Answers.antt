use Rattle.std.proofs.Common.{◌≡◌, ◌∙◌, ap, length, rules, sym}
use Rattle.ga_counts.specs.Counts.{one_more, word_after}
use Rattle.ga_counts.proofs.Keeping.{kept_more, kept_nowhere, word_found}
use Rattle.ga_counts.proofs.count_watch.CountWatchObserver.see.Goals as goal

pub returns-in_default : goal.returns-in_default
returns-in_default c begun steps kept =
    let watch = c.args.self.now in
    let all : length watch.executed.items ≡ 144 = search rules in
    let own = c.index-index.ensures in
    let word = word_found c.index-index.result watch.executed.items watch.words.items
    c.index.result.now c.word_after-word.result c.args.step steps own.bound all own.back
    (c.word_after-word.ensures ∙ ap (λ old. word_after old c.args.step) c.index.ensures) kept in
    kept_nowhere c.index-index.result watch.executed.items watch.words.items
    c.word_after-word.result c.args.step steps own.bound all own.back word
    (sym c.in_default.is ∙ c.place_counted.ensures.place) kept

pub returns-in-Some : goal.returns-in-Some
returns-in-Some c begun steps kept =
    let watch = c.args.self.now in
    let all : length watch.executed.items ≡ 144 = search rules in
    let each : length watch.words.items ≡ 9216 = search rules in
    let own = c.index-index.ensures in
    let word = word_found c.index-index.result watch.executed.items watch.words.items
    c.index.result.now c.word_after-word.result c.args.step steps own.bound all own.back
    (c.word_after-word.ensures ∙ ap (λ old. word_after old c.args.step) c.index.ensures) kept in
    kept_more c.index-index.result c.in-Some.place watch.executed.items watch.words.items
    c.word_after-word.result c.index-in-Some.result.now c.one_more.result c.args.step steps
    own.bound all own.back word c.in-Some.ensures.bound each c.in-Some.ensures.place
    (c.one_more.ensures ∙ ap (λ old. one_more old c.args.step.place) c.index-in-Some.ensures) kept
