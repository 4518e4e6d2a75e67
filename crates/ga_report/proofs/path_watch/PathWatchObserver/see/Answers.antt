use Rattle.std.proofs.Common.{◌≡◌, ◌∙◌, ℕ, ◌<◌, ap, get_or, length, rules, subst, sym}
use Rattle.std.specs.Prelude.{Option, reverse}
use Rattle.std.proofs.lemmas.List.{get_or_default}
use Rattle.ga_profile.specs.Path.{last_turn, path_to}
use Rattle.ga_report.specs.declared.trail.Trail.{Trail}
use Rattle.ga_report.specs.inner.Trails.{NO_TRAIL, lengthened}
use Rattle.ga_report.proofs.Following.{trails_more}
use Rattle.ga_report.proofs.path_watch.PathWatchObserver.see.Goals as goal

pub returns : goal.returns
returns c begun steps (same, kept) =
    let old = c.args.self.now.trails.items in
    let before = c.mark_before-before.result in
    let step = c.args.step in
    let all : length old ≡ 1296 = search rules in
    let within : before < length old =
    subst (λ n. before < n) (sym all) c.mark_before-before.ensures.bound in
    let lasts : ℕ → ℕ → Option ℕ = λ from mark. last_turn (path_to from mark (reverse steps)) in (
      same,
      λ from. trails_more from before begun.part old c.put.new.trails.items c.lengthened-new.result
          steps step (kept from) c.mark_before-before.ensures.bound
          (c.mark_before-before.ensures.value (lasts from)
          (λ mark below. ap (λ l. (get_or l mark NO_TRAIL).last) c.as_slice.ensures.value
          ∙ ((kept from).each mark below).last))
          (c.lengthened-new.ensures
          ∙ ap (λ part. lengthened part c.index.result.now step) same
          ∙ ap (λ (t : Trail). lengthened begun.part t step)
          (c.index.ensures ∙ get_or_default old before _ NO_TRAIL within))
          c.put.ensures.kept,
    )
