use Rattle.std.proofs.Common.{◌≡◌, ◌∙◌, ℕ, ◌<◌, List, [], ◌∷◌, ◌++◌, ap, get_or, length, rules, set, subst, sym}
use Rattle.std.specs.Prelude.{Option, reverse}
use Rattle.ga_profile.specs.declared.kinds.Kinds.{Kinds}
use Rattle.ga_profile.specs.declared.trail.Trail.{Trail}
use Rattle.ga_profile.specs.Kinds.{kind_of}
use Rattle.ga_profile.specs.Path.{last_turn, path_to}
use Rattle.ga_profile.specs.inner.Trails.{KeptTrails, NO_TRAIL, trail_last}
use Rattle.ga_profile.proofs.Trailing.{trail_made, trails_own, trails_port}
use Rattle.ga_profile.proofs.path_watch.PathWatchObserver.see.Goals as goal

pub returns-in_default : goal.returns-in_default
returns-in_default c begun steps (from, (same, kept)) =
    let old = c.args.self.now.trails.items in
    let kinds = kind_of begun.kinds in
    let kind_at = kinds c.args.step in
    let is_kind : c.kind_of-kind.result ≡ kind_at =
    c.kind_of-kind.ensures.value ∙ ap (λ (k : Kinds). kind_of k c.args.step) same in
    let own = c.step_mark-own.result in
    let before = c.mark_before-before.result in
    let step = c.args.step in
    let copied = get_or old before NO_TRAIL in
    let all : length old ≡ 1296 = search rules in
    let lasts : ℕ → Option ℕ = λ mark. last_turn (path_to begun.from mark (reverse steps)) in (
      from,
      (
        same,
        subst (λ (l : List Trail). KeptTrails begun.from kinds
            (set l own c.lengthen.new.trail) (steps ++ step ∷ [])) (sym c.replace.ensures)
            (trails_own begun.from own before kinds old copied c.lengthen.new.trail steps step
            kept all c.step_mark-own.ensures.bound (sym c.step_mark-own.ensures.value)
            (sym c.port_mark.ensures.value ∙ c.in_default.is) c.mark_before-before.ensures.bound
            (c.mark_before-before.ensures.value lasts (λ mark below.
            ap (λ l. trail_last l mark) c.as_slice.ensures.value ∙ (kept.each mark below).last))
            (subst (λ k. k < 715) is_kind c.kind_of-kind.ensures.bound)
            (trail_made begun.from c.args.self.now.from own before c.kind_of-kind.result
            (kind_at) old
            c.replace.new.trails.items _ c.index_mut.result.now c.lengthen.new.trail step.turn
            c.step_mark-own.ensures.bound all c.replace.ensures c.index_mut.ensures.value from
            is_kind c.lengthen.ensures)),
      ),
    )

pub returns-in-Some : goal.returns-in-Some
returns-in-Some c begun steps (from, (same, kept)) =
    let old = c.args.self.now.trails.items in
    let kinds = kind_of begun.kinds in
    let kind_at = kinds c.args.step in
    let is_kind : c.kind_of-kind.result ≡ kind_at =
    c.kind_of-kind.ensures.value ∙ ap (λ (k : Kinds). kind_of k c.args.step) same in
    let own = c.step_mark-own.result in
    let before = c.mark_before-before.result in
    let step = c.args.step in
    let copied = get_or old before NO_TRAIL in
    let new = c.lengthen.new.trail in
    let port = c.in-Some.mark in
    let all : length old ≡ 1296 = search rules in
    let lasts : ℕ → Option ℕ = λ mark. last_turn (path_to begun.from mark (reverse steps)) in (
      from,
      (
        same,
        subst (λ (l : List Trail). KeptTrails begun.from kinds l (steps ++ step ∷ []))
            (sym (c.replace-in-Some.ensures
            ∙ ap (λ l. set (set l own new) port (get_or (set l own new) own NO_TRAIL))
            c.replace.ensures))
            (trails_port begun.from own port before kinds old copied new steps step kept all
            c.step_mark-own.ensures.bound (sym c.step_mark-own.ensures.value)
            c.in-Some.ensures.bound (sym c.in-Some.ensures.value) c.mark_before-before.ensures.bound
            (c.mark_before-before.ensures.value lasts (λ mark below.
            ap (λ l. trail_last l mark) c.as_slice.ensures.value ∙ (kept.each mark below).last))
            (subst (λ k. k < 715) is_kind c.kind_of-kind.ensures.bound)
            (trail_made begun.from c.args.self.now.from own before c.kind_of-kind.result
            (kind_at) old
            c.replace.new.trails.items _ c.index_mut.result.now new step.turn
            c.step_mark-own.ensures.bound all c.replace.ensures c.index_mut.ensures.value from
            is_kind c.lengthen.ensures)),
      ),
    )
