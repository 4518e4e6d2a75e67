use Rattle.std.proofs.Common.{◌≡◌, ◌∙◌, ℕ, zero, suc, None, Option, Some, ap, get_or, refl, rules, sym}
use Rattle.std.specs.Prelude.{replicate}
use Rattle.std.proofs.lemmas.List.{get_or-replicate}
use Rattle.ga_race.specs.Shown.{take_count}
use Rattle.ga_race.specs.declared.found.MultiportTake.{MultiportTake}
use Rattle.ga_race.proofs.Keeping.{fresh}
use Rattle.ga_race.proofs.race_watch.RaceWatch.new.Goals as goal

-- no take is kept for any cell
none_in : (n cell : ℕ) → get_or (replicate {A = Option MultiportTake} n None) cell None ≡ None
none_in zero cell = refl
none_in (suc n) zero = refl
none_in (suc n) (suc cell) = none_in n cell

pub returns-clause-seen : goal.returns-clause-seen
returns-clause-seen c = λ counted. record {
  shows = record {
    nodes = λ index below. fresh c.in_ok-clocks.field-0.items 144 index c.in_ok-clocks.ensures
        below;
    posts = λ cell below. fresh c.in_ok-clocks-2.field-0.items 524 cell c.in_ok-clocks-2.ensures
        below;
    takes = λ cell below. fresh c.in_ok-clocks-3.field-0.items 524 cell c.in_ok-clocks-3.ensures
        below;
    words = λ cell below. ap (λ l. get_or l cell None) (search rules);
    left_at = λ cell below. ap (λ l. take_count (get_or l cell None)) c.in_ok-no_takes.ensures
        ∙ ap take_count (get_or-replicate 524 cell None None below);
    race = refl;
  };
  recalls = record {
    left = λ cell take e.
        let none : None ≡ Some take =
        sym (ap (λ l. get_or l cell None) c.in_ok-no_takes.ensures ∙ none_in 524 cell) ∙ e in cc;
    race = λ race e. cc;
  };
}
