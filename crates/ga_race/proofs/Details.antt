-- What code keeps of the details of a race, step by step.
use Rattle.std.proofs.Common.{◌≡◌, ℕ, ◌+◌, ◌<◌, true, arith, List, [], ◌∷◌, ◌++◌, ◌⊎◌, inl, inr, get_or, Option, Some, None, refl, sym, ap, ◌∙◌, subst, append_assoc}
use Rattle.std.specs.Prelude.{nat_lt, unwrap_or}
use Rattle.std.proofs.lemmas.Bool.{false≢true}
use Rattle.std.proofs.lemmas.Grind.{common_steps}
use Rattle.std.proofs.lemmas.Option.{same_Some}
use Rattle.ga_place.specs.Side.{neighbour_of}
use Rattle.ga_place.specs.declared.side.Side.{Side}
use Rattle.ga_observe.specs.declared.step.Step.{Step}
use Rattle.ga_race.specs.Found.{IsAmong, IsPending, IsPosted, IsPostedIn, IsTake, LeavesAt, LeftAmong}
use Rattle.ga_race.specs.Shown.{Kept, Recalls}
use Rattle.ga_race.specs.Watch.{Watch, first_watch, is_early_by, watch_on}
use Rattle.ga_race.specs.declared.found.MultiportTake.{MultiportTake}
use Rattle.ga_race.specs.declared.found.Post.{Post}
use Rattle.ga_race.specs.declared.found.Race.{Race}
use Rattle.ga_race.specs.declared.found.SideWord.{SideWord}
use Rattle.ga_race.specs.inner.Adds.{Adds, EarlyBy, LeavesBy, PostedBy, TakeAdds}
use Rattle.ga_race.proofs.Following.{watch-append}

-- what a take adds, one after another
pub takes_both : (words : ℕ → Option ℕ) (old mid new : Kept) (take : MultiportTake)
    → TakeAdds words old mid take → TakeAdds words mid new take → TakeAdds words old new take
takes_both words old mid new take a b = record {
  left = λ cell one is. by cell one (b.left cell one is);
  race = λ race is. by_race race (b.race race is);
}
  where
    by : (cell : ℕ) (one : MultiportTake)
        → (get_or mid.left cell None ≡ Some one) ⊎ LeavesBy take one cell
        → (get_or old.left cell None ≡ Some one) ⊎ LeavesBy take one cell
    by cell one (inl was) = a.left cell one was
    by cell one (inr is) = inr is

    by_race : (race : Race)
        → (mid.race ≡ Some race) ⊎ ((race.take ≡ take) × IsPending words race)
        → (old.race ≡ Some race) ⊎ ((race.take ≡ take) × IsPending words race)
    by_race race (inl was) = a.race race was
    by_race race (inr is) = inr is

-- what a test of order shows
pub below : (a b : ℕ) → nat_lt a b ≡ true → a < b
below a b e = grind (arith, common_steps)

-- a race that is found first
pub found_first : (old new : Option Race) (one race : Race) → new ≡ Some (unwrap_or old one)
    → new ≡ Some race → (old ≡ Some race) ⊎ (race ≡ one)
found_first None new one race e is = inr (same_Some race one (sym is ∙ e))
found_first (Some was) new one race e is = inl (ap Some (same_Some was race (sym e ∙ is)))

-- what a take adds for one side: it is kept for a cell
pub left_adds : (words : ℕ → Option ℕ) (old new : Kept) (take : MultiportTake) (cell : ℕ)
    (side : Side) → ((at : ℕ) (one : MultiportTake) → get_or new.left at None ≡ Some one
    → (get_or old.left at None ≡ Some one) ⊎ ((at ≡ cell) × (one ≡ take)))
    → new.race ≡ old.race → LeavesAt take side cell → TakeAdds words old new take
left_adds words old new take cell side left race is = record {
  left = λ at one e. by at one (left at one e);
  race = λ one e. inl (sym race ∙ e);
}
  where
    by : (at : ℕ) (one : MultiportTake)
        → (get_or old.left at None ≡ Some one) ⊎ ((at ≡ cell) × (one ≡ take))
        → (get_or old.left at None ≡ Some one) ⊎ LeavesBy take one at
    by at one (inl was) = inl was
    by at one (inr (here, same)) =
        inr (
          same,
          side,
          subst (λ k. LeavesAt one side k) (sym here)
              (subst (λ t. LeavesAt t side cell) (sym same) is),
        )

-- and a race by the word that is pending there
pub found_adds : (words : ℕ → Option ℕ) (old new : Kept) (take : MultiportTake)
    (left_out : SideWord) (cell : ℕ) → new.left ≡ old.left
    → new.race ≡ Some (unwrap_or old.race (record { take = take; left_out = left_out }))
    → LeavesAt take left_out.side cell → words cell ≡ Some left_out.word
    → left_out.writer ≡ unwrap_or (neighbour_of take.reader left_out.side) take.reader
    → TakeAdds words old new take
found_adds words old new take left_out cell left race is word writer = record {
  left = λ at one e. inl (ap (λ l. get_or l at None) (sym left) ∙ e);
  race = λ one e. by one (found_first old.race new.race it one race e);
}
  where
    it : Race
    it = record { take = take; left_out = left_out }

    pending : IsPending words it
    pending = record {
      cell = cell;
      at = is;
      word = word;
      writer = λ name there. writer ∙ ap (λ o. unwrap_or o take.reader) there;
    }

    by : (one : Race) → (old.race ≡ Some one) ⊎ (one ≡ it)
        → (old.race ≡ Some one) ⊎ ((one.take ≡ take) × IsPending words one)
    by one (inl was) = inl was
    by one (inr same) =
        inr (ap (λ (r : Race). r.take) same, subst (IsPending words) (sym same) pending)

-- a race of a take that was kept for a cell, by a word that is posted there
pub early_by : (w : Watch) (old new : Kept) (node cell : ℕ) (side : Side) (take : MultiportTake)
    (left_out : SideWord) (when : Post) (race : Race) → get_or old.left cell None ≡ Some take
    → w.left_at cell ≡ take.number + 1
    → true ≡ is_early_by (Some cell) (neighbour_of node side) (w.clocks.nodes node) w.left_at
    → left_out.side ≡ side → left_out.writer ≡ node → left_out.post ≡ Some when
    → new.race ≡ Some (unwrap_or old.race (record { take = take; left_out = left_out }))
    → new.race ≡ Some race
    → (old.race ≡ Some race) ⊎ EarlyBy w old node side cell left_out.word when race
early_by w old new node cell side take left_out when race left count early at writer post found e =
    by (found_first old.race new.race it race found e)
  where
    it : Race
    it = record { take = take; left_out = left_out }

    its : (next : Option ℕ) → neighbour_of node side ≡ next
        → true ≡ is_early_by (Some cell) next (w.clocks.nodes node) w.left_at
        → EarlyBy w old node side cell left_out.word when it
    its None there h = absurd (false≢true (sym h))
    its (Some reader) there h = record {
      left = left;
      side = at;
      word = refl;
      writer = writer;
      post = post;
      reader = reader;
      next = there;
      early = subst (λ n. w.clocks.nodes node reader < n) count
          (below (w.clocks.nodes node reader) (w.left_at cell) (sym h));
    }

    by : (old.race ≡ Some race) ⊎ (race ≡ it)
        → (old.race ≡ Some race) ⊎ EarlyBy w old node side cell left_out.word when race
    by (inl was) = inl was
    by (inr same) =
        inr (subst (EarlyBy w old node side cell left_out.word when) (sym same)
        (its (neighbour_of node side) refl early))

-- A step adds what its take does.
pub takes_add : (w : Watch) (old new : Kept) (step : Step) (take : MultiportTake)
    → IsTake step take → TakeAdds w.words old new take → Adds w old new step
takes_add w old new step take is a = record {
  left = λ cell one e. by cell one (a.left cell one e);
  race = λ race e. by_race race (a.race race e);
}
  where
    by : (cell : ℕ) (one : MultiportTake)
        → (get_or old.left cell None ≡ Some one) ⊎ LeavesBy take one cell
        → (get_or old.left cell None ≡ Some one)
        ⊎ (IsTake step one × ((side : Side) × LeavesAt one side cell))
    by cell one (inl was) = inl was
    by cell one (inr (same, side, at)) =
        inr (subst (IsTake step) (sym same) is, (side, at))

    by_race : (race : Race) → (old.race ≡ Some race) ⊎ ((race.take ≡ take) × IsPending w.words race)
        → (old.race ≡ Some race) ⊎ ((IsTake step race.take × IsPending w.words race)
        ⊎ PostedBy w old step race)
    by_race race (inl was) = inl was
    by_race race (inr (same, pending)) = inr (inl (subst (IsTake step) (sym same) is, pending))

-- A step that adds nothing itself.
pub adds_none : (w : Watch) (old new : Kept) (step : Step) → new.left ≡ old.left
    → new.race ≡ old.race → Adds w old new step
adds_none w old new step left race = record {
  left = λ cell one e. inl (ap (λ l. get_or l cell None) (sym left) ∙ e);
  race = λ one e. inl (sym race ∙ e);
}

-- and what is added stays
pub adds_more : (w : Watch) (old mid new : Kept) (step : Step) → Adds w old mid step
    → new.left ≡ mid.left → new.race ≡ mid.race → Adds w old new step
adds_more w old mid new step a left race = record {
  left = λ cell one e. a.left cell one (ap (λ l. get_or l cell None) (sym left) ∙ e);
  race = λ one e. a.race one (sym race ∙ e);
}

-- More steps.
longer : (before later steps : List Step) (step next : Step) → steps ≡ before ++ step ∷ later
    → steps ++ next ∷ [] ≡ before ++ step ∷ (later ++ next ∷ [])
longer before later steps step next e =
    ap (λ l. l ++ next ∷ []) e ∙ append_assoc before (step ∷ later) (next ∷ [])

longer_left : (steps : List Step) (next : Step) (take : MultiportTake) (cell : ℕ)
    → LeftAmong steps take cell → LeftAmong (steps ++ next ∷ []) take cell
longer_left steps next take cell l = record {
  before = l.before;
  step = l.step;
  later = l.later ++ next ∷ [];
  cut = longer l.before l.later steps l.step next l.cut;
  is = l.is;
  side = l.side;
  at = l.at;
}

longer_race : (start : List (Option ℕ)) (steps : List Step) (next : Step) (race : Race)
    → IsAmong start steps race → IsAmong start (steps ++ next ∷ []) race
longer_race start steps next race r = record {
  before = r.before;
  step = r.step;
  later = r.later ++ next ∷ [];
  cut = longer r.before r.later steps r.step next r.cut;
  take = r.take;
  comes = by r.comes;
}
  where
    at : Watch
    at = watch_on (first_watch start) (r.before ++ r.step ∷ [])

    by : IsPending (watch_on (first_watch start) r.before).words race ⊎ IsPostedIn at r.later race
        → IsPending (watch_on (first_watch start) r.before).words race
        ⊎ IsPostedIn at (r.later ++ next ∷ []) race
    by (inl pending) = inl pending
    by (inr p) = inr (record {
      mid = p.mid;
      post = p.post;
      rest = p.rest ++ next ∷ [];
      cut = longer p.mid p.rest r.later p.post next p.cut;
      side = p.side;
      cell = p.cell;
      at = p.at;
      posted = p.posted;
    })

-- WHAT IS RECALLED STAYS SO WITH ONE STEP MORE
pub recalls_next : (kept new : Kept) (steps : List Step) (step : Step) → new.start ≡ kept.start
    → Adds (watch_on (first_watch kept.start) steps) kept new step → Recalls kept steps
    → Recalls new (steps ++ step ∷ [])
recalls_next kept new steps step start adds r = record {
  left = λ cell take e. by cell take (adds.left cell take e);
  race = λ race e. subst (λ first. IsAmong first (steps ++ step ∷ []) race) (sym start)
      (by_race race (adds.race race e));
}
  where
    w : Watch
    w = watch_on (first_watch kept.start) steps

    by : (cell : ℕ) (take : MultiportTake)
        → (get_or kept.left cell None ≡ Some take)
        ⊎ (IsTake step take × ((side : Side) × LeavesAt take side cell))
        → LeftAmong (steps ++ step ∷ []) take cell
    by cell take (inl was) = longer_left steps step take cell (r.left cell take was)
    by cell take (inr (is, (side, at))) = record {
      before = steps;
      step = step;
      later = [];
      cut = refl;
      is = is;
      side = side;
      at = at;
    }

    posted : (race : Race) (cell : ℕ) → LeftAmong steps race.take cell → IsPosted w step race cell
        → IsAmong kept.start (steps ++ step ∷ []) race
    posted race cell l p = record {
      before = l.before;
      step = l.step;
      later = l.later ++ step ∷ [];
      cut = longer l.before l.later steps l.step step l.cut;
      take = l.is;
      comes = inr (record {
        mid = l.later;
        post = step;
        rest = [];
        cut = refl;
        side = l.side;
        cell = cell;
        at = l.at;
        posted = subst (λ v. IsPosted v step race cell)
            (ap (watch_on (first_watch kept.start)) (l.cut
            ∙ sym (append_assoc l.before (l.step ∷ []) l.later))
            ∙ watch-append (first_watch kept.start) (l.before ++ l.step ∷ []) l.later) p;
      });
    }

    by_race : (race : Race) → (kept.race ≡ Some race)
        ⊎ ((IsTake step race.take × IsPending w.words race) ⊎ PostedBy w kept step race)
        → IsAmong kept.start (steps ++ step ∷ []) race
    by_race race (inl was) = longer_race kept.start steps step race (r.race race was)
    by_race race (inr (inl (is, pending))) = record {
      before = steps;
      step = step;
      later = [];
      cut = refl;
      take = is;
      comes = inl pending;
    }
    by_race race (inr (inr p)) = posted race p.cell (r.left p.cell race.take p.left) p.posted
