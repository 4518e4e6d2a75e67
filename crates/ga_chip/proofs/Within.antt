-- A step keeps the bounds of the counts.
use Rattle.std.proofs.Common.{◌≡◌, Option, None, ℕ, ◌+◌, ◌-◌, ◌^◌, ◌<◌, ◌≤◌, Bool, true, false, refl, sym, ap, ◌∙◌, subst, arith}
use Rattle.std.specs.Prelude.{if◌then◌else◌}
use Rattle.std.proofs.lemmas.Bool.{false≢true}
use Rattle.ga_place.specs.declared.side.Side.{Side}
use Rattle.ga_place.specs.declared.side.Side.TheVariants.{Right, Down, Left, Up}
use Rattle.ga_node.specs.State.{State}
use Rattle.ga_node.specs.Need.{is_check, is_own, is_post, need_of, takes_at}
use Rattle.ga_node.specs.Slot.{if_own, step, step_if_own}
use Rattle.ga_node.specs.declared.need.Need.{Need}
use Rattle.ga_node.specs.declared.need.Need.TheVariants.{Own, Take, Post, Check, Input, Stopped}
use Rattle.ga_node.proofs.Rows.{is_running, running_below, step_node, step_steps}
use Rattle.ga_chip.specs.Part.{Counts, count_at, counted}
use Rattle.ga_chip.specs.declared.port.Ports.{Ports}
use Rattle.ga_chip.specs.inner.Port.{FitsPorts}
use Rattle.ga_chip.specs.inner.Within.{IsWithin, StepsBound}
use Rattle.ga_node.proofs.OwnSteps.{own_is, own_step}

-- one step more leaves the counts within
pub step_within : (counts : Counts) (before now : ℕ) → now ≡ before + 1 → IsWithin counts before
    → IsWithin counts now
step_within counts before now e within side =
    let below : count_at side counts ≤ before = within side in omega arith

-- and one count more does too
pub count_within : (side : Side) (counts : Counts) (before now : ℕ) → now ≡ before + 1
    → IsWithin counts before → IsWithin (counted side counts) now
count_within Right counts before now e within Right =
    let below : counts.right ≤ before = within Right in omega arith
count_within Right counts before now e within Down = step_within counts before now e within Down
count_within Right counts before now e within Left = step_within counts before now e within Left
count_within Right counts before now e within Up = step_within counts before now e within Up
count_within Down counts before now e within Right = step_within counts before now e within Right
count_within Down counts before now e within Down =
    let below : counts.down ≤ before = within Down in omega arith
count_within Down counts before now e within Left = step_within counts before now e within Left
count_within Down counts before now e within Up = step_within counts before now e within Up
count_within Left counts before now e within Right = step_within counts before now e within Right
count_within Left counts before now e within Down = step_within counts before now e within Down
count_within Left counts before now e within Left =
    let below : counts.left ≤ before = within Left in omega arith
count_within Left counts before now e within Up = step_within counts before now e within Up
count_within Up counts before now e within Right = step_within counts before now e within Right
count_within Up counts before now e within Down = step_within counts before now e within Down
count_within Up counts before now e within Left = step_within counts before now e within Left
count_within Up counts before now e within Up =
    let below : counts.up ≤ before = within Up in omega arith

-- so a count of it can grow
pub room : (side : Side) (counts : Counts) (state : State) → is_running (need_of state) ≡ true
    → state.steps < 2 ^ 64 → IsWithin counts state.steps → count_at side counts < 2 ^ 64 - 1
room side counts state runs fits within =
    let next : state.steps + 1 < 2 ^ 64 = running_below state runs fits in
    let below : count_at side counts ≤ state.steps = within side in
    omega arith

-- a node that needs something from outside runs
pub post_runs : (n : Need) → is_post n ≡ true → is_running n ≡ true
post_runs (Post side word) e = refl
post_runs Own e = absurd (false≢true e)
post_runs (Take sides) e = absurd (false≢true e)
post_runs (Check side) e = absurd (false≢true e)
post_runs Input e = absurd (false≢true e)
post_runs (Stopped stop) e = absurd (false≢true e)

pub check_runs : (n : Need) → is_check n ≡ true → is_running n ≡ true
check_runs (Check side) e = refl
check_runs Own e = absurd (false≢true e)
check_runs (Take sides) e = absurd (false≢true e)
check_runs (Post side word) e = absurd (false≢true e)
check_runs Input e = absurd (false≢true e)
check_runs (Stopped stop) e = absurd (false≢true e)

pub take_runs : (side : Side) (n : Need) → takes_at side n ≡ true → is_running n ≡ true
take_runs side (Take sides) e = refl
take_runs side Own e = absurd (false≢true e)
take_runs side (Post to word) e = absurd (false≢true e)
take_runs side (Check to) e = absurd (false≢true e)
take_runs side Input e = absurd (false≢true e)
take_runs side (Stopped stop) e = absurd (false≢true e)

pub input_runs : (n : Need) → n ≡ Input → is_running n ≡ true
input_runs n is = ap is_running is

-- the bounds after a step, after one that posts, and after one that takes
pub step_bound : (state : State) (now : ℕ) (written read : Counts)
    → is_running (need_of state) ≡ true → now ≡ state.steps + 1
    → StepsBound state.steps written read → StepsBound now written read
step_bound state now written read runs e bound = record {
  fits = subst (λ n. n < 2 ^ 64) (sym e) (running_below state runs bound.fits);
  writes = step_within written state.steps now e bound.writes;
  reads = step_within read state.steps now e bound.reads;
}

pub post_bound : (side : Side) (state : State) (now : ℕ) (written read : Counts)
    → is_running (need_of state) ≡ true → now ≡ state.steps + 1
    → StepsBound state.steps written read → StepsBound now (counted side written) read
post_bound side state now written read runs e bound =
    let stepped = step_bound state now written read runs e bound in record {
      fits = stepped.fits;
      writes = count_within side written state.steps now e bound.writes;
      reads = stepped.reads;
    }

pub take_bound : (side : Side) (state : State) (now : ℕ) (written read : Counts)
    → is_running (need_of state) ≡ true → now ≡ state.steps + 1
    → StepsBound state.steps written read → StepsBound now written (counted side read)
take_bound side state now written read runs e bound =
    let stepped = step_bound state now written read runs e bound in record {
      fits = stepped.fits;
      writes = stepped.writes;
      reads = count_within side read state.steps now e bound.reads;
    }

pub own_bound : (state next : State) (written read : Counts) → is_own (need_of state) ≡ true
    → next ≡ step_if_own (need_of state) state → StepsBound state.steps written read
    → StepsBound next.steps written read
own_bound state next written read own e bound =
    step_bound state next.steps written read (ap is_running (own_is (need_of state) own))
    (ap (λ s. s.steps) (own_step state next own e) ∙ step_steps state None) bound

not_own : (n : Need) (own other : State) → is_own n ≡ false → if_own n own other ≡ other
not_own Own own other e = absurd (false≢true (sym e))
not_own (Take sides) own other e = refl
not_own (Post side word) own other e = refl
not_own (Check side) own other e = refl
not_own Input own other e = refl
not_own (Stopped stop) own other e = refl

-- and if it isn't, nothing
pub own_still : (state next : State) → is_own (need_of state) ≡ false
    → next ≡ step_if_own (need_of state) state → next ≡ state
own_still state next far e = e ∙ not_own (need_of state) (step state None) state far

pub try_bound : (state next : State) (written read : Counts)
    → next ≡ step_if_own (need_of state) state → StepsBound state.steps written read
    → StepsBound next.steps written read
try_bound state next written read e bound = by (is_own (need_of state)) refl
  where
    by : (b : Bool) → is_own (need_of state) ≡ b → StepsBound next.steps written read
    by true own = own_bound state next written read own e bound
    by false far =
        subst (λ s. StepsBound s.steps written read) (sym (own_still state next far e)) bound

-- and of one that is left out, or not
pub quick_bound : (state next : State) (quick : Bool) (written read : Counts)
    → next ≡ (if quick then step_if_own (need_of state) state else state)
    → StepsBound state.steps written read → StepsBound next.steps written read
quick_bound state next true written read e bound = try_bound state next written read e bound
quick_bound state next false written read e bound =
    subst (λ s. StepsBound s.steps written read) (sym e) bound

-- a step keeps the node, and so its ports
pub ports_stay : (state next : State) (word : Option ℕ) (ports : Ports) → next ≡ step state word
    → FitsPorts state.node ports → FitsPorts next.node ports
ports_stay state next word ports e fits =
    subst (λ name. FitsPorts name ports) (sym (ap (λ s. s.node) e ∙ step_node state word)) fits

pub quick_ports : (state next : State) (quick : Bool) (ports : Ports)
    → next ≡ (if quick then step_if_own (need_of state) state else state)
    → FitsPorts state.node ports → FitsPorts next.node ports
quick_ports state next true ports e fits = by (is_own (need_of state)) refl
  where
    by : (b : Bool) → is_own (need_of state) ≡ b → FitsPorts next.node ports
    by true own = ports_stay state next None ports (own_step state next own e) fits
    by false far = subst (λ s. FitsPorts s.node ports) (sym (own_still state next far e)) fits
quick_ports state next false ports e fits = subst (λ s. FitsPorts s.node ports) (sym e) fits
