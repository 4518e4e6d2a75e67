-- What a use of a node's breakpoints makes of the chip.
use Rattle.std.proofs.Common.{◌≡◌, ℕ, ◌<◌, Bool, true, false, length, set, get_or, Option, Some, None, refl, sym, ap, ap₂, ◌∙◌}
use Rattle.std.specs.Prelude.{◌||◌}
use Rattle.ga_place.specs.Cell.{index_of}
use Rattle.ga_place.specs.declared.side.Side.{Side}
use Rattle.ga_place.specs.declared.side.Side.TheVariants.{Right}
use Rattle.ga_chip.specs.declared.outcome.Outcome.{Outcome}
use Rattle.ga_chip.specs.declared.outcome.Outcome.TheVariants.{Held, Moved, Stopped, Waits}
use Rattle.ga_chip.specs.declared.error.ChipError.{ChipError}
use Rattle.ga_chip.specs.declared.error.ChipError.TheVariants.{NotHeld}
use Rattle.ga_chip.specs.Part.{Part, Asks, Nothing, Own, Feed, Post, Check, Take, after, after_asked, asks}
use Rattle.ga_chip.specs.Chip.{Chip, answer_of, found_by, part_of, tried, unless_held, with_changed}
use Rattle.ga_chip.specs.Run.{ClearBreak, PassBreak, SetBreak, break_cleared, break_passed, break_set, happened, is_hold}
use Rattle.ga_chip.proofs.Lists.{set-get}
use Rattle.ga_chip.proofs.Placed.{changed_there}
use Rattle.ga_chip.proofs.Tries.{part_at, tried_there}

pub changed_at : (change : Part → Part) (chip : Chip) (name index : ℕ) (part next : Part)
    → length chip.parts ≡ 144 → index ≡ index_of name → index < 144
    → part ≡ get_or chip.parts index part → next ≡ change part → record chip
    { parts = set chip.parts index next } ≡ with_changed change (part_of chip name) chip name
changed_at change chip name index part next full is below read e =
    ap₂ (λ i p. record chip { parts = set chip.parts i p }) is e
    ∙ sym (changed_there change chip name part (part_at chip name index part full is below read))

pub set_at : (chip : Chip) (name at index : ℕ) (part next : Part) → length chip.parts ≡ 144
    → index ≡ index_of name → index < 144 → part ≡ get_or chip.parts index part
    → next ≡ break_set at part
    → record chip { parts = set chip.parts index next } ≡ happened chip (SetBreak name at)
unfolding happened
set_at chip name at index part next full is below read e =
    changed_at (break_set at) chip name index part next full is below read e

pub cleared_at : (chip : Chip) (name at index : ℕ) (part next : Part) → length chip.parts ≡ 144
    → index ≡ index_of name → index < 144 → part ≡ get_or chip.parts index part
    → next ≡ break_cleared at part
    → record chip { parts = set chip.parts index next } ≡ happened chip (ClearBreak name at)
unfolding happened
cleared_at chip name at index part next full is below read e =
    changed_at (break_cleared at) chip name index part next full is below read e

pub passed_at : (chip : Chip) (name index : ℕ) (part next : Part) → length chip.parts ≡ 144
    → index ≡ index_of name → index < 144 → part ≡ get_or chip.parts index part
    → next ≡ break_passed part
    → record chip { parts = set chip.parts index next } ≡ happened chip (PassBreak name)
unfolding happened
passed_at chip name index part next full is below read e =
    changed_at break_passed chip name index part next full is below read e

-- if a node isn't held a pass changes nothing
or_false : (a b : Bool) → b ≡ false → a || b ≡ a
or_false true b e = refl
or_false false b e = e

pub pass_kept : (part : Part) → is_hold (asks part Right) ≡ false → part ≡ break_passed part
pass_kept part e =
    ap (λ pass. record part { pass = pass })
    (sym (or_false part.pass (is_hold (asks part Right)) e))

-- a part that is put back as it was
pub back_same : (chip : Chip) (name index : ℕ) (part next : Part) → length chip.parts ≡ 144
    → index ≡ index_of name → index < 144 → part ≡ get_or chip.parts index part → next ≡ part
    → record chip { parts = set chip.parts index next } ≡ chip
back_same chip name index part next full is below read e =
    ap₂ (λ i p. record chip { parts = set chip.parts i p }) is e
    ∙ ap (λ l. record chip { parts = l })
    (set-get chip.parts (index_of name) part (part_at chip name index part full is below read))

-- a try is held if and only if it asks for nothing because of that
abbrev pub unless : Bool → Option ChipError
unless true = None
unless false = Some NotHeld

held_outcome : (outcome : Outcome) → unless_held outcome ≡ unless (is_hold (Nothing outcome))
held_outcome Moved = refl
held_outcome Waits = refl
held_outcome Held = refl
held_outcome Stopped = refl

held_asked : (q : Asks) (found : Option ℕ) (part : Part)
    → unless_held (after_asked q found part).0 ≡ unless (is_hold q)
held_asked (Nothing outcome) found part = held_outcome outcome
held_asked Own found part = refl
held_asked (Feed fed) found part = refl
held_asked (Post side cell word) found part = refl
held_asked (Check side cell) None part = refl
held_asked (Check side cell) (Some word) part = refl
held_asked (Take side cell) None part = refl
held_asked (Take side cell) (Some word) part = refl

pub held_after : (part : Part) (side : Side) (found : Option ℕ)
    → unless_held (after part side found).0 ≡ unless (is_hold (asks part side))
unfolding after
held_after part side found = held_asked (asks part side) found part

-- so a pass is refused as the code refuses it
pub refused_by : (chip : Chip) (name index : ℕ) (part : Part) (held : Bool) (side : Side)
    → length chip.parts ≡ 144 → index ≡ index_of name → index < 144
    → part ≡ get_or chip.parts index part → held ≡ is_hold (asks part side)
    → answer_of (unless held) ≡ answer_of (unless_held (tried chip name side).0)
refused_by chip name index part held side full is below read e =
    ap answer_of (ap unless e ∙ sym (held_after part side (found_by (asks part side) chip.cells))
    ∙ ap (λ r. unless_held r.0)
    (sym (tried_there chip name side part (part_at chip name index part full is below read))))
