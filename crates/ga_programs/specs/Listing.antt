-- The job `list`: what it writes.
use Rattle.std.specs.Prelude.{ℕ, Bool, true, false, List, Result}
use Rattle.ga_asm.specs.declared.text.TextError.{TextError}
use Rattle.ga_input.specs.declared.fault.ServeError.{ServeError}
use Rattle.ga_input.specs.Text.{IsInText}
use Rattle.ga_input.specs.TextFault.{shown_fault}
use Rattle.ga_list.specs.Labels.{AreLabelsOf}
use Rattle.ga_list.specs.Listing.{IsListingOf}

-- the output of `list` for a text, only its labels or its listing, or its first fault
abbrev pub IsListed : Bool → List ℕ → Result (List ℕ) TextError → Type 0
IsListed true text answer = AreLabelsOf text answer
IsListed false text answer = IsListingOf text answer

-- what `list` may write for an input, or the first fault of the input, with what is shown of its
-- text
abbrev pub IsListOutput : Bool → List ℕ → Result (List ℕ) ServeError → Type 0
IsListOutput labels input answer = IsInText shown_fault (IsListed labels) input answer
