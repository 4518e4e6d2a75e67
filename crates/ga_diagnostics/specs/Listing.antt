-- The listing of an input, with the lines that were written.
use Rattle.std.specs.Prelude.{ℕ, List, ◌++◌, codes, Result, Ok, Err, string_bytes, if◌then◌else◌}
use Rattle.std.specs.Fmt.{decimal}
use Rattle.std.specs.Str.{bytes_eq}
use Rattle.ga_expand.specs.declared.expansion.Expansion.{Expansion}
use Rattle.ga_faults.specs.Origin.{origin}
use Rattle.ga_list.specs.LineNames.{LineNames}
use Rattle.ga_list.specs.Listing.{HasNamedListing}
use Rattle.ga_messages.specs.Shown.{shown_name}
use Rattle.ga_input.specs.declared.fault.ServeError.{ServeError}
use Rattle.ga_input.specs.Larger.{IsExpandedInput}
use Rattle.ga_diagnostics.specs.ExpansionFault.{IsExpansionFault}
use Rattle.ga_diagnostics.specs.Lines.{Origin, Origins}

-- What is shown of a line. If its file has this name, it is the line's number alone, or else that
-- file's name, as messages show it, a colon and the number.
abbrev pub line_text : List ℕ → Origin → List ℕ
line_text name at =
    if bytes_eq at.name name then decimal at.line
    else shown_name at.name ++ (codes ":" ++ decimal at.line)

-- What is shown of a place of an expansion of a text: the line where its token was written. The
-- file with this name is the one that includes the others.
abbrev pub written_names : List ℕ → Origins → List ℕ → Expansion → LineNames
written_names name origins text made place =
    line_text name (origins (origin text made place).line)

-- What the listing may be of an input whose lines were written there: that of a text that the input
-- expands to, each line shown as the one where its token was written. Or the first fault.
abbrev pub IsWrittenListing : List ℕ → Origins → List ℕ → Result (List ℕ) ServeError → Type 0
IsWrittenListing name origins input (Ok listing) =
    (made : Expansion) × IsExpandedInput input (Ok made)
    × HasNamedListing (written_names name origins input made) (string_bytes made.text) listing
IsWrittenListing name origins input (Err fault) = IsExpansionFault input fault
