-- The job `list --counts`: what it writes.
use Rattle.std.specs.Prelude.{◌≡◌, ℕ, List, MatchBool, Option, Result, Ok, Err, if◌then◌else◌}
use Rattle.ga_counts.specs.Counts.{counts_of}
use Rattle.ga_counts.specs.Listing.{HasCountedListing, HasCountedSections, SectionView}
use Rattle.ga_debug.specs.Beginning.{IsHeadSource}
use Rattle.ga_transcript.specs.Live.{LiveView}
use Rattle.ga_input.specs.declared.fault.ServeError.{ServeError}
use Rattle.ga_input.specs.declared.loading.Loading.{Loading}
use Rattle.ga_views.specs.Race.{most_turns}
use Rattle.ga_input.specs.Loading.{is_head}
use Rattle.ga_input.specs.Session.{IsSession}
use Rattle.ga_input.specs.Text.{text_in}
use Rattle.ga_views.specs.TraceJob.{turns_until_rest}

-- the source lines of a text: those of its head, if it is a session, or else all
abbrev pub IsSourceOf : Loading → List ℕ → List ℕ → Type 0
IsSourceOf loading text source =
    MatchBool (is_head loading text) (IsHeadSource text (Ok source)) (source ≡ text)

-- how many lines come before them: a head begins with two
abbrev pub lines_before : Loading → List ℕ → ℕ
lines_before loading text = if is_head loading text then 2 else 0

-- a listing with the counts of the turns until rest, of which there are at most this many
unfoldable pub IsCounted : LiveView → ℕ → Loading → List ℕ → List ℕ → Type 0
IsCounted live most loading text listing =
    (source : List ℕ) × IsSourceOf loading text source
    × HasCountedListing source (lines_before loading text)
    (counts_of (turns_until_rest live most) live.chip) listing

-- the same for the listings of the nodes
unfoldable pub AreCounted : LiveView → ℕ → Loading → List ℕ → List SectionView → Type 0
AreCounted live most loading text sections =
    (source : List ℕ) × IsSourceOf loading text source
    × HasCountedSections source (lines_before loading text)
    (counts_of (turns_until_rest live most) live.chip) sections

-- the listing of the session that an input opens, or the first fault of that session
abbrev pub IsCountsOutput : Loading → Option ℕ → List ℕ → Result (List ℕ) ServeError → Type 0
IsCountsOutput loading turns input (Ok listing) =
    (text : List ℕ) × (text_in input ≡ Ok text)
    × ((live : LiveView) × IsSession loading input (Ok live)
    × IsCounted live (most_turns turns) loading text listing)
IsCountsOutput loading turns input (Err fault) = IsSession loading input (Err fault)
