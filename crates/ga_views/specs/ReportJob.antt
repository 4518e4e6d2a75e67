-- The job `report`: what it writes.
use Rattle.std.specs.Prelude.{◌≡◌, ◌++◌, ℕ, List, codes, Option, Some, None, Result, Ok, Err, option_map, take}
use Rattle.std.specs.Borrow.{Bor}
use Rattle.ga_chip.specs.Chip.{Chip}
use Rattle.ga_counts.specs.Listing.{SectionView}
use Rattle.ga_place.specs.Node.{node_text}
use Rattle.ga_profile.specs.Bottleneck.{bottleneck_text}
use Rattle.ga_profile.specs.Lines.{line_turns}
use Rattle.ga_profile.specs.NodePass.{node_passes}
use Rattle.ga_profile.specs.Path.{path_turns}
use Rattle.ga_profile.specs.Profile.{chip_at_end, nodes_in, shorter_in, window_in}
use Rattle.ga_profile.specs.Window.{length_of}
use Rattle.ga_profile.specs.declared.profile.Profile.{Profile}
use Rattle.ga_profile.specs.declared.window.Window.{Window}
use Rattle.ga_profile.specs.declared.window.WindowStart.{WindowStart}
use Rattle.ga_race.specs.Verdict.{IsSo}
use Rattle.ga_race.specs.declared.found.Race.{Race}
use Rattle.ga_race.specs.declared.verdict.Verdict.{Verdict}
use Rattle.ga_race.specs.declared.verdict.Verdict.TheVariants as verdict
use Rattle.ga_report.specs.CloseUp.{close_up_window}
use Rattle.ga_report.specs.Columns.{columns_of}
use Rattle.ga_report.specs.Page.{page_text}
use Rattle.ga_report.specs.Holder.{holders_in}
use Rattle.ga_report.specs.Timeline.{counts_in, kinds_in}
use Rattle.ga_report.specs.Transfers.{transfers_in}
use Rattle.ga_report.specs.declared.close_up.CloseUp.{CloseUp}
use Rattle.ga_report.specs.declared.timeline.Timeline.{Timeline}
use Rattle.ga_trace.specs.Depth.{all_depths}
use Rattle.ga_transcript.specs.Live.{LiveView}
use Rattle.ga_input.specs.declared.fault.ServeError.{ServeError}
use Rattle.ga_input.specs.declared.loading.Loading.{Loading}
use Rattle.ga_views.specs.CountsJob.{AreCounted}
use Rattle.ga_views.specs.ProfileJob.{with_waits}
use Rattle.ga_views.specs.Race.{most_turns}
use Rattle.ga_input.specs.Session.{IsSession}
use Rattle.ga_input.specs.Text.{text_in}

-- a profile is that of the run of a chip, from where a start says
pub record IsMeasured (chip : Chip) (start : WindowStart) (most : ℕ) (profile : Profile)
    : Type 0 where
  pub window : profile.window ≡ window_in start most chip
  pub nodes : profile.nodes.items ≡ nodes_in (window_in start most chip) chip
  pub passes : profile.passes.items ≡ node_passes (window_in start most chip) chip
  pub path : profile.path.items ≡ path_turns (window_in start most chip) chip
  pub lines : profile.lines.items
      ≡ line_turns (window_in start most chip) chip profile.path.items
  pub shorter : profile.shorter
      ≡ shorter_in (window_in start most chip) most chip profile.path.items
  pub depths : profile.depths.items ≡ all_depths (window_in start most chip).end chip
  pub end : profile.chip ≡ chip_at_end (window_in start most chip) chip

abbrev pub race_headline : Race → List ℕ
race_headline race =
    codes "Race: the schedule decides which word " ++ node_text race.take.reader ++ codes " takes."

-- the headline: a race, if the verdict is one, or else the bottleneck of a profile, or its deadlock
abbrev pub headline_by : Verdict → Profile → List ℕ
headline_by (verdict.Race race) profile = race_headline race
headline_by v profile =
    bottleneck_text profile.chip profile.nodes.items profile.path.items profile.shorter
    (length_of profile.window)

-- The same, by a verdict that is so after some turns. Without another verdict they are the most
-- turns.
abbrev pub IsHeadline : Chip → ℕ → Profile → List ℕ → Type 0
IsHeadline chip most profile headline =
    (turns : ℕ) × (v : Verdict) × IsSo chip turns v × (v ≡ verdict.Open → turns ≡ most)
    × (headline ≡ headline_by v profile)

-- a timeline is that of a window of the run of a chip
pub record IsTimeline (chip : Chip) (window : Window) (timeline : Timeline) : Type 0 where
  pub window_is : timeline.window ≡ window
  pub columns : timeline.columns ≡ columns_of window
  pub kinds : timeline.kinds.items ≡ kinds_in window chip
  pub counts : timeline.counts.items ≡ counts_in window chip
  pub path : timeline.path.items ≡ holders_in window window chip

-- a close-up is that of a part of a window
pub record IsNear (chip : Chip) (whole window : Window) (near : CloseUp) : Type 0 where
  pub window_is : near.timeline.window ≡ window
  pub columns : near.timeline.columns ≡ columns_of window
  pub kinds : near.timeline.kinds.items ≡ kinds_in window chip
  pub counts : near.timeline.counts.items ≡ counts_in window chip
  pub path : near.timeline.path.items ≡ holders_in whole window chip
  pub transfers : near.transfers.items ≡ take 401 (transfers_in window chip)

-- the same of a part that there may be
abbrev pub IsCloseUp : Chip → Window → Option Window → Option CloseUp → Type 0
IsCloseUp chip whole (Some window) (Some near) = IsNear chip whole window near
IsCloseUp chip whole None None = Unit {0}
IsCloseUp chip whole window near = ⊥

-- the page of a profile of a session's chip, with its timelines, a headline, listings of nodes and
-- the text that has their source
abbrev pub IsPage : LiveView → Profile → List ℕ → List SectionView → List ℕ → List ℕ → Type 0
IsPage live profile headline sections text page =
    (timeline : Timeline) × IsTimeline live.chip profile.window timeline
    × ((close_up : Option (Bor CloseUp))
    × IsCloseUp live.chip profile.window (close_up_window profile.window profile.passes.items)
    (option_map (λ (lent : Bor CloseUp). lent.now) close_up)
    × (page ≡ page_text headline profile timeline close_up
    (with_waits live.program.images profile) sections text))

-- the page of a session, whose source is in a text, from where a start says, in at most this many
-- turns
unfoldable pub IsReport : LiveView → WindowStart → ℕ → Loading → List ℕ → List ℕ → Type 0
IsReport live start most loading text page =
    (profile : Profile) × IsMeasured live.chip start most profile
    × ((headline : List ℕ) × IsHeadline live.chip most profile headline
    × ((sections : List SectionView) × AreCounted live most loading text sections
    × IsPage live profile headline sections text page))

-- the page of the session that an input opens, or the first fault of that session
abbrev pub IsReportOutput : Loading → WindowStart → Option ℕ → List ℕ
    → Result (List ℕ) ServeError → Type 0
IsReportOutput loading start turns input (Ok page) =
    (text : List ℕ) × (text_in input ≡ Ok text)
    × ((live : LiveView) × IsSession loading input (Ok live)
    × IsReport live start (most_turns turns) loading text page)
IsReportOutput loading start turns input (Err fault) = IsSession loading input (Err fault)
