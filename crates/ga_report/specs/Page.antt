-- A page of a run.
use Rattle.std.specs.Prelude.{ℕ, Option, List, [], ◌∷◌, ◌++◌, codes}
use Rattle.std.specs.Borrow.{Bor}
use Rattle.std.specs.List.{concat}
use Rattle.ga_counts.specs.Listing.{SectionView}
use Rattle.ga_profile.specs.declared.profile.Profile.{Profile}
use Rattle.ga_report.specs.declared.close_up.CloseUp.{CloseUp}
use Rattle.ga_report.specs.declared.timeline.Timeline.{Timeline}
use Rattle.ga_report.specs.CloseUpRows.{close_up_part}
use Rattle.ga_report.specs.Escape.{escaped}
use Rattle.ga_report.specs.Listing.{listing_part}
use Rattle.ga_report.specs.Picture.{picture}
use Rattle.ga_report.specs.Rows.{timeline_part}
use Rattle.ga_report.specs.Source.{source_part}
use Rattle.ga_report.specs.Style.{STYLE}

-- the begin of a page, up to its title
unfoldable pub OPENING : List ℕ
OPENING =
    concat (codes "<!DOCTYPE html>\n<html lang='en'><head><meta charset='utf-8'/>\n"
    ∷ codes "<meta name='viewport' content='width=device-width,initial-scale=1'/>\n"
    ∷ codes "<title>" ∷ [])

-- what stands below the headline
unfoldable pub REMARK : List ℕ
REMARK = codes "</h1>\n<p>Turns aren't time on a chip.</p>\n"

-- its head with the style sheet, and the headline, which is its title too
unfoldable pub head : List ℕ → List ℕ
head headline =
    concat (OPENING ∷ escaped headline ∷ STYLE ∷ escaped headline ∷ REMARK ∷ [])

-- a heading, and the begin of a text as it is laid out
unfoldable pub heading : List ℕ → List ℕ
heading shown = codes "<h2>" ++ shown ++ codes "</h2>\n<pre tabindex='0'>"

-- a text as it is laid out, under a heading
unfoldable pub preformatted : List ℕ → List ℕ → List ℕ
preformatted headed shown =
    concat (heading headed ∷ escaped shown ∷ codes "</pre>\n" ∷ [])

-- the first of two columns: the listings of nodes
unfoldable pub listing_column : List SectionView → List ℕ
listing_column sections =
    concat (codes "<div class='beside'><div>\n" ∷ listing_part sections ∷ codes "</div>\n" ∷ [])

-- and the second: a source text
unfoldable pub source_column : List ℕ → List ℕ
source_column source =
    concat (codes "<div>\n" ∷ source_part source ∷ codes "</div></div>\n" ∷ [])

-- the end of a page
unfoldable pub CLOSING : List ℕ
CLOSING = codes "</main></body></html>\n"

-- A page, by the profile of a run and its timelines: the headline; the timelines; the text of the
-- profile; the chip; and the listings of its nodes, with the source beside them.
unfoldable pub page_text : List ℕ → Profile → Timeline → Option (Bor CloseUp) → List ℕ
    → List SectionView → List ℕ → List ℕ
page_text headline profile timeline close_up shown sections source =
    concat (head headline ∷ timeline_part profile.nodes.items timeline
    ∷ close_up_part profile.nodes.items close_up ∷ preformatted (codes "Profile") shown
    ∷ picture profile.chip profile.nodes.items ∷ listing_column sections
    ∷ source_column source ∷ CLOSING ∷ [])
