use Rattle.std.proofs.Common.{◌≡◌, List, ℕ, ap, map, string_bytes, subst}
use Rattle.std.proofs.lemmas.Result.{IfOk-weaker}
use Rattle.ga_counts.specs.Listing.{SectionView, section_view}
use Rattle.ga_counts.specs.declared.section.CountedSection.{CountedSection}
use Rattle.ga_profile.specs.declared.profile.Profile.{Profile}
use Rattle.ga_transcript.specs.Live.{LiveView}
use Rattle.ga_views.specs.ReportJob.{IsPage, IsReport}
use Rattle.ga_views.proofs.report.page_after.Goals as goal

-- a page with this headline and these listings is one with equal ones
page_with : (live : LiveView) (profile : Profile) (source page headline shown : List ℕ)
    (sections listed : List SectionView) → headline ≡ shown → sections ≡ listed
    → IsPage live profile headline sections source page
    → IsPage live profile shown listed source page
page_with live profile source page headline shown sections listed h l is =
    subst (λ (views : List SectionView). IsPage live profile shown views source page) l
    (subst (λ (text : List ℕ). IsPage live profile text sections source page) h is)

pub returns : goal.returns
unfolding IsReport
returns c =
    let live = c.args.live.now in
    let profile = c.in_ok-profile.profile in
    let shown = string_bytes c.in_ok-headline.headline in
    let listed = map section_view c.in_ok-sections.sections.items in
    let h = c.as_str.ensures.value in
    let l = ap (λ (sections : List CountedSection). map section_view sections)
    c.as_slice.ensures.value in
    IfOk-weaker c.page_of.result _ _ (λ page is. (
      profile,
      c.in_ok-profile.ensures,
      (
        shown,
        c.in_ok-headline.ensures,
        (
          listed,
          c.in_ok-sections.ensures,
          page_with live profile c.args.text.now (string_bytes page) _ shown _ listed h l is,
        ),
      ),
    ))
    c.page_of.ensures
