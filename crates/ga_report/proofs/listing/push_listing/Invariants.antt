use Rattle.std.proofs.Common.{◌≡◌, ◌++◌, codes, drop, map, string_bytes}
use Rattle.std.specs.List.{flat_map}
use Rattle.ga_counts.specs.Listing.{section_view}
use Rattle.ga_report.specs.Listing.{section_part}
use Rattle.ga_report.proofs.listing.push_listing.Given as goal

-- what is written, and the listings that are left
abbrev pub invariant-loop-section : goal.invariant-loop-section
invariant-loop-section l =
    string_bytes l.text
    ++ flat_map section_part (map section_view (drop l.section-index l.sections))
    ≡ (string_bytes l.fn.text ++ codes "<h2>Listing</h2>\n")
    ++ flat_map section_part (map section_view l.sections)
