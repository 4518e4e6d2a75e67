use Rattle.std.proofs.Common.{◌≡◌, ◌++◌, drop, map, string_bytes}
use Rattle.ga_counts.specs.Listing.{listing_of, section_view}
use Rattle.ga_counts.proofs.listing.listing_of.Given as goal

-- what is written, and the listings that are left
abbrev pub invariant-loop-section : goal.invariant-loop-section
invariant-loop-section l =
    string_bytes l.text ++ listing_of (map section_view (drop l.section-index l.sections))
    ≡ listing_of (map section_view l.sections)
