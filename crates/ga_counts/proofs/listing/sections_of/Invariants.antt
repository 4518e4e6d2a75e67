use Rattle.std.proofs.Common.{◌≡◌, ◌++◌, drop, map}
use Rattle.ga_counts.specs.Listing.{section_view, sections_from}
use Rattle.ga_counts.proofs.listing.sections_of.Given as goal

-- what is done, and the listings of the images that are left
abbrev pub invariant-loop-section : goal.invariant-loop-section
invariant-loop-section l =
    map section_view l.sections.items
    ++ sections_from l.counts.words.items l.before l.program l.images.entries l.section
    (drop l.section l.images.entries)
    ≡ sections_from l.counts.words.items l.before l.program l.images.entries 0 l.images.entries
