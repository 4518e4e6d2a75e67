use Rattle.std.proofs.Common.{◌≡◌, ◌++◌, drop, string_bytes}
use Rattle.ga_list.specs.Listing.{listing_from}
use Rattle.ga_list.proofs.listing.listing_of.Given as goal

-- what is written, and the listing of the images that are left
abbrev pub invariant-loop-section : goal.invariant-loop-section
invariant-loop-section g l =
    string_bytes l.text ++ listing_from (g.N.LineNames.names l.names) l.program l.section
    (drop l.section l.images.entries)
    ≡ listing_from (g.N.LineNames.names l.names) l.program 0 l.images.entries
