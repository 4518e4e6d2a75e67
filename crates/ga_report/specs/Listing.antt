-- The listing, node by node.
use Rattle.std.specs.Prelude.{ℕ, Option, Some, None, List, [], ◌∷◌, ◌++◌, codes}
use Rattle.std.specs.List.{concat, flat_map}
use Rattle.ga_place.specs.Node.{node_text}
use Rattle.ga_counts.specs.Listing.{SectionView}
use Rattle.ga_report.specs.Escape.{escaped}

-- the begin of a node's listing: it is folded if a node in front of it has the same program
abbrev pub begin_text : Option ℕ → List ℕ
begin_text (Some name) = codes "<details><summary>"
begin_text None = codes "<details open=''><summary>"

abbrev pub same_text : Option ℕ → List ℕ
same_text (Some name) = codes "(the same program as " ++ node_text name ++ codes ")"
same_text None = []

-- the listing of a node: its first line, and below it the others
unfoldable pub section_part : SectionView → List ℕ
section_part section =
    concat (begin_text section.same_as ∷ escaped section.line ∷ same_text section.same_as
    ∷ codes "</summary>\n<pre tabindex='0'>" ∷ escaped section.rows ∷ codes "</pre></details>\n"
    ∷ [])

-- the listings of all nodes
unfoldable pub listing_part : List SectionView → List ℕ
listing_part sections = codes "<h2>Listing</h2>\n" ++ flat_map section_part sections
