-- Sections and parts of texts, each worked out by hand.
use Rattle.std.proofs.Common.{◌≡◌, [], ◌∷◌, Some, None, refl}
use Rattle.std.specs.Prelude.{codes}
use Rattle.ga_pack.specs.Model.Text.{lexemes}
use Rattle.ga_expand.specs.Expanding.{pieces_of}
use Rattle.ga_faults.specs.Sections.{kept_lines, parts_of, section_starts, sections_at, starts_from}

-- a section for each line that begins with `node`
two_sections : section_starts (codes "node 708 5 !b\nnode 709\n  6 !b\n") ≡ 1 ∷ 2 ∷ []
unfolding starts_from pieces_of lexemes
two_sections = refl

-- `node` in a constant or a body begins no section, nor does one behind another token of its line
behind_definitions :
    section_starts (codes "const\nnode 5\nbody SEND\nnode !b\nend node 1\n  node 2 node 3") ≡ 6 ∷ []
unfolding starts_from pieces_of lexemes
behind_definitions = refl

-- behind the first other token there are no definitions
in_the_rest : section_starts (codes "5\nbody\nnode 1\n") ≡ 3 ∷ []
unfolding starts_from pieces_of lexemes
in_the_rest = refl

-- a section reaches up to the next one
up_to_the_next : sections_at (2 ∷ 4 ∷ [])
    ≡ record { first = 2; next = Some 4 } ∷ record { first = 4; next = None } ∷ []
up_to_the_next = refl

-- a part ends with its section, and has empty lines between the head and that
parts_of_two : parts_of (codes "const A 5\nnode 1\n  A\nnode 2\n  !b")
    ≡ codes "const A 5\nnode 1\n  A" ∷ codes "const A 5\n\n\nnode 2\n  !b" ∷ []
unfolding starts_from pieces_of lexemes kept_lines
parts_of_two = refl

-- a text without a section has no parts
no_parts : parts_of (codes "const A 5\n  A\n") ≡ []
unfolding starts_from pieces_of lexemes kept_lines
no_parts = refl
