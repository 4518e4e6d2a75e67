-- The sections of a text, and the parts of the text that have one of them.
use Rattle.std.specs.Prelude.{◌==◌, ◌&&◌, ◌||◌, ◌+◌, ◌-◌, ℕ, Bool, false, true, List, [], ◌∷◌, ◌++◌, codes, filter, map, nat_le, nat_lt, slice_get, take, unwrap_or, Option, Some, None, if◌then◌else◌}
use Rattle.std.specs.List.{find, join_with_byte, list_any}
use Rattle.std.specs.Option.{option_or}
use Rattle.std.specs.Str.{bytes_eq}
use Rattle.ga_pack.specs.Model.Text.{lines_of}
use Rattle.ga_place.specs.Node.{node_named}
use Rattle.ga_expand.specs.Expanding.{Piece, pieces_of}
use Rattle.ga_expand.specs.NodeLists.{names_in}
use Rattle.ga_faults.specs.declared.reading.Reading.{Reading}
use Rattle.ga_faults.specs.declared.reading.Reading.TheVariants.{Body, ConstantName, ConstantValue, Definition, Rest}
use Rattle.ga_faults.specs.declared.sections.Section.{Section}

-- ---- the definitions that a text begins with

abbrev pub behind_definition : List ℕ → Reading
behind_definition text =
    if bytes_eq text (codes "const") then ConstantName
    else if bytes_eq text (codes "body") then Body else Rest

-- What the token behind one is for. A constant is three tokens, and a body ends at the first `end`.
abbrev pub behind : Reading → List ℕ → Reading
behind Definition text = behind_definition text
behind ConstantName text = ConstantValue
behind ConstantValue text = Definition
behind Body text = if bytes_eq text (codes "end") then Definition else Body
behind Rest text = Rest

-- ---- sections

-- A token on a line begins a section if it is `node`, stands behind the definitions, and is the
-- first one of its line: the token before it is on another one.
abbrev pub begins_section : Reading → ℕ → List ℕ → ℕ → Bool
begins_section Rest before text line = bytes_eq text (codes "node") && nat_lt before line
begins_section reading before text line = false

abbrev pub if_begun : Bool → ℕ → List ℕ
if_begun begun line = if begun then line ∷ [] else []

-- The lines at which sections begin, in the tokens that are left. The first of these is for this,
-- and the token before it is on a line.
unfoldable pub starts_from : Reading → ℕ → List Piece → List ℕ
starts_from reading before [] = []
starts_from reading before (token ∷ tokens) =
    let line = token.place.line in
    if_begun (begins_section (behind reading token.text) before token.text line) line
    ++ starts_from (behind reading token.text) line tokens

-- the lines at which the sections of a text begin
abbrev pub section_starts : List ℕ → List ℕ
section_starts text = starts_from Definition 0 (pieces_of text)

-- the sections that begin at these lines: each reaches up to the next one, and the last to the end
abbrev pub sections_at : List ℕ → List Section
sections_at [] = []
sections_at (first ∷ starts) =
    record { first = first; next = slice_get starts 0 } ∷ sections_at starts

-- whether a line is before the one with which the next section begins
abbrev pub is_before : Option ℕ → ℕ → Bool
is_before None line = true
is_before (Some next) line = nat_lt line next

-- ---- parts

-- the lines before the one at which the next section begins
abbrev pub up_to : {X : Type 0} → Option ℕ → List X → List X
up_to None lines = lines
up_to (Some next) lines = take (next - 1) lines

-- The lines between the head and a section are empty in its part. The head is before the line at
-- which the first section begins.
abbrev pub is_kept : ℕ → ℕ → ℕ → Bool
is_kept head first line = nat_lt line head || nat_le first line

abbrev pub kept_line : ℕ → ℕ → ℕ → List ℕ → List ℕ
kept_line head first line bytes = if is_kept head first line then bytes else []

-- these lines, of which the first has a number, in the part of a section that begins at a line
unfoldable pub kept_lines : ℕ → ℕ → ℕ → List (List ℕ) → List (List ℕ)
kept_lines head first line [] = []
kept_lines head first line (bytes ∷ lines) =
    kept_line head first line bytes ∷ kept_lines head first (line + 1) lines

-- The part of a section: the text up to the section's end, with the lines of the head and of the
-- section. So its tokens have the lines and columns that they have in the whole text.
abbrev pub part_in : List (List ℕ) → ℕ → Section → List ℕ
part_in lines head section =
    join_with_byte 10 (kept_lines head section.first 1 (up_to section.next lines))

-- A chip has 144 nodes, so only the first 144 sections are looked at.
abbrev pub most_sections : ℕ
most_sections = 144

-- the parts of the sections of a text
abbrev pub parts_of : List ℕ → List (List ℕ)
parts_of text =
    let starts = section_starts text in
    map (part_in (lines_of text) (unwrap_or (slice_get starts 0) 0))
    (take most_sections (sections_at starts))

-- whether a section has a line
abbrev pub has_line : ℕ → Section → Bool
has_line line section = nat_le section.first line && is_before section.next line

-- the part of a section, or the text if there is none
abbrev pub part_or_text : List ℕ → ℕ → Option Section → List ℕ
part_or_text text head (Some section) = part_in (lines_of text) head section
part_or_text text head None = text

-- the part of the section of a text that has a line, or the text if none has it
unfoldable pub part_at : List ℕ → ℕ → List ℕ
part_at text line =
    let starts = section_starts text in
    part_or_text text (unwrap_or (slice_get starts 0) 0)
    (find (has_line line) (sections_at starts))

-- ---- the part that has a node

-- the tokens of a text that a section has
abbrev pub tokens_in : List ℕ → Section → List Piece
tokens_in text section =
    filter (λ token. has_line token.place.line section) (pieces_of text)

-- whether there is a node, and it is this one
abbrev pub is_node : ℕ → Option ℕ → Bool
is_node node None = false
is_node node (Some other) = other == node

-- whether a text is the name of a node, of three digits, or has it between commas
abbrev pub has_name : ℕ → List ℕ → Bool
has_name node text = list_any (λ name. is_node node (node_named name)) (names_in text)

-- whether a token, if there is one, has it
abbrev pub is_name : ℕ → Option Piece → Bool
is_name node None = false
is_name node (Some token) = has_name node token.text

-- whether a section names a node: that is behind the `node` with which it begins
abbrev pub names_node : List ℕ → ℕ → Section → Bool
names_node text node section = is_name node (slice_get (tokens_in text section) 1)

-- the one of some sections that has a line, or else the first one that names a node
abbrev pub section_of : List ℕ → ℕ → ℕ → List Section → Option Section
section_of text line node sections =
    option_or (find (has_line line) sections) (find (names_node text node) sections)

-- The part of the section of a text that has a line. A line of a shared body is in no section: then
-- it is the part of the first section that names a node, or the text if none does.
unfoldable pub part_of : List ℕ → ℕ → ℕ → List ℕ
part_of text line node =
    let starts = section_starts text in
    part_or_text text (unwrap_or (slice_get starts 0) 0)
    (section_of text line node (sections_at starts))
