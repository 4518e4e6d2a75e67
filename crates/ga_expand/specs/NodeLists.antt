-- Lists of nodes: which tokens a section with the names of several nodes stands for.
use Rattle.std.specs.Prelude.{◌==◌, ◌+◌, ◌-◌, ◌*◌, ℕ, Bool, not, List, [], ◌∷◌, ◌++◌, length, map, nat_lt, Option, Some, None, Result, Ok, Err, if◌then◌else◌}
use Rattle.std.specs.List.{find, flat_map, list_all, list_any, slice_split}
use Rattle.std.specs.Option.{is_some}
use Rattle.ga_pack.specs.Model.Text.{Place}
use Rattle.ga_pack.specs.Model.Token.{is_node, meaning_of}
use Rattle.ga_place.specs.Node.{node_named}
use Rattle.ga_expand.specs.declared.error.ExpandErrorKind.{ExpandErrorKind}
use Rattle.ga_expand.specs.declared.error.ExpandErrorKind.TheVariants.{BadNode, BadToken, TooLarge}
use Rattle.ga_expand.specs.Bodies.{most_unfolded}
use Rattle.ga_expand.specs.Error.{Fault}
use Rattle.ga_expand.specs.Expanding.{Piece}

-- ---- lists and their copies

-- a token behind `node` with a comma in it
abbrev pub is_list : List ℕ → Bool
is_list text = list_any (λ c. c == 44) text

-- what is between the commas
abbrev pub names_in : List ℕ → List (List ℕ)
names_in text = slice_split (λ c. c == 44) text

abbrev pub are_nodes : List ℕ → Bool
are_nodes text = list_all (λ name. is_some (node_named name)) (names_in text)

abbrev pub name_at : Place → List ℕ → Piece
name_at place name = record { text = name; place = place }

-- the names of a list, each at the place of the list
abbrev pub named_by : Piece → List Piece
named_by list = map (name_at list.place) (names_in list.text)

-- the section of one node: `node`, its name, and the tokens that all nodes of the list have
abbrev pub copy : Piece → List Piece → Piece → List Piece
copy node tokens name = node ∷ name ∷ tokens

abbrev pub copies : Piece → Piece → List Piece → List Piece
copies node list tokens = flat_map (copy node tokens) (named_by list)

-- how many tokens the copies have
abbrev pub copied : Piece → List Piece → ℕ
copied list tokens = length (names_in list.text) * (length tokens + 2)

-- a token that is copied has at most 64 bytes, as one of a body has
abbrev pub is_long : Piece → Bool
is_long piece = nat_lt 64 (length piece.text)

-- ---- sections

-- the section that the next token belongs to
pub data Section : Type 0 where
  -- one without a list, or the front of the text
  NoList : Section
  -- The next token is its name, or its list of names. Its `node` is this.
  NodeNext : Piece → Section
  -- one with a list: its `node`, the list, and its tokens so far
  InList : Piece → Piece → List Piece → Section

-- what the tokens so far say
pub record Spreading : Type 0 where
  -- the tokens in front of the section, and those of the section if it has no list
  pub done : List Piece
  -- how many tokens further copies may have
  pub left : ℕ
  pub section : Section

abbrev pub start_spread : Spreading
start_spread = record { done = []; left = most_unfolded; section = NoList }

abbrev pub refused : ExpandErrorKind → Place → Result Spreading Fault
refused kind place = Err (record { kind = kind; place = place })

abbrev pub with_copies : Spreading → Piece → Piece → List Piece → Spreading
with_copies now node list tokens = record {
  done = now.done ++ copies node list tokens;
  left = now.left - copied list tokens;
  section = NoList;
}

abbrev pub unless_long : Option Piece → Result Spreading Fault → Result Spreading Fault
unless_long (Some piece) next = refused BadToken piece.place
unless_long None next = next

-- the end of a section with a list
abbrev pub list_ended : Spreading → Piece → Piece → List Piece → Result Spreading Fault
list_ended now node list tokens =
    if not (are_nodes list.text) then refused BadNode list.place
    else if nat_lt now.left (copied list tokens) then refused TooLarge list.place
    else unless_long (find is_long tokens) (Ok (with_copies now node list tokens))

abbrev pub in_section : Spreading → Section → Spreading
in_section now section = record now { section = section }

abbrev pub with_piece : Spreading → Piece → Spreading
with_piece now piece = record now { done = now.done ++ piece ∷ [] }

abbrev pub next_section : Piece → Result Spreading Fault → Result Spreading Fault
next_section node (Ok now) = Ok (in_section now (NodeNext node))
next_section node (Err fault) = Err fault

abbrev pub begins_section : List ℕ → Bool
begins_section text = is_node (meaning_of text)

abbrev pub spread_at : Spreading → Piece → Section → Result Spreading Fault
spread_at now piece NoList =
    Ok (if begins_section piece.text then in_section now (NodeNext piece)
    else with_piece now piece)
spread_at now piece (NodeNext node) =
    Ok (if is_list piece.text then in_section now (InList node piece [])
    else in_section (with_piece (with_piece now node) piece) NoList)
spread_at now piece (InList node list tokens) =
    if begins_section piece.text then next_section piece (list_ended now node list tokens)
    else Ok (in_section now (InList node list (tokens ++ piece ∷ [])))

abbrev pub all_of : Result Spreading Fault → Result (List Piece) Fault
all_of (Ok now) = Ok now.done
all_of (Err fault) = Err fault

-- the end of the text
abbrev pub at_end : Spreading → Section → Result Spreading Fault
at_end now NoList = Ok now
at_end now (NodeNext node) = Ok (with_piece now node)
at_end now (InList node list tokens) = list_ended now node list tokens

abbrev pub further_on : Result Spreading Fault → (Spreading → Result (List Piece) Fault)
    → Result (List Piece) Fault
further_on (Ok next) rest = rest next
further_on (Err fault) rest = Err fault

unfoldable pub spread_from : Spreading → List Piece → Result (List Piece) Fault
spread_from now [] = all_of (at_end now now.section)
spread_from now (piece ∷ pieces) =
    further_on (spread_at now piece now.section) (λ next. spread_from next pieces)

-- The tokens that these stand for: a section with a list of nodes is one section for each of them.
-- Or the first error of a list.
abbrev pub spread : Result (List Piece) Fault → Result (List Piece) Fault
spread (Ok pieces) = spread_from start_spread pieces
spread (Err fault) = Err fault
