-- Sections and lists of nodes, as the code has them.
use Rattle.std.specs.Prelude.{◌≡◌, ◌≢◌, List, map, Result, Ok, Err}
use Rattle.ga_expand.specs.declared.error.ExpandError.{ExpandError}
use Rattle.ga_expand.specs.declared.error.ExpandErrorKind.TheVariants.{Memory}
use Rattle.ga_expand.specs.declared.node_lists.Section as here
use Rattle.ga_expand.specs.declared.node_lists.Section.TheVariants as at
use Rattle.ga_expand.specs.declared.node_lists.Spreader.{Spreader}
use Rattle.ga_expand.specs.declared.piece.Piece as piece
use Rattle.ga_expand.specs.Error.{Fault, fault_of}
use Rattle.ga_expand.specs.NodeLists.{InList, NoList, NodeNext, Section, Spreading}
use Rattle.ga_expand.specs.inner.Piece.{piece_in}

-- the section that the next token belongs to, by its tokens so far if it has a list
abbrev pub section_in : List piece.Piece → here.Section → Section
section_in tokens at.NoList = NoList
section_in tokens (at.NodeNext node) = NodeNext (piece_in node)
section_in tokens (at.InList node list) =
    InList (piece_in node) (piece_in list) (map piece_in tokens)

abbrev pub spreading_of : Spreader → Spreading
spreading_of spreader = record {
  done = map piece_in spreader.done.items;
  left = spreader.left;
  section = section_in spreader.tokens.items spreader.section;
}

-- a token is taken, unless memory was refused
abbrev pub Spread : {A : Type 0} → Spreader → Result Spreading Fault → Result A ExpandError
    → Type 0
Spread after answer (Ok done) = answer ≡ Ok (spreading_of after)
Spread after answer (Err error) = error.kind ≢ Memory → answer ≡ Err (fault_of error)
