-- Tokens that are read one by one, as the code has them.
use Rattle.std.specs.Prelude.{◌++◌, List, map}
use Rattle.ga_expand.specs.declared.pieces.Pieces.{Pieces}
use Rattle.ga_expand.specs.Expanding.{Piece}
use Rattle.ga_expand.specs.inner.Piece.{piece_in, token_piece}

abbrev pub left_in : Pieces → List Piece
left_in pieces =
    map (token_piece pieces.source.now) pieces.tokens.now ++ map piece_in pieces.first.now
    ++ map piece_in pieces.second.now
