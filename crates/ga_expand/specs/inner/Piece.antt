-- Tokens and what they expand to, as the code has them.
use Rattle.std.specs.Prelude.{ℕ, List, Result, Ok, Err, slice_range}
use Rattle.ga_source.specs.Token.{place_of}
use Rattle.ga_source.specs.declared.token.Place as here
use Rattle.ga_source.specs.declared.token.Token.{Token}
use Rattle.ga_expand.specs.declared.error.ExpandErrorKind.{ExpandErrorKind}
use Rattle.ga_expand.specs.declared.piece.Piece as written
use Rattle.ga_expand.specs.declared.spelling.Spelling.{Spelling}
use Rattle.ga_expand.specs.declared.spelling.Spelling.TheVariants as spelling
use Rattle.ga_expand.specs.Expanding.{Piece, number_text}

abbrev pub text_of : Spelling → List ℕ
text_of (spelling.Same text) = text.now
text_of (spelling.Number n) = number_text n

abbrev pub word_in : Result Spelling ExpandErrorKind → Result (List ℕ) ExpandErrorKind
word_in (Ok spelling) = Ok (text_of spelling)
word_in (Err kind) = Err kind

abbrev pub piece_of : Spelling → here.Place → Piece
piece_of spelling place = record { text = text_of spelling; place = place_of place }

abbrev pub piece_here : List ℕ → here.Place → Piece
piece_here text place = record { text = text; place = place_of place }

-- a token of a text
abbrev pub token_piece : List ℕ → Token → Piece
token_piece text token = record {
  text = slice_range text token.start token.end;
  place = record { line = token.line; column = token.column };
}

abbrev pub piece_in : written.Piece → Piece
piece_in piece = record { text = piece.text.now; place = place_of piece.place }
