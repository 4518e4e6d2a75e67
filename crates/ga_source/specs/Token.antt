-- Tokens and places, as the model has them.
use Rattle.std.specs.Prelude.{◌+◌, length}
use Rattle.ga_pack.specs.Model.Text.{Lexeme, Place}
use Rattle.ga_source.specs.declared.token.Token as written
use Rattle.ga_source.specs.declared.token.Place as here

-- a token of a text ends behind its bytes
abbrev pub token_of : Lexeme → written.Token
token_of lexeme = record {
  start = lexeme.start;
  end = lexeme.start + length lexeme.text;
  line = lexeme.place.line;
  column = lexeme.place.column;
}

abbrev pub place_of : here.Place → Place
place_of place = record { line = place.line; column = place.column }
