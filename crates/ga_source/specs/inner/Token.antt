-- What an iterator over a text has left.
use Rattle.std.specs.Prelude.{ℕ, List}
use Rattle.ga_pack.specs.Model.Text.{texts_of}
use Rattle.ga_source.specs.declared.token.Texts.{Texts}

-- the texts that an iterator has left
abbrev pub texts_left : Texts → List (List ℕ)
texts_left texts = texts_of texts.rest.now
