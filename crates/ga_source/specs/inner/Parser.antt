-- The parser's state, as its machine has it.
use Rattle.std.specs.Prelude.{◌≡◌, ◌≢◌, ℕ, List, map, Result, Ok, Err}
use Rattle.std.specs.Map.{keys_of}
use Rattle.ga_pack.specs.declared.error_kind.SourceErrorKind.{SourceErrorKind}
use Rattle.ga_source.specs.declared.parser.Parser as written
use Rattle.ga_source.specs.declared.parser.Part as standing
use Rattle.ga_source.specs.declared.parser.Part.TheVariants as part
use Rattle.ga_source.specs.declared.parser.Position.{Position}
use Rattle.ga_source.specs.declared.parser.Position.TheVariants as position
use Rattle.ga_pack.specs.declared.error_kind.SourceErrorKind.TheVariants.{Memory}
use Rattle.ga_source.specs.Item.{item_of, value_of}
use Rattle.ga_source.specs.Section.{section_of}
use Rattle.ga_source.specs.inner.Machine.{Inside, State, nothing, naming, inside, between, behind_op, behind_comma, in_word, behind_dest_op, behind_dest, behind_slash, behind_spare, take}
use Rattle.ga_pack.specs.Model.Token.{Token}
use Rattle.ga_pack.specs.Model.Source.{Section, Part, Code, Behind}

abbrev pub section_part : standing.Part → Part
section_part (part.Code owed) = Code owed
section_part part.Data = Behind

abbrev pub done_of : written.Parser → List Section
done_of p = map section_of p.sections.entries

abbrev pub names_of : written.Parser → List ℕ
names_of p = keys_of p.sections.entries

abbrev pub labels_of : written.Parser → List (List ℕ)
labels_of p = map (λ name. name.bytes) p.labels.keys

abbrev pub inside_of : written.Parser → Inside
inside_of p = record {
  done = done_of p;
  seen = names_of p;
  name = p.node;
  items = map item_of p.items.items;
  before = record { part = section_part p.part; labels = labels_of p; has_word = p.has_word };
}

abbrev pub at_position : Position → written.Parser → State
at_position position.Nothing p = nothing
at_position position.Naming p = naming (done_of p) (names_of p)
at_position position.Between p = inside (inside_of p) between
at_position (position.BehindOp o) p = inside (inside_of p) (behind_op o)
at_position position.BehindComma p = inside (inside_of p) behind_comma
at_position position.InWord p = inside (inside_of p) (in_word p.ops.items)
at_position (position.BehindDestOp o) p = inside (inside_of p) (behind_dest_op p.ops.items o)
at_position (position.BehindDest o v) p =
    inside (inside_of p) (behind_dest p.ops.items o (value_of v))
at_position (position.BehindSlash o v) p =
    inside (inside_of p) (behind_slash p.ops.items o (value_of v))
at_position (position.BehindSpare o v k) p =
    inside (inside_of p) (behind_spare p.ops.items o (value_of v) k)

abbrev pub state_of : written.Parser → State
state_of p = at_position p.position p

-- the answer of the parser's machine, unless memory was refused
abbrev pub IsAnswer : {A : Type 0} → Result State SourceErrorKind → Result A SourceErrorKind → State
    → Type 0
IsAnswer r (Ok x) s' = r ≡ Ok s'
IsAnswer r (Err kind) s' = kind ≢ Memory → r ≡ Err kind

-- the answer of the parser's machine to a token, unless memory was refused
abbrev pub Took : {A : Type 0} → State → Token → Result A SourceErrorKind → State → Type 0
Took s t r s' = IsAnswer (take s t) r s'
