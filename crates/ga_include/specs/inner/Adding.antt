-- What a step adds to a text.
use Rattle.std.specs.Prelude.{◌≡◌, IfSome, Ok, Err, map}
use Rattle.ga_include.specs.declared.error.IncludeError.{IncludeError}
use Rattle.ga_include.specs.declared.including.Included.{Included}
use Rattle.ga_include.specs.declared.including.Scope as written
use Rattle.ga_include.specs.Error.{trouble_of}
use Rattle.ga_include.specs.File.{file_of}
use Rattle.ga_include.specs.Including.{Items, Scope, whole_of, with_items}

abbrev pub scope_of : written.Scope → Scope
scope_of scope = record { files = map file_of scope.files.now; around = scope.around.now }

-- the items are all behind the text
abbrev pub Adds : Included → Items → Included → Type 0
Adds old items new = with_items (whole_of old) items ≡ Ok (whole_of new)

-- one of the items is in the way
abbrev pub Fails : Included → Items → IncludeError → Type 0
Fails old items error =
    IfSome (trouble_of error) (λ trouble. with_items (whole_of old) items ≡ Err trouble)
