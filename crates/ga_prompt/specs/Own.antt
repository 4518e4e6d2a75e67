-- The commands that only the prompt has.
use Rattle.std.specs.Prelude.{ℕ, List, [], ◌∷◌, Option, codes}
use Rattle.std.specs.List.{find}
use Rattle.std.specs.Str.{bytes_eq}
use Rattle.ga_prompt.specs.declared.own.Own.{Own}
use Rattle.ga_prompt.specs.declared.own.Own.TheVariants.{Help, Back, Save, Replace, Quit}

abbrev pub own_name : Own → List ℕ
own_name Help = codes "help"
own_name Back = codes "back"
own_name Save = codes "save"
own_name Replace = codes "save!"
own_name Quit = codes "quit"

abbrev pub all_own : List Own
all_own = Help ∷ Back ∷ Save ∷ Replace ∷ Quit ∷ []

-- the one with a name
abbrev pub own_named : List ℕ → Option Own
own_named word = find (λ own. bytes_eq (own_name own) word) all_own
