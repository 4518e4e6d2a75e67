-- The head of a replay text: all that comes before its commands.
use Rattle.std.specs.Prelude.{ℕ, ◌+◌, List, [], ◌∷◌, ◌++◌, codes, Option, Some, None, option_map, Result, Ok, Err, if◌then◌else◌}
use Rattle.std.specs.Str.{bytes_eq}
use Rattle.ga_pack.specs.Model.Text.{lines_of}
use Rattle.ga_path.specs.Names.{routes_in}
use Rattle.ga_debug.specs.declared.replay_error.ReplayError.{ReplayError}
use Rattle.ga_debug.specs.declared.replay_error.ReplayError.TheVariants.{BadProfile, BadRoute, NoGo}
use Rattle.ga_debug.specs.declared.profile.Profile.{Profile}
use Rattle.ga_debug.specs.Command.{words_of}
use Rattle.ga_debug.specs.Profile.{profile_line}

-- how the chip is loaded: None if each image is placed, or the nodes of each route along which a
-- stream goes
abbrev pub Loading : Type 0
Loading = Option (List (List ℕ))

-- `place` alone, or `route` and routes with `/` between them, of each the names of its nodes with
-- commas between them
abbrev pub loading_by : List (List ℕ) → Option Loading
loading_by (word ∷ []) = if bytes_eq word (codes "place") then Some None else None
loading_by (word ∷ names ∷ []) =
    if bytes_eq word (codes "route") then option_map Some (routes_in names) else None
loading_by words = None

pub record Head : Type 0 where
  pub loading : Loading
  -- the source lines, each ended by LF
  pub source : List ℕ
  -- the number of the line `go`, counted from 1, and the lines behind it
  pub line : ℕ
  pub commands : List (List ℕ)

-- a source line in front of others
abbrev pub with_line : List ℕ → Result Head ReplayError → Result Head ReplayError
with_line line (Ok head) = Ok (record head { source = line ++ 10 ∷ head.source })
with_line line (Err fault) = Err fault

-- the source lines up to `go`, of which the first has a number
abbrev pub up_to_go : Loading → ℕ → List (List ℕ) → Result Head ReplayError
up_to_go loading number [] = Err NoGo
up_to_go loading number (line ∷ lines) =
    if bytes_eq line (codes "go")
    then Ok (record { loading = loading; source = []; line = number; commands = lines })
    else with_line line (up_to_go loading (number + 1) lines)

abbrev pub loaded_by : Option Loading → List (List ℕ) → Result Head ReplayError
loaded_by None lines = Err BadRoute
loaded_by (Some loading) lines = up_to_go loading 3 lines

abbrev pub behind_profile : List (List ℕ) → Result Head ReplayError
behind_profile [] = Err BadRoute
behind_profile (line ∷ lines) = loaded_by (loading_by (words_of line)) lines

abbrev pub head_by : Profile → List (List ℕ) → Result Head ReplayError
head_by profile [] = Err BadProfile
head_by profile (line ∷ lines) =
    if bytes_eq line (profile_line profile) then behind_profile lines else Err BadProfile

-- The head of a text of a profile, or its first fault: the line of the profile, how the chip is
-- loaded, source lines, and `go`.
unfoldable pub head_in : Profile → List ℕ → Result Head ReplayError
head_in profile text = head_by profile (lines_of text)
