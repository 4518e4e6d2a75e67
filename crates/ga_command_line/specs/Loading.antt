-- The options for source text.
use Rattle.std.specs.Prelude.{◌≡◌, List, true, false, codes, None, string_bytes}
use Rattle.clap.specs.Words.{Row, first_of}
use Rattle.ga_input.specs.declared.loading.Loading.{Loading}
use Rattle.ga_input.specs.declared.loading.Loading.TheVariants.{Any, Place, Route}
use Rattle.ga_command_line.specs.Flag.{is_set}
use Rattle.ga_command_line.specs.Route.{IsRouteAt}

-- how the arguments say that the input is loaded: source text is placed or booted, not both
abbrev pub IsLoadingAt : List Row → Loading → Type 0
IsLoadingAt rows Any =
    (is_set (codes "PLACE") rows ≡ false) × (first_of (codes "ROUTE") rows ≡ None)
IsLoadingAt rows Place =
    (is_set (codes "PLACE") rows ≡ true) × (first_of (codes "ROUTE") rows ≡ None)
IsLoadingAt rows (Route names) =
    (is_set (codes "PLACE") rows ≡ false) × IsRouteAt rows (string_bytes names)
