-- The head of a replay text as the code keeps it.
use Rattle.std.specs.Prelude.{ℕ, List, String, option_map}
use Rattle.std.specs.String.{string_bytes}
use Rattle.ga_path.specs.Names.{lists_in}
use Rattle.ga_debug.specs.declared.head.Head as code
use Rattle.ga_debug.specs.Head.{Head, Loading}

abbrev pub head_view : code.Head → Head
head_view head = record {
  loading = option_map (λ routes. lists_in routes.items) head.routes;
  source = string_bytes head.source;
  line = head.line;
  commands = head.lines;
}

-- source lines with the number of the line behind them, as part of a head
abbrev pub head_with : {A : Type 0} → Loading → String A × ℕ → List (List ℕ) → Head
head_with loading found commands =
    record { loading = loading; source = string_bytes found.0; line = found.1; commands = commands }
