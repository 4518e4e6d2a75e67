-- The tree of the routes that a text names.
use Rattle.std.specs.Prelude.{ℕ, List, Result, Err}
use Rattle.std.specs.Option.{option_map_or}
use Rattle.std.specs.Result.{result_map_both}
use Rattle.ga_path.specs.Names.{routes_in}
use Rattle.ga_path.specs.Route.{routes_fault}
use Rattle.ga_path.specs.Tree.{TreeView, tree_of}
use Rattle.ga_input.specs.declared.fault.ServeError.{ServeError}
use Rattle.ga_input.specs.declared.fault.ServeError.TheVariants.{Route}
use Rattle.ga_input.specs.declared.fault.RouteFault.TheVariants.{BadRoute}
use Rattle.ga_input.specs.Fault.{fault_of_route, fault_of_tree}

-- The tree of the routes that a text names. Else the first fault: it isn't routes with `/` between
-- them, each the names of its nodes with commas between them; or the nodes of one are no route, or
-- the routes are no tree.
abbrev pub tree_in : List ℕ → Result TreeView ServeError
tree_in text =
    option_map_or (λ lists. option_map_or (λ fault. Err (fault_of_route fault)) (routes_fault lists)
    (result_map_both (λ tree. tree) fault_of_tree (tree_of lists)))
    (routes_in text) (Err (Route BadRoute))
