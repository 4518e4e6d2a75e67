use Rattle.std.proofs.Common.{◌≡◌, ◌==◌, ◌++◌, drop, length, option_map}
use Rattle.std.specs.List.{slice_split}
use Rattle.ga_path.specs.Names.{all_nodes_in, lists_in, routes_in}
use Rattle.ga_path.proofs.names.read_routes.Given as goal

-- the routes are those so far, and those that the texts that are left name
abbrev pub invariant-loop-route : goal.invariant-loop-route
invariant-loop-route l =
    routes_in l.text ≡ option_map (λ more. lists_in l.routes.items ++ more)
    (all_nodes_in (drop (length l.yielded) (slice_split (λ c. c == 47) l.text)))
