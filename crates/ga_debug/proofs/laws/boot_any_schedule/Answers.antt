use Rattle.ga_boot.proofs.Agreeing.{tree_boots_agree}
use Rattle.ga_boot.proofs.Boot.{tree_boots}
use Rattle.ga_boot.proofs.Routes.{routes_are_tree}
use Rattle.ga_debug.proofs.Supplied.{booted_is_supplied}
use Rattle.ga_debug.proofs.laws.boot_any_schedule.Goals as goal

pub returns-clause-trees : goal.returns-clause-trees
returns-clause-trees c = tree_boots

pub returns-clause-agree : goal.returns-clause-agree
returns-clause-agree c = tree_boots_agree

pub returns-clause-routes : goal.returns-clause-routes
returns-clause-routes c = routes_are_tree

pub returns-clause-supplied : goal.returns-clause-supplied
returns-clause-supplied c = booted_is_supplied
