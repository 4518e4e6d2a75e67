-- What `booted_tree` gives the root of a tree.
use Rattle.std.proofs.Common.{◌≡◌, ◌∙◌, ◌++◌, inl, ℕ, true, false, List, [], Some, None, ap, append-nil, subst, sym}
use Rattle.std.specs.Prelude.{if◌then◌else◌}
use Rattle.std.specs.Option.{option_and_then}
use Rattle.ga_place.specs.Node.{IsNodeName, is_edge}
use Rattle.ga_path.specs.Stream.{Images, tree_load, tree_start}
use Rattle.ga_path.specs.Tree.{IsSound, TreeView}
use Rattle.ga_chip.specs.Chip.{part_refusal, refusal, reset_chip, stream_refusal, streamed, unless_refused}
use Rattle.ga_chip.specs.declared.error.ChipError.TheVariants as chip_error
use Rattle.ga_chip.specs.Legal.{DifferInBreaks}
use Rattle.ga_chip.specs.Run.{Event}
use Rattle.ga_chip.proofs.Differing.{differ_not}
use Rattle.ga_boot.specs.Boot.{IsSupplied}
use Rattle.ga_boot.proofs.Given.{was}
use Rattle.ga_debug.specs.Beginning.{booted_tree}

-- a node of a chip after reset is given a stream if it is at an edge
unrefused : (root : ℕ) → IsNodeName root → is_edge root ≡ true
    → stream_refusal reset_chip root ≡ None
unrefused root named edge =
    ap (λ b. if b then refusal reset_chip root else Some chip_error.NotEdge) edge
    ∙ ap (option_and_then part_refusal) (was root None false named)

-- a chip that boots a tree is one after reset whose root was given both parts of the tree's stream
pub booted_is_supplied : (images : Images) (tree : TreeView) (events : List Event)
    → IsNodeName tree.root → IsSound tree → IsSupplied (booted_tree images tree) tree.root
    (tree_load images tree ++ tree_start images tree) events
booted_is_supplied images tree events named sound =
    let words = tree_load images tree ++ tree_start images tree in
    let given = streamed reset_chip tree.root words in
    let is : booted_tree images tree ≡ given =
    ap (λ r. unless_refused r given reset_chip) (unrefused tree.root named sound.edge) in
    inl (
      words,
      subst (λ chip. DifferInBreaks chip given) (sym is) (differ_not given),
      ([], sym (append-nil words)),
    )
