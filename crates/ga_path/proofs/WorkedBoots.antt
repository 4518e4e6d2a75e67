-- Routes, trees and boot streams that were worked out by hand.
use Rattle.std.proofs.Common.{◌≡◌, [], ◌∷◌, Err, None, Ok, Some, length, refl}
use Rattle.std.specs.Prelude.{codes}
use Rattle.ga_word.specs.Op.{op_with}
use Rattle.ga_word.specs.declared.op.Op.TheVariants.{AStore, FetchP, Micronext, Nop, Push, Store, StorePlus}
use Rattle.ga_pack.specs.Decoded.{reading_of}
use Rattle.ga_asm.specs.Image.{ImageView}
use Rattle.ga_path.specs.Names.{nodes_in, routes_in}
use Rattle.ga_path.specs.Route.{route_fault, routes_fault}
use Rattle.ga_path.specs.Sequences.{NOPS, PUSH, SEND, SET_A, STORE, jump_to}
use Rattle.ga_path.specs.Stream.{route_words, tree_load, tree_start, unreached}
use Rattle.ga_path.specs.Tree.{NoMore, Subtree, TreeView, tree_of}
use Rattle.ga_path.specs.declared.error.RouteError.TheVariants.{Empty, NotEdge, NotNeighbour, Repeated}
use Rattle.ga_path.specs.declared.error.TreeError.TheVariants as fault
use Rattle.ga_path.specs.declared.parts.Part.TheVariants.{Load, Start}

routes : (route_fault [] ≡ Some Empty)
    × (route_fault (101 ∷ []) ≡ Some NotEdge)
    × (route_fault (708 ∷ 710 ∷ []) ≡ Some (NotNeighbour 1))
    × (route_fault (708 ∷ 709 ∷ 708 ∷ []) ≡ Some (Repeated 2))
    × (route_fault (708 ∷ 709 ∷ 710 ∷ []) ≡ None)
routes = (refl, refl, refl, refl, refl)

-- a text of names, and others that are none
names : (nodes_in (codes "708,000") ≡ Some (708 ∷ 0 ∷ []))
    × (nodes_in (codes "708,") ≡ None)
    × (nodes_in (codes "718") ≡ None)
names = (refl, refl, refl)

-- the routes of a text, and others that are none
route_names :
    (routes_in (codes "708,709/708,608") ≡ Some ((708 ∷ 709 ∷ []) ∷ (708 ∷ 608 ∷ []) ∷ []))
    × (routes_in (codes "708") ≡ Some ((708 ∷ []) ∷ [])) × (routes_in (codes "708//709") ≡ None)
    × (routes_in (codes "708/") ≡ None) × (routes_in (codes "") ≡ None)
route_names = (refl, refl, refl, refl, refl)

-- of several routes the first fault is reported, with the node's index in its own route
several : routes_fault ((708 ∷ 709 ∷ []) ∷ (708 ∷ 608 ∷ 610 ∷ []) ∷ (101 ∷ []) ∷ [])
    ≡ Some (NotNeighbour 2)
several = refl

-- the words of the sequences, as opcodes
sequences : ((reading_of SET_A).ops ≡ FetchP ∷ AStore ∷ FetchP ∷ Nop ∷ [])
    × ((reading_of PUSH).ops ≡ Push ∷ Nop ∷ Nop ∷ Nop ∷ [])
    × ((reading_of SEND).ops ≡ FetchP ∷ Store ∷ Micronext ∷ Nop ∷ [])
    × ((reading_of STORE).ops ≡ FetchP ∷ StorePlus ∷ Micronext ∷ Nop ∷ [])
    × ((reading_of NOPS).ops ≡ Nop ∷ Nop ∷ Nop ∷ Nop ∷ [])
    × ((reading_of (jump_to 0x1D5)).dest ≡ Some 0x1D5)
unfolding reading_of op_with
sequences = (refl, refl, refl, refl, refl, refl)

-- an image of one word
one_word : ImageView
one_word =
    record { words = 0x2C9B2 ∷ []; code_len = 1; entry = 0; labels = []; item_counts = 1 ∷ [] }

boot_one_neighbour : (route_words Load ((709, one_word) ∷ []) (708 ∷ 709 ∷ []) ≡ 0x000AE ∷ 0x001D5
    ∷ 0x00008 ∷ 0x101D5 ∷ 0x04A12 ∷ 0x00000 ∷ 0x00000 ∷ 0x2E9B2 ∷ 0x05872 ∷ 0x2C9B2 ∷ 0x2C9B2
    ∷ 0x000AE ∷ 0x00000 ∷ 0x00000 ∷ []) × (route_words Start ((709, one_word) ∷ []) (708 ∷ 709 ∷ [])
    ≡ 0x000AE ∷ 0x001D5 ∷ 0x00001 ∷ 0x10000 ∷ 0x001B5 ∷ 0x00000 ∷ 0x00000 ∷ [])
unfolding one_word
boot_one_neighbour = (refl, refl)

boot_two_hops :
    (route_words Load ((710, one_word) ∷ []) (708 ∷ 709 ∷ 710 ∷ []) ≡ 0x000AE ∷ 0x001D5 ∷ 0x0000F
    ∷ 0x101D5 ∷ 0x04A12 ∷ 0x00175 ∷ 0x00007 ∷ 0x2E9B2 ∷ 0x05A72 ∷ 0x10175 ∷ 0x04A12 ∷ 0x00000
    ∷ 0x00000 ∷ 0x2E9B2 ∷ 0x05872 ∷ 0x2C9B2 ∷ 0x2C9B2 ∷ 0x2C9B2 ∷ 0x000AE ∷ 0x00000 ∷ 0x00000 ∷ [])
    × (route_words Start ((710, one_word) ∷ []) (708 ∷ 709 ∷ 710 ∷ []) ≡ 0x000AE ∷ 0x001D5 ∷ 0x00007
    ∷ 0x04A12 ∷ 0x00175 ∷ 0x00000 ∷ 0x2E9B2 ∷ 0x05A72 ∷ 0x10000 ∷ 0x101B5 ∷ 0x001B5 ∷ 0x00000
    ∷ 0x00000 ∷ [])
unfolding one_word
boot_two_hops = (refl, refl)

-- a node that has an image and isn't on the route
not_reached : unreached ((710, one_word) ∷ []) (708 ∷ 709 ∷ []) ≡ Some 710
not_reached = refl

-- two routes that part at their root, and two that part behind it
fork : TreeView
fork = record {
  root = 708;
  subtrees = Subtree 709 NoMore (Subtree 608 NoMore NoMore);
  nodes = 708 ∷ 709 ∷ 608 ∷ [];
}

far_fork : TreeView
far_fork = record {
  root = 708;
  subtrees = Subtree 709 (Subtree 710 NoMore (Subtree 609 NoMore NoMore)) NoMore;
  nodes = 708 ∷ 709 ∷ 710 ∷ 609 ∷ [];
}

-- Nodes are counted as the routes first name them: a route that turns off behind another one comes
-- behind it there.
wide : TreeView
wide = record {
  root = 708;
  subtrees =
      Subtree 709 (Subtree 710 NoMore (Subtree 609 NoMore NoMore)) (Subtree 608 NoMore NoMore);
  nodes = 708 ∷ 709 ∷ 710 ∷ 608 ∷ 609 ∷ [];
}

trees : (tree_of ((708 ∷ 709 ∷ []) ∷ (708 ∷ 608 ∷ []) ∷ []) ≡ Ok fork)
    × (tree_of ((708 ∷ 709 ∷ 710 ∷ []) ∷ (708 ∷ 709 ∷ 609 ∷ []) ∷ []) ≡ Ok far_fork)
    × (tree_of ((708 ∷ 709 ∷ 710 ∷ []) ∷ (708 ∷ 608 ∷ []) ∷ (708 ∷ 709 ∷ 609 ∷ [])
    ∷ (708 ∷ 709 ∷ []) ∷ []) ≡ Ok wide)
    × (tree_of ((708 ∷ 709 ∷ []) ∷ (708 ∷ 709 ∷ []) ∷ []) ≡ tree_of ((708 ∷ 709 ∷ []) ∷ []))
unfolding fork far_fork wide
trees = (refl, refl, refl, refl)

no_trees : (tree_of [] ≡ Err fault.Empty)
    × (tree_of ((708 ∷ 709 ∷ []) ∷ (0 ∷ 1 ∷ []) ∷ []) ≡ Err (fault.OtherRoot 1))
    × (tree_of ((708 ∷ 709 ∷ 609 ∷ []) ∷ (708 ∷ 608 ∷ 609 ∷ []) ∷ []) ≡ Err (fault.Repeated 1))
no_trees = (refl, refl, refl)

boot_fork : (tree_load ((709, one_word) ∷ (608, one_word) ∷ []) fork ≡ 0x000AE ∷ 0x001D5 ∷ 0x00008
    ∷ 0x101D5 ∷ 0x04A12 ∷ 0x00000 ∷ 0x00000 ∷ 0x2E9B2 ∷ 0x05872 ∷ 0x2C9B2 ∷ 0x2C9B2 ∷ 0x000AE
    ∷ 0x00115 ∷ 0x00008 ∷ 0x10115 ∷ 0x04A12 ∷ 0x00000 ∷ 0x00000 ∷ 0x2E9B2 ∷ 0x05872 ∷ 0x2C9B2
    ∷ 0x2C9B2 ∷ 0x000AE ∷ 0x00000 ∷ 0x00000 ∷ [])
    × (tree_start ((709, one_word) ∷ (608, one_word) ∷ []) fork ≡ 0x000AE ∷ 0x001D5 ∷ 0x00001
    ∷ 0x10000 ∷ 0x000AE ∷ 0x00115 ∷ 0x00001 ∷ 0x10000 ∷ 0x001B5 ∷ 0x00000 ∷ 0x00000 ∷ [])
unfolding one_word fork
boot_fork = (refl, refl)

boot_far_fork : (tree_load ((710, one_word) ∷ (609, one_word) ∷ []) far_fork ≡ 0x000AE ∷ 0x001D5
    ∷ 0x0001C ∷ 0x101D5 ∷ 0x04A12 ∷ 0x00175 ∷ 0x00007 ∷ 0x2E9B2 ∷ 0x05A72 ∷ 0x10175 ∷ 0x04A12
    ∷ 0x00000 ∷ 0x00000 ∷ 0x2E9B2 ∷ 0x05872 ∷ 0x2C9B2 ∷ 0x2C9B2 ∷ 0x04A12 ∷ 0x00115 ∷ 0x00007
    ∷ 0x2E9B2 ∷ 0x05A72 ∷ 0x10115 ∷ 0x04A12 ∷ 0x00000 ∷ 0x00000 ∷ 0x2E9B2 ∷ 0x05872 ∷ 0x2C9B2
    ∷ 0x2C9B2 ∷ 0x2C9B2 ∷ 0x000AE ∷ 0x00000 ∷ 0x00000 ∷ [])
    × (tree_start ((710, one_word) ∷ (609, one_word) ∷ []) far_fork ≡ 0x000AE ∷ 0x001D5 ∷ 0x0000D
    ∷ 0x04A12 ∷ 0x00175 ∷ 0x00000 ∷ 0x2E9B2 ∷ 0x05A72 ∷ 0x10000 ∷ 0x04A12 ∷ 0x00115 ∷ 0x00000
    ∷ 0x2E9B2 ∷ 0x05A72 ∷ 0x10000 ∷ 0x101B5 ∷ 0x001B5 ∷ 0x00000 ∷ 0x00000 ∷ [])
    × (length (tree_load ((710, one_word) ∷ (609, one_word) ∷ []) far_fork) ≡ 34)
    × (length (tree_start ((710, one_word) ∷ (609, one_word) ∷ []) far_fork) ≡ 19)
unfolding one_word far_fork
boot_far_fork = (refl, refl, refl, refl)
