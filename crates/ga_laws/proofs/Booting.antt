-- A node with an image is in the tree, and holds its image.
use Rattle.std.proofs.Common.{◌++◌, ◌≡◌, ◌∙◌, ◌==◌, ℕ, Bool, true, false, List, [], ◌∷◌, Option, Some, None, not, refl, sym, ap, subst}
use Rattle.std.specs.Prelude.{if◌then◌else◌}
use Rattle.std.specs.List.{find}
use Rattle.std.specs.Map.{lookup}
use Rattle.std.specs.Option.{option_map}
use Rattle.std.proofs.lemmas.Bool.{eqb-true}
use Rattle.std.proofs.lemmas.List.Elements.{All-from_recursion}
use Rattle.std.proofs.lemmas.Option.{none-some}
use Rattle.ga_asm.specs.Image.{ImageView, IsLoadable}
use Rattle.ga_asm.proofs.Room.{images_loadable}
use Rattle.ga_path.specs.Stream.{Images, grove, image_of, tree_load, tree_start, unreached}
use Rattle.ga_path.specs.Sequences.{Grove}
use Rattle.ga_place.specs.Node.{is_among}
use Rattle.ga_chip.specs.Chip.{part_of}
use Rattle.ga_chip.specs.Run.{ran}
use Rattle.ga_boot.specs.Boot.{Holds, IsSupplied, stream_words}
use Rattle.ga_boot.specs.Laws.{Boots}
use Rattle.ga_boot.specs.Tree.{IsTree, Place, found, places}
use Rattle.ga_boot.proofs.Boot.{tree_boots}
use Rattle.ga_boot.proofs.Places.{found_there}
use Rattle.ga_boot.proofs.Routes.{image_is, routes_are_tree, stands_there}
use Rattle.ga_laws.specs.Laws.{BootsHold, begun_by}

-- if no image is unreached, a node that has one is in the tree
among_nodes : (images : Images) (nodes : List ℕ) (name : ℕ) (image : ImageView)
    → unreached images nodes ≡ None → image_of images name ≡ Some image → is_among name nodes ≡ true
among_nodes [] nodes name image e f = absurd (none-some image f)
among_nodes (entry ∷ images) nodes name image e f =
    by (is_among entry.0 nodes) refl e (name == entry.0) refl f
    (among_nodes images nodes name image)
  where
    by : (among : Bool) → is_among entry.0 nodes ≡ among → option_map (λ (x : ℕ × ImageView). x.0)
        (if not among then Some entry else find (λ x. not (is_among x.0 nodes)) images) ≡ None
        → (same : Bool) → (name == entry.0) ≡ same
        → (if same then Some entry.1 else lookup (λ other. name == other) images) ≡ Some image
        → (unreached images nodes ≡ None → image_of images name ≡ Some image
        → is_among name nodes ≡ true) → is_among name nodes ≡ true
    by false g e same h f rest = absurd (none-some entry.0 (sym e))
    by true g e true h f rest = ap (λ n. is_among n nodes) (eqb-true name entry.0 h) ∙ g
    by true g e false h f rest = rest e f

pub boots_hold : BootsHold
boots_hold text images tree chip events of_text named sound reached supply name image now has there
    taken not_begun =
    by (found name (places tree.root trees)) refl not_begun
  where
    trees : Grove
    trees = grove images tree.root tree.subtrees

    is_tree : IsTree tree.root (image_of images tree.root) trees × (stream_words tree.root
        (image_of images tree.root) trees ≡ tree_load images tree ++ tree_start images tree)
    is_tree =
        routes_are_tree images tree named sound (All-from_recursion (λ entry. IsLoadable entry.1)
        images (images_loadable text images of_text))

    boots : Boots chip tree.root (image_of images tree.root) trees events
    boots =
        tree_boots chip tree.root (image_of images tree.root) trees events is_tree.0
        (subst (λ words. IsSupplied chip tree.root words events) (sym is_tree.1) supply)

    by : (o : Option Place) → found name (places tree.root trees) ≡ o
        → (begun_by o chip images tree events → ⊥) → Holds now.state (Some image)
    by (Some p) e not_begun =
        let at = found_there (places tree.root trees) name p e in
        let same : p.image ≡ Some image =
        image_is images tree.root tree.subtrees p at.0 ∙ ap (image_of images) at.1 ∙ has in
        subst (Holds now.state) same
        (boots.holds p now at.0 (ap (part_of (ran chip events)) at.1 ∙ there) taken not_begun)
    by None e not_begun =
        let is_root : name ≡ tree.root = stands_there images tree name sound
        (among_nodes images tree.nodes name image reached has) e in
        subst (Holds now.state) (ap (image_of images) (sym is_root) ∙ has) (boots.root_holds now
        (ap (part_of (ran chip events)) (sym is_root) ∙ there) taken not_begun)
