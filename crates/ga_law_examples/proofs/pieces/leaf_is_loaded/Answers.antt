use Rattle.std.proofs.Common.{◌≡◌, ◌≤◌, ◌<◌, ◌+◌, ◌∙◌, ◌++◌, None, Some, length, ap, ap₂, subst}
use Rattle.std.proofs.Common.{arith, rules}
use Rattle.std.proofs.lemmas.Grind.{common_steps}
use Rattle.ga_place.specs.declared.side.Side.TheVariants.{Left}
use Rattle.ga_asm.specs.Image.{image_of}
use Rattle.ga_path.specs.Stream.{tree_load, tree_start, unreached}
use Rattle.ga_path.specs.Tree.{IsSound}
use Rattle.ga_chip.specs.Ledger.{ledger_of}
use Rattle.ga_chip.specs.Stream.{left_of}
use Rattle.ga_law_examples.specs.Pieces.{IsFed}
use Rattle.ga_law_examples.proofs.Leaf.{leaf_holds}
use Rattle.ga_law_examples.proofs.pieces.leaf_is_loaded.Goals as goal

pub returns : goal.returns
returns g c =
    let text = c.args.text.now in
    let images = c.in-Ok.images in
    let image = c.in_ok-image.image.now in
    let chip = c.in_ok-chip.chip in
    let root = c.in_ok-root.root in
    let middle = c.in_ok-middle.middle in
    let leaf = c.in_ok-new.field-0 in
    let starts = c.in-Ok-boot_tree.boot.start.items in
    let is_root : root ≡ 708 = search rules in
    let is_middle : middle ≡ 709 = search rules in
    let is_leaf : leaf ≡ 710 = search rules in
    let at : image_of images leaf ≡ Some image = search rules in
    let left : left_of chip root ≤ length starts = grind (arith, common_steps) in
    let sent = length image.words + 8 in
    let read : (ledger_of chip middle Left).read < sent = grind (arith, common_steps) in
    let tree = c.in_ok-far_fork.ensures.tree in
    let boot = c.in-Ok-boot_tree.ensures in
    let load = boot.load ∙ ap (tree_load images) tree in
    let start = boot.start ∙ ap (tree_start images) tree in
    let image_is = subst (λ name. image_of images name ≡ Some image) is_leaf at in
    let few = subst (λ name. (ledger_of chip name Left).read < sent) is_middle read in
    record {
      memory = record {
        images = images;
        images_are = c.in-Ok.ensures.images;
        image = image;
        image_is = image_is;
        memory = leaf_holds text images chip image
            c.headline.ensures.boot c.ledgers.ensures.grow c.ledgers.ensures.streams
            c.in-Ok.ensures.images (subst IsSound tree c.in_ok-far_fork.ensures.sound)
            (subst (λ t. unreached images t.nodes ≡ None) tree boot.reached) image_is
            (subst (IsFed chip 708) (ap₂ (λ a b. a ++ b) load start) c.in_ok-chip.ensures)
            c.legal.ensures
            (subst (λ words. left_of chip 708 ≤ length words) start
            (subst (λ name. left_of chip name ≤ length starts) is_root left))
            few;
      };
    }
