-- What 710 has in memory, by how much 708 has left of its stream, and how many words 710 has taken.
use Rattle.std.proofs.Common.{◌≡◌, ◌≤◌, ◌<◌, ◌+◌, ◌∙◌, ◌++◌, inr, ℕ, List, [], Option, Some}
use Rattle.std.proofs.Common.{None, length, length-append, refl, sym, ap, subst, append-nil, arith}
use Rattle.std.specs.Option.{option_map_or}
use Rattle.ga_place.specs.Cell.{all_cells, cell_of}
use Rattle.ga_place.specs.declared.side.Side.TheVariants.{Left}
use Rattle.ga_asm.specs.Image.{ImageView, image_of}
use Rattle.ga_asm.specs.Text.{HasImages}
use Rattle.ga_path.specs.Sequences.{sent}
use Rattle.ga_path.specs.Stream.{Images, tree_load, tree_start, unreached}
use Rattle.ga_path.specs.Tree.{IsSound}
use Rattle.ga_path.specs.declared.parts.Part.TheVariants.{Load, Start}
use Rattle.ga_chip.specs.Chip.{Chip, part_of}
use Rattle.ga_chip.specs.Grow.{Growing, StreamsGo}
use Rattle.ga_chip.specs.Ledger.{ledger_of}
use Rattle.ga_chip.specs.Legal.{IsLegal}
use Rattle.ga_chip.specs.Part.{Part}
use Rattle.ga_chip.specs.Run.{input_words, words_left}
use Rattle.ga_chip.specs.Stream.{left_of}
use Rattle.ga_boot.specs.Boot.{Holds, IsSupplied, words_from}
use Rattle.ga_laws.specs.Laws.{BootsHold, HasBegun}
use Rattle.ga_law_examples.specs.Pieces.{IsFed}
use Rattle.ga_law_examples.specs.inner.FarFork.{far_fork}
use Rattle.ga_law_examples.proofs.Assembled.{first_named}
use Rattle.ga_law_examples.proofs.Fed.{there}

-- 708 has taken the first part of its stream, if no more than the second part is left.
taken : (chip : Chip) (load start : List ℕ) (fed : IsFed chip 708 (load ++ start)) → StreamsGo
    → IsLegal chip → left_of chip 708 ≤ length start
    → length load ≤ length (input_words fed.first fed.events 708)
taken chip load start fed streams legal left =
    let was = there fed.first 708 fed.legal first_named in
    let now = there chip 708 legal first_named in
    let at_end = ap (λ c. part_of c 708) (sym fed.leads) ∙ now.1 in
    let flows = streams fed.first fed.events 708 was.0 now.0 fed.legal was.1 at_end in
    let all = ap (λ l. words_left was.0.stream ++ l) (sym fed.fed) ∙ flows in
    let count = simp length-append at (ap length all) in
    let count_left = λ (p : Part). length (words_left p.stream) in
    let few = subst (λ o. option_map_or count_left o 0 ≤ length start) now.1 left in
    omega (arith, count, few)

-- how many words 710 has taken
few_taken : (chip : Chip) (words : List ℕ) (fed : IsFed chip 708 words) (few : ℕ) → Growing
    → (ledger_of chip 709 Left).read < few → length (words_from fed.first fed.events 710 Left) < few
unfolding cell_of all_cells
few_taken chip words fed few growing read =
    let more = (growing fed.first fed.events fed.legal).read 709 _ Left refl in
    let less = subst (λ c. (ledger_of c 709 Left).read < few) fed.leads read in
    omega (arith, more, less)

-- how many it is sent
all_sent : (o : Option ImageView) (image : ImageView) → o ≡ Some image
    → length (sent Load 710 Left o [] ++ sent Start 710 Left o []) ≡ length image.words + 8
all_sent o image e =
    ap (λ o. length (sent Load 710 Left o [] ++ sent Start 710 Left o [])) e
    ∙ simp length-append (omega arith)

pub leaf_holds : (text : List ℕ) (images : Images) (chip : Chip) (image : ImageView) → BootsHold
    → Growing → StreamsGo → HasImages text images → IsSound far_fork
    → unreached images far_fork.nodes ≡ None → image_of images 710 ≡ Some image
    → IsFed chip 708 (tree_load images far_fork ++ tree_start images far_fork) → IsLegal chip
    → left_of chip 708 ≤ length (tree_start images far_fork)
    → (ledger_of chip 709 Left).read < length image.words + 8
    → (now : Part) → part_of chip 710 ≡ Some now → Holds now.state (Some image)
leaf_holds text images chip image boots growing streams has sound reached at fed legal left read =
    λ now here.
    boots text images far_fork fed.first fed.events has first_named sound reached supply
    710 image now at (ap (λ c. part_of c 710) (sym fed.leads) ∙ here)
    (taken chip (tree_load images far_fork) (tree_start images far_fork) fed streams legal left)
    not_begun
  where
    supply : IsSupplied fed.first 708 (tree_load images far_fork ++ tree_start images far_fork)
        fed.events
    supply = inr (fed.opened, ([], sym fed.fed ∙ sym (append-nil _)))

    not_begun : HasBegun fed.first images far_fork fed.events 710 → ⊥
    not_begun begun =
        let few = few_taken chip _ fed (length image.words + 8) growing read in
        omega (arith, begun, all_sent (image_of images 710) image at, few)
