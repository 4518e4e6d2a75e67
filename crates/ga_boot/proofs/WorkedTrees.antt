-- Worked values: a tree that branches, its places, and the scripts of two of its nodes.
use Rattle.std.proofs.Common.{◌≡◌, inl, inr, [], ◌∷◌, Some, None, refl, sym, ap, subst, le_refl, arith}
use native.Mathlib.Bridge.{IsLe, le_by_compare}
use Rattle.ga_asm.specs.Image.{ImageView}
use Rattle.ga_path.specs.Sequences.{Bare, Grove, Tree}
use Rattle.ga_place.specs.Side.{neighbour_of}
use Rattle.ga_place.specs.declared.side.Side.TheVariants.{Down, Right}
use Rattle.ga_boot.specs.Boot.{node_words, stream_words}
use Rattle.ga_boot.specs.inner.Local.{fed, taken}
use Rattle.ga_boot.specs.inner.Plan.{script}
use Rattle.ga_boot.specs.Tree.{Elem, HasRoom, IsTree, Place, places}
use Rattle.ga_boot.specs.inner.TreePlan.{plan_of}

-- `. . . .`
abbrev nops : ImageView
nops = record { words = 0x2C9B2 ∷ []; code_len = 1; entry = 0; labels = []; item_counts = 4 ∷ [] }

-- 708, whose neighbours 709 and 608 have an image
abbrev fork : Grove
fork = Tree 709 Right (Some nops) Bare (Tree 608 Down (Some nops) Bare Bare)

abbrev right_place : Place
right_place = record { name = 709; parent = 708; side = Right; image = Some nops; inner = Bare }

abbrev down_place : Place
down_place = record { name = 608; parent = 708; side = Down; image = Some nops; inner = Bare }

fork_places : places 708 fork ≡ right_place ∷ down_place ∷ []
fork_places = refl

-- all loads come before all starts
fork_stream : stream_words 708 None fork ≡ 0x000AE ∷ 0x001D5 ∷ 0x00008 ∷ 0x101D5 ∷ 0x04A12 ∷ 0x00000
    ∷ 0x00000 ∷ 0x2E9B2 ∷ 0x05872 ∷ 0x2C9B2 ∷ 0x2C9B2 ∷ 0x000AE ∷ 0x00115 ∷ 0x00008 ∷ 0x10115
    ∷ 0x04A12 ∷ 0x00000 ∷ 0x00000 ∷ 0x2E9B2 ∷ 0x05872 ∷ 0x2C9B2 ∷ 0x2C9B2 ∷ 0x000AE ∷ 0x00000
    ∷ 0x00000 ∷ 0x000AE ∷ 0x001D5 ∷ 0x00001 ∷ 0x10000 ∷ 0x000AE ∷ 0x00115 ∷ 0x00001 ∷ 0x10000
    ∷ 0x001B5 ∷ 0x00000 ∷ 0x00000 ∷ []
fork_stream = refl

right_words : node_words right_place ≡ 0x101D5 ∷ 0x04A12 ∷ 0x00000 ∷ 0x00000 ∷ 0x2E9B2 ∷ 0x05872
    ∷ 0x2C9B2 ∷ 0x2C9B2 ∷ 0x10000 ∷ []
right_words = refl

-- the root's script is fed the stream, and another node's takes its words
root_fed : fed (script (plan_of 708 None fork) 708) ≡ stream_words 708 None fork
root_fed = refl

right_taken : taken Right (script (plan_of 708 None fork) 709) ≡ node_words right_place
right_taken = refl

fork_is_tree : IsTree 708 None fork
unfolding IsLe
fork_is_tree = record {
  named = (le_by_compare 8 8 tt, le_by_compare 9 18 tt);
  loads = tt;
  images = images_of;
  there = there_of;
  once = (λ q e same. other q e same, ((λ q e same. e), tt));
  apart = λ p e same. away p e same;
}
  where
    images_of : (p : Place) → Elem p (places 708 fork) → HasRoom p.image
    images_of p (inl e) =
        subst (λ q. HasRoom q.image) (sym e) (record
        { some = le_refl 1; most = le_by_compare 1 64 tt; entry_near = le_by_compare 0 64 tt })
    images_of p (inr (inl e)) =
        subst (λ q. HasRoom q.image) (sym e) (record
        { some = le_refl 1; most = le_by_compare 1 64 tt; entry_near = le_by_compare 0 64 tt })
    images_of p (inr (inr e)) = absurd e

    there_of : (p : Place) → Elem p (places 708 fork) → neighbour_of p.parent p.side ≡ Some p.name
    there_of p (inl e) = subst (λ q. neighbour_of q.parent q.side ≡ Some q.name) (sym e) refl
    there_of p (inr (inl e)) = subst (λ q. neighbour_of q.parent q.side ≡ Some q.name) (sym e) refl
    there_of p (inr (inr e)) = absurd e

    other : (q : Place) → Elem q (down_place ∷ []) → q.name ≡ 709 → ⊥
    other q (inl e) same =
        let g : q.name ≡ 608 = ap (λ (z : Place). z.name) e in omega (arith, g, same)
    other q (inr e) same = absurd e

    away : (p : Place) → Elem p (places 708 fork) → p.name ≡ 708 → ⊥
    away p (inl e) same =
        let g : p.name ≡ 709 = ap (λ (z : Place). z.name) e in omega (arith, g, same)
    away p (inr (inl e)) same =
        let g : p.name ≡ 608 = ap (λ (z : Place). z.name) e in omega (arith, g, same)
    away p (inr (inr e)) same = absurd e
