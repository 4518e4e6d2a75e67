-- The ports of a node are what it shares with its neighbours.
use Rattle.std.proofs.Common.{◌≡◌, ℕ, ◌⊎◌, inl, inr, ◌<◌, [], ◌∷◌, Option, Some, None, option_map, is_some, refl, sym, ap, ap₂, ◌∙◌, subst}
use Rattle.std.proofs.lemmas.Option.{none-some, same_Some}
use Rattle.std.specs.Option.{option_and_then}
use Rattle.ga_place.specs.Cell.{cell_of, index_of, read_cell}
use Rattle.ga_place.specs.Node.{IsNodeName}
use Rattle.ga_place.specs.Side.{neighbour_of}
use Rattle.ga_place.specs.declared.side.Side.{Side}
use Rattle.ga_place.specs.declared.side.Side.TheVariants.{Right, Down, Left, Up}
use Rattle.ga_place.proofs.Cells.{index_below}
use Rattle.ga_place.proofs.CellNumbers.{cell_there, no_cell}
use Rattle.ga_place.proofs.SideLemmas.{neighbour_of-IsNodeName, shared_port}
use Rattle.ga_chip.specs.declared.port.Port.{Port}
use Rattle.ga_chip.specs.inner.Port.{FitsPorts, port_at, port_of, port_with, ports_of}

at_side : (name : ℕ) (side : Side) → port_at side (ports_of name) ≡ port_of name side
unfolding ports_of
at_side name Right = refl
at_side name Down = refl
at_side name Left = refl
at_side name Up = refl

-- a neighbour and both cells are there, or none of them
abbrev Alike : Option ℕ → Option ℕ → Option ℕ → Type 0
Alike neighbour reads writes =
    ((neighbour ≡ None) × (reads ≡ None) × (writes ≡ None))
    ⊎ ((other : ℕ) × (read : ℕ) × (written : ℕ) × (neighbour ≡ Some other) × (reads ≡ Some read)
    × (writes ≡ Some written))

alike : (name : ℕ) (side : Side) → IsNodeName name
    → Alike (neighbour_of name side) (read_cell name side) (cell_of name side)
alike name side named = by (neighbour_of name side) refl
  where
    by : (o : Option ℕ) → neighbour_of name side ≡ o
        → Alike (neighbour_of name side) (read_cell name side) (cell_of name side)
    by None e =
        inl (
          e,
          ap (option_and_then (λ other. cell_of other side)) e,
          no_cell name side named (ap is_some e),
        )
    by (Some other) e =
        inr (
          other,
          _,
          _,
          e,
          ap (option_and_then (λ other. cell_of other side)) e
              ∙ cell_there other side (neighbour_of-IsNodeName name other side named e)
              (ap is_some (shared_port name other side named e)),
          cell_there name side named (ap is_some e),
        )

with_all : (n r w : Option ℕ) (other read written : ℕ) → n ≡ Some other → r ≡ Some read
    → w ≡ Some written
    → port_with n r w ≡ Some (record { reads = read; writes = written; neighbour = index_of other })
with_all n r w other read written e f g =
    ap (λ o. port_with o r w) e ∙ ap (λ o. port_with (Some other) o w) f
    ∙ ap (port_with (Some other) (Some read)) g

reads_with : (n r w : Option ℕ) → Alike n r w
    → option_map (λ port. port.reads) (port_with n r w) ≡ r
reads_with n r w (inl (e, f, g)) =
    ap (λ o. option_map (λ port. port.reads) (port_with o r w)) e ∙ sym f
reads_with n r w (inr (other, read, written, e, f, g)) =
    ap (option_map (λ port. port.reads)) (with_all n r w other read written e f g) ∙ sym f

writes_with : (n r w : Option ℕ) → Alike n r w
    → option_map (λ port. port.writes) (port_with n r w) ≡ w
writes_with n r w (inl (e, f, g)) =
    ap (λ o. option_map (λ port. port.writes) (port_with o r w)) e ∙ sym g
writes_with n r w (inr (other, read, written, e, f, g)) =
    ap (option_map (λ port. port.writes)) (with_all n r w other read written e f g) ∙ sym g

neighbours_with : (n r w : Option ℕ) → Alike n r w
    → option_map (λ port. port.neighbour) (port_with n r w) ≡ option_map index_of n
neighbours_with n r w (inl (e, f, g)) =
    ap (λ o. option_map (λ port. port.neighbour) (port_with o r w)) e
    ∙ sym (ap (option_map index_of) e)
neighbours_with n r w (inr (other, read, written, e, f, g)) =
    ap (option_map (λ port. port.neighbour)) (with_all n r w other read written e f g)
    ∙ sym (ap (option_map index_of) e)

pub fits_ports : (name : ℕ) → IsNodeName name → FitsPorts name (ports_of name)
fits_ports name named = record {
  reads = λ side. ap (option_map (λ port. port.reads)) (at_side name side)
      ∙ reads_with _ _ _ (alike name side named);
  writes = λ side. ap (option_map (λ port. port.writes)) (at_side name side)
      ∙ writes_with _ _ _ (alike name side named);
  neighbours = λ side. ap (option_map (λ port. port.neighbour)) (at_side name side)
      ∙ neighbours_with _ _ _ (alike name side named);
  places = λ side port there. by side port there (neighbour_of name side) refl;
}
  where
    by : (side : Side) (port : Port) → port_at side (ports_of name) ≡ Some port → (o : Option ℕ)
        → neighbour_of name side ≡ o → port.neighbour < 144
    by side port there None e =
        absurd (none-some port (sym (ap (λ o. port_with o (read_cell name side) (cell_of name side))
        e) ∙ sym (at_side name side) ∙ there))
    by side port there (Some other) e =
        let at : Some port.neighbour ≡ Some (index_of other) =
        ap (option_map (λ port. port.neighbour)) (sym there ∙ at_side name side)
        ∙ neighbours_with _ _ _ (alike name side named) ∙ ap (option_map index_of) e in
        subst (λ n. n < 144) (sym (same_Some port.neighbour (index_of other) at))
        (index_below other (neighbour_of-IsNodeName name other side named e))

-- the ports of a node, as the code makes them
pub ports_made : (name : ℕ) (right down left up : Option Port) → right ≡ port_of name Right
    → down ≡ port_of name Down → left ≡ port_of name Left → up ≡ port_of name Up
    → record { by_side = right ∷ down ∷ left ∷ up ∷ [] } ≡ ports_of name
unfolding ports_of
ports_made name right down left up e f g h =
    ap₂ (λ r d. record { by_side = r ∷ d ∷ left ∷ up ∷ [] }) e f
    ∙ ap₂ (λ l u. record { by_side = port_of name Right ∷ port_of name Down ∷ l ∷ u ∷ [] }) g h
