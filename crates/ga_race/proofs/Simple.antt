-- A run without multiport takes has no race.
use Rattle.std.proofs.Common.{◌≡◌, List, [], ◌∷◌, ◌++◌, sym, ap, ◌∙◌, append-nil, append_assoc, flat_map}
use Rattle.std.proofs.lemmas.List.Concat.{flat_map-append}
use Rattle.ga_place.specs.declared.side.Side.{Side}
use Rattle.ga_chip.specs.Run.{Move, moves, moves_of, sides_of}
use Rattle.ga_race.specs.Races.{NoChoiceNoRace}
use Rattle.ga_race.proofs.Prefixes.{prefix_of, next_of, prefix_map}

-- a list with an element isn't empty
some : (xs ys rest : List Side) (side : Side) → [] ≡ ((xs ++ side ∷ []) ++ rest) → ⊥
some [] ys rest side e = cc
some (x ∷ xs) ys rest side e = cc

pub no_choice : NoChoiceNoRace
no_choice chip events none before later event name cell cut l =
    absurd (some (sides_of chip before name) [] front.0 l.taken
    (sym (none name) ∙ ap (λ es. sides_of chip es name) (cut ∙ sym parts) ∙ front.1
    ∙ ap (λ xs. xs ++ front.0) here))
  where
    parts : (before ++ event ∷ []) ++ later ≡ before ++ event ∷ later
    parts = append_assoc before (event ∷ []) later

    front : (rest : List Side) × (sides_of chip ((before ++ event ∷ []) ++ later) name
        ≡ sides_of chip (before ++ event ∷ []) name ++ rest)
    front =
        prefix_map (λ (move : Move). move.picked)
        (moves_of name (moves chip (before ++ event ∷ [])))
        (moves_of name (moves chip ((before ++ event ∷ []) ++ later)))
        (prefix_of chip (before ++ event ∷ []) later name)

    here : sides_of chip (before ++ event ∷ []) name ≡ sides_of chip before name ++ l.taken ∷ []
    here =
        ap (λ ms. flat_map (λ (move : Move). move.picked) ms)
        (next_of chip before event name ∙ ap (λ ms. moves_of name (moves chip before) ++ ms) l.made)
        ∙ flat_map-append (λ (move : Move). move.picked) (moves_of name (moves chip before))
        (l.move ∷ [])
        ∙ ap (λ xs. sides_of chip before name ++ xs) (append-nil l.move.picked ∙ l.picked)
