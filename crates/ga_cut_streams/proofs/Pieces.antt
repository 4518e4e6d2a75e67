-- A list of pieces, taken apart at one of them.
use Rattle.std.proofs.Common.{◌≡◌, ◌∙◌, ◌++◌, ◌<◌, ℕ, suc, List, [], ◌∷◌, ap, append-nil, append_assoc, drop, get_or, length, sym, take}
use Rattle.std.specs.List.{flat_map}
use Rattle.std.proofs.Math.Seq.{take-suc}
use Rattle.std.proofs.lemmas.List.{take-append-drop}
use Rattle.std.proofs.lemmas.List.Concat.{flat_map-append}

pub apart_at : {P A : Type 0} (now : P → List A) (pieces : List P) (i : ℕ) (piece : P)
    → i < length pieces → piece ≡ get_or pieces i piece → flat_map now (take i pieces)
    ++ (now piece ++ flat_map now (drop (suc i) pieces)) ≡ flat_map now pieces
apart_at now pieces i piece below is =
    let front : flat_map now (take (suc i) pieces) ≡ flat_map now (take i pieces) ++ now piece =
    ap (flat_map now) (take-suc pieces i piece below ∙ ap (λ p. take i pieces ++ p ∷ []) (sym is))
    ∙ flat_map-append now (take i pieces) (piece ∷ [])
    ∙ ap (λ l. flat_map now (take i pieces) ++ l) (append-nil (now piece)) in
    sym
    (append_assoc (flat_map now (take i pieces)) (now piece) (flat_map now (drop (suc i) pieces)))
    ∙ ap (λ l. l ++ flat_map now (drop (suc i) pieces)) (sym front)
    ∙ sym (flat_map-append now (take (suc i) pieces) (drop (suc i) pieces))
    ∙ ap (flat_map now) (take-append-drop (suc i) pieces)
