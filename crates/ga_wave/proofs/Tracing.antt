-- The nodes of a waveform.
use Rattle.std.proofs.Common.{◌≡◌, ◌∙◌, ◌<◌, ◌≤◌, ℕ, suc, ◌+◌, List, [], ◌∷◌, ◌++◌, get_or, length, length-take, map, take, ap, arith, refl, sym}
use Rattle.std.proofs.lemmas.List.{map_push, take_more}
use Rattle.std.specs.List.{enumerate_from, flat_map}
use Rattle.ga_asm.specs.Image.{ImageView}
use Rattle.ga_chip.specs.Chip.{Chip}
use Rattle.ga_chip.specs.Run.{side_of_turn}
use Rattle.ga_trace.specs.Traced.{turned}
use Rattle.ga_wave.specs.declared.wave.Traced.{Traced}
use Rattle.ga_wave.specs.Header.{scope}
use Rattle.ga_wave.specs.Wave.{chip_behind, node_changes}
use Rattle.ga_wave.specs.Tracer.{traced_at, traced_by}
use Rattle.ga_wave.specs.inner.Traced.{first_traced, next_traced, one_changes, scopes_of, traced_changes}

-- one name more, with its number
number_more : (from : ℕ) (names : List ℕ) (name : ℕ)
    → enumerate_from from (names ++ name ∷ [])
    ≡ enumerate_from from names ++ (from + length names, name) ∷ []
number_more from [] name =
    let same : from ≡ from + 0 = omega arith in ap (λ n. (n, name) ∷ []) same
number_more from (first ∷ names) name =
    let same : from + 1 + length names ≡ from + suc (length names) = omega arith in
    ap (λ rest. (from, first) ∷ rest)
    (number_more (from + 1) names name
    ∙ ap (λ n. enumerate_from (from + 1) names ++ (n, name) ∷ []) same)

-- one node more
pub node_more : (chip : Chip) (names : List ℕ) (index name : ℕ) (old new : List Traced)
    → index < length names → get_or names index name ≡ name
    → old ≡ traced_by chip 0 (take index names)
    → new ≡ old ++ first_traced chip index name ∷ []
    → new ≡ traced_by chip 0 (take (index + 1) names)
node_more chip names index name old new within at so_far added =
    let front = take index names in
    let few : index ≤ length names = omega arith in
    let number : 0 + length front ≡ index = omega (arith, length-take index names) in
    added ∙ ap (λ traced. traced ++ first_traced chip index name ∷ []) so_far
    ∙ ap (λ n. traced_by chip 0 front ++ first_traced chip n name ∷ []) (sym number)
    ∙ sym (ap (map (traced_at chip 0)) (number_more 0 front name)
    ∙ map_push (traced_at chip 0) (enumerate_from 0 front) (0 + length front, name))
    ∙ ap (λ n. traced_by chip 0 (front ++ n ∷ [])) (sym at)
    ∙ ap (traced_by chip 0) (sym (take_more names index name within))

-- a text of each node that is traced is one of each numbered name
texts : (f : Traced → List ℕ) (traced : ℕ × ℕ → Traced) (g : ℕ × ℕ → List ℕ)
    → ((node : ℕ × ℕ) → f (traced node) ≡ g node)
    → (nodes : List (ℕ × ℕ)) → flat_map f (map traced nodes) ≡ flat_map g nodes
texts f traced g same [] = refl
texts f traced g same (node ∷ nodes) =
    ap (λ text. text ++ flat_map f (map traced nodes)) (same node)
    ∙ ap (λ rest. g node ++ rest) (texts f traced g same nodes)

pub scopes : (start : Chip) (turn : ℕ) (nodes : List (ℕ × ℕ))
    → scopes_of (map (traced_at start turn) nodes)
    ≡ flat_map (λ (node : ℕ × ℕ). scope node.1 node.0) nodes
scopes start turn nodes =
    texts (λ (one : Traced). scope one.node one.number) (traced_at start turn)
    (λ (node : ℕ × ℕ). scope node.1 node.0) (λ node. refl) nodes

-- the changes of a turn
pub changed : (images : List (ℕ × ImageView)) (start : Chip) (turn : ℕ) (nodes : List (ℕ × ℕ))
    → traced_changes images (side_of_turn turn) (turned turn (chip_behind start turn))
    (map (traced_at start turn) nodes)
    ≡ flat_map (node_changes images start turn) nodes
changed images start turn nodes =
    texts (one_changes images (side_of_turn turn) (turned turn (chip_behind start turn)))
    (traced_at start turn) (node_changes images start turn) (λ node. refl) nodes

-- the nodes behind a turn
pub next : (start : Chip) (turn : ℕ) (nodes : List (ℕ × ℕ))
    → map (next_traced (side_of_turn turn) (turned turn (chip_behind start turn)))
    (map (traced_at start turn) nodes)
    ≡ map (traced_at start (suc turn)) nodes
next start turn [] = refl
next start turn (node ∷ nodes) =
    ap (λ rest. traced_at start (suc turn) node ∷ rest) (next start turn nodes)
