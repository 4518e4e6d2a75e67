-- The lines at which sections begin, one after another.
use Rattle.std.proofs.Common.{◌≡◌, ◌∙◌, ◌+◌, ◌<◌, ◌≤◌, ◌++◌, ℕ, List, length, map, get_or, drop, refl, ap, sym, append-nil, append_assoc}
use Rattle.ga_source.specs.declared.token.Token.{Token}
use Rattle.ga_faults.specs.Sections.{begins_section, behind, if_begun, starts_from}
use Rattle.ga_faults.specs.declared.reading.Reading.{Reading}
use Rattle.ga_faults.proofs.TokensRead.{left_at, none_left, token_piece}

-- one more token
pub starts_more : (text : List ℕ) (tokens : List Token) (index : ℕ) (other : Token)
    (reading next : Reading) (before : ℕ) (written starts new all : List ℕ)
    → index < length tokens
    → starts ++ starts_from reading before (drop index (map (token_piece text) tokens)) ≡ all
    → written ≡ (token_piece text (get_or tokens index other)).text
    → next ≡ behind reading written
    → new ≡ starts ++ if_begun (begins_section next before written
    (get_or tokens index other).line) (get_or tokens index other).line
    → new ++ starts_from next (get_or tokens index other).line
    (drop (index + 1) (map (token_piece text) tokens)) ≡ all
unfolding starts_from
starts_more text tokens index other reading next before written starts new all inside so_far is
    read pushed =
    let token = get_or tokens index other in
    let rest = λ (r : Reading). starts_from r token.line
    (drop (index + 1) (map (token_piece text) tokens)) in
    let begun = λ (r : Reading) (t : List ℕ). if_begun (begins_section r before t token.line)
    token.line in
    ap (λ ls. ls ++ rest next) pushed
    ∙ append_assoc starts (begun next written) (rest next)
    ∙ ap (λ (r : Reading). starts ++ (begun r written ++ rest r)) read
    ∙ ap (λ t. starts ++ (begun (behind reading t) t ++ rest (behind reading t))) is
    ∙ ap (λ left. starts ++ starts_from reading before left)
    (sym (left_at (token_piece text) tokens index token other inside refl))
    ∙ so_far

-- no token is left
pub starts_all : (text : List ℕ) (tokens : List Token) (index : ℕ) (reading : Reading)
    (before : ℕ) (starts all : List ℕ) → length tokens ≤ index
    → starts ++ starts_from reading before (drop index (map (token_piece text) tokens)) ≡ all
    → starts ≡ all
unfolding starts_from
starts_all text tokens index reading before starts all past so_far =
    sym (append-nil starts)
    ∙ ap (λ left. starts ++ starts_from reading before left)
    (sym (none_left (token_piece text) tokens index past))
    ∙ so_far
