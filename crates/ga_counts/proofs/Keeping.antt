-- Counts behind one step more.
use Rattle.std.proofs.Common.{◌≡◌, ℕ, ◌+◌, ◌<◌, arith, ◌==◌, ◌⊎◌, inl, inr, Bool, true, false, List, [], ◌∷◌, ◌++◌, get_or, length, set, sym, ap, ◌∙◌, refl, subst}
use Rattle.std.specs.Prelude.{if◌then◌else◌, Option, Some, None, map, replicate, reverse}
use Rattle.std.specs.List.{range_with_len}
use Rattle.std.specs.Option.{option_map, option_map_or}
use Rattle.std.proofs.lemmas.Bool.{cases_eq, eq-eqb, ne_eqb}
use Rattle.std.proofs.lemmas.List.{ext_get_or, get_or_default, get_or-replicate, get_or-set_other, get_or-set_same, reverse-append}
use Rattle.std.proofs.lemmas.List.FromFn.{get_or-map-range_with_len, length-map-range_with_len}
use Rattle.ga_place.specs.Cell.{index_of, name_at}
use Rattle.ga_place.specs.inner.Index.{index_back}
use Rattle.ga_observe.specs.declared.step.Step.{Step}
use Rattle.ga_counts.specs.declared.word_counts.WordCounts.{WordCounts}
use Rattle.ga_counts.specs.inner.Kept.{Kept}
use Rattle.ga_counts.specs.Counts.{NO_COUNTS, counts_behind, is_at, one_more, place_counted, place_of, word_after, word_behind, word_counted}

-- the last one first
reversed_more : (steps : List Step) (step : Step)
    → reverse (steps ++ step ∷ []) ≡ step ∷ reverse steps
reversed_more steps step = reverse-append steps (step ∷ [])

-- ---- the words in execution

own_word : (name : ℕ) (step : Step) (earlier : List Step) → step.node ≡ name
    → word_behind name (step ∷ earlier) ≡ word_after (word_behind name earlier) step
own_word name step earlier is =
    ap (λ (b : Bool). if b then word_after (word_behind name earlier) step
    else word_behind name earlier) (eq-eqb step.node name is)

other_word : (name : ℕ) (step : Step) (earlier : List Step) → (step.node ≡ name → ⊥)
    → word_behind name (step ∷ earlier) ≡ word_behind name earlier
other_word name step earlier differs =
    ap (λ (b : Bool). if b then word_after (word_behind name earlier) step
    else word_behind name earlier) (ne_eqb step.node name differs)

-- those of all nodes behind one step more
words_more : (index : ℕ) (executed : List (Option ℕ)) (new : Option ℕ) (step : Step)
    (earlier : List Step) → index < 144 → length executed ≡ 144 → name_at index ≡ step.node
    → new ≡ word_after (word_behind step.node earlier) step
    → ((at : ℕ) → at < 144 → get_or executed at None ≡ word_behind (name_at at) earlier)
    → (at : ℕ) → at < 144
    → get_or (set executed index new) at None ≡ word_behind (name_at at) (step ∷ earlier)
words_more index executed new step earlier below all named is so_far at within =
    by (cases_eq at index)
  where
    inside : index < length executed
    inside = subst (λ n. index < n) (sym all) below

    apart : (at ≡ index → ⊥) → step.node ≡ name_at at → ⊥
    apart differs alike =
        differs (sym (index_back at within) ∙ ap index_of (sym alike ∙ sym named)
        ∙ index_back index below)

    here : get_or (set executed index new) index None
        ≡ word_behind (name_at index) (step ∷ earlier)
    here =
        get_or-set_same executed index new None inside ∙ is
        ∙ ap (λ name. word_after (word_behind name earlier) step) (sym named)
        ∙ sym (own_word (name_at index) step earlier (sym named))

    by : (at ≡ index) ⊎ (at ≡ index → ⊥)
        → get_or (set executed index new) at None ≡ word_behind (name_at at) (step ∷ earlier)
    by (inl alike) =
        subst (λ i. get_or (set executed index new) i None
        ≡ word_behind (name_at i) (step ∷ earlier)) (sym alike) here
    by (inr differs) =
        get_or-set_other executed index at new None differs ∙ so_far at within
        ∙ sym (other_word (name_at at) step earlier (apart differs))

-- ---- the counts

-- by whether a step counts at a place
one_step : (place : ℕ) (step : Step) (earlier : List Step) (counts : Bool)
    → is_at place step earlier ≡ counts
    → counts_behind place (step ∷ earlier)
    ≡ (if counts then one_more (counts_behind place earlier) step.place
    else counts_behind place earlier)
one_step place step earlier counts is =
    ap (λ (b : Bool). if b then one_more (counts_behind place earlier) step.place
    else counts_behind place earlier) is

at_place : (place : ℕ) (step : Step) (earlier : List Step) (at : Option ℕ) (b : Bool)
    → place_counted step earlier ≡ at → option_map_or (λ p. p == place) at false ≡ b
    → is_at place step earlier ≡ b
at_place place step earlier at b here is =
    ap (λ (o : Option ℕ). option_map_or (λ p. p == place) o false) here ∙ is

-- a step that counts nowhere
counts_same : (words : List WordCounts) (step : Step) (earlier : List Step)
    → place_counted step earlier ≡ None
    → ((at : ℕ) → at < 9216 → get_or words at NO_COUNTS ≡ counts_behind at earlier)
    → (at : ℕ) → at < 9216 → get_or words at NO_COUNTS ≡ counts_behind at (step ∷ earlier)
counts_same words step earlier none so_far at within =
    so_far at within
    ∙ sym (one_step at step earlier false (at_place at step earlier None false none refl))

-- a step that counts at a place
counts_more : (place : ℕ) (words : List WordCounts) (new : WordCounts) (step : Step)
    (earlier : List Step) → place < 9216 → length words ≡ 9216
    → place_counted step earlier ≡ Some place
    → new ≡ one_more (get_or words place NO_COUNTS) step.place
    → ((at : ℕ) → at < 9216 → get_or words at NO_COUNTS ≡ counts_behind at earlier)
    → (at : ℕ) → at < 9216
    → get_or (set words place new) at NO_COUNTS ≡ counts_behind at (step ∷ earlier)
counts_more place words new step earlier below all here is so_far at within =
    by (cases_eq at place)
  where
    inside : place < length words
    inside = subst (λ n. place < n) (sym all) below

    own : get_or (set words place new) place NO_COUNTS ≡ counts_behind place (step ∷ earlier)
    own =
        get_or-set_same words place new NO_COUNTS inside ∙ is
        ∙ ap (λ old. one_more old step.place) (so_far place below)
        ∙ sym (one_step place step earlier true
        (at_place place step earlier (Some place) true here (eq-eqb place place refl)))

    by : (at ≡ place) ⊎ (at ≡ place → ⊥)
        → get_or (set words place new) at NO_COUNTS ≡ counts_behind at (step ∷ earlier)
    by (inl alike) =
        subst (λ i. get_or (set words place new) i NO_COUNTS
        ≡ counts_behind i (step ∷ earlier)) (sym alike) own
    by (inr differs) =
        get_or-set_other words place at new NO_COUNTS differs ∙ so_far at within
        ∙ sym (one_step at step earlier false (at_place at step earlier (Some place) false here
        (ne_eqb place at (λ alike. differs (sym alike)))))

-- ---- what is kept

-- the word in execution after a step, as the observer finds it
pub word_found : (index : ℕ) (executed : List (Option ℕ)) (words : List WordCounts)
    (other new : Option ℕ) (step : Step) (steps : List Step) → index < 144
    → length executed ≡ 144 → name_at index ≡ step.node
    → new ≡ word_after (get_or executed index other) step → Kept executed words steps
    → new ≡ word_after (word_behind step.node (reverse steps)) step
word_found index executed words other new step steps below all named is kept =
    is
    ∙ ap (λ word. word_after word step)
    (get_or_default executed index other None (subst (λ n. index < n) (sym all) below)
    ∙ kept.nodes index below)
    ∙ ap (λ name. word_after (word_behind name (reverse steps)) step) named

-- where the step counts
counted_at : (new : Option ℕ) (place : Option ℕ) (step : Step) (earlier : List Step)
    → new ≡ word_after (word_behind step.node earlier) step
    → place ≡ option_map (place_of step.node) (word_counted new step.deed)
    → place_counted step earlier ≡ place
counted_at new place step earlier is counted =
    sym (counted
    ∙ ap (λ word. option_map (place_of step.node) (word_counted word step.deed)) is)

-- behind one step more, that counts nowhere or at a place
pub kept_nowhere : (index : ℕ) (executed : List (Option ℕ)) (words : List WordCounts)
    (new : Option ℕ) (step : Step) (steps : List Step) → index < 144
    → length executed ≡ 144 → name_at index ≡ step.node
    → new ≡ word_after (word_behind step.node (reverse steps)) step
    → None ≡ option_map (place_of step.node) (word_counted new step.deed)
    → Kept executed words steps → Kept (set executed index new) words (steps ++ step ∷ [])
kept_nowhere index executed words new step steps below all named is none kept = record {
  nodes = λ at within.
      subst (λ l. get_or (set executed index new) at None ≡ word_behind (name_at at) l)
      (sym (reversed_more steps step))
      (words_more index executed new step (reverse steps) below all named is kept.nodes at within);
  places = λ at within.
      subst (λ l. get_or words at NO_COUNTS ≡ counts_behind at l)
      (sym (reversed_more steps step))
      (counts_same words step (reverse steps)
      (counted_at new None step (reverse steps) is none) kept.places at within);
}

pub kept_more : (index place : ℕ) (executed : List (Option ℕ)) (words : List WordCounts)
    (new : Option ℕ) (other counts : WordCounts) (step : Step) (steps : List Step) → index < 144
    → length executed ≡ 144 → name_at index ≡ step.node
    → new ≡ word_after (word_behind step.node (reverse steps)) step
    → place < 9216 → length words ≡ 9216
    → Some place ≡ option_map (place_of step.node) (word_counted new step.deed)
    → counts ≡ one_more (get_or words place other) step.place
    → Kept executed words steps
    → Kept (set executed index new) (set words place counts) (steps ++ step ∷ [])
kept_more index place executed words new other counts step steps below all named is low each here
    counted kept = record {
      nodes = λ at within.
          subst (λ l. get_or (set executed index new) at None ≡ word_behind (name_at at) l)
          (sym (reversed_more steps step))
          (words_more index executed new step (reverse steps) below all named is kept.nodes at
          within);
      places = λ at within.
          subst (λ l. get_or (set words place counts) at NO_COUNTS ≡ counts_behind at l)
          (sym (reversed_more steps step))
          (counts_more place words counts step (reverse steps) low each
          (counted_at new (Some place) step (reverse steps) is here)
          (counted ∙ ap (λ old. one_more old step.place)
          (get_or_default words place other NO_COUNTS (subst (λ n. place < n) (sym each) low)))
          kept.places at within);
    }

-- no steps
pub kept_none : (executed : List (Option ℕ)) (words : List WordCounts)
    → executed ≡ replicate 144 None → words ≡ replicate 9216 NO_COUNTS
    → Kept executed words []
kept_none executed words none zeros = record {
  nodes = λ index below. ap (λ (l : List (Option ℕ)). get_or l index None) none
      ∙ get_or-replicate 144 index None None below;
  places = λ place below. ap (λ (l : List WordCounts). get_or l place NO_COUNTS) zeros
      ∙ get_or-replicate 9216 place NO_COUNTS NO_COUNTS below;
}

-- the counts that are kept, as one list
pub kept_all : (executed : List (Option ℕ)) (words : List WordCounts) (steps : List Step)
    → length words ≡ 9216 → Kept executed words steps
    → words ≡ map (λ place. counts_behind place (reverse steps)) (range_with_len 0 9216)
kept_all executed words steps all kept =
    let counts : ℕ → WordCounts = λ place. counts_behind place (reverse steps) in
    let by_place : (place : ℕ) → place < length words → get_or words place NO_COUNTS
    ≡ get_or (map counts (range_with_len 0 9216)) place NO_COUNTS = λ place within.
    let below : place < 9216 = subst (λ n. place < n) all within in
    let here : 0 + place ≡ place = omega arith in
    kept.places place below
    ∙ sym (get_or-map-range_with_len counts 0 9216 place place NO_COUNTS below here) in
    ext_get_or NO_COUNTS words (map counts (range_with_len 0 9216))
    (all ∙ sym (length-map-range_with_len counts 0 9216)) by_place
