-- What a turn does at a port of a node.
use Rattle.std.proofs.Common.{◌≡◌, ◌∙◌, ◌⊎◌, inl, inr, ℕ, ◌+◌, ◌==◌, Bool, true, false, not, List, [], ◌∷◌, ◌++◌, Option, Some, None, ap, append-nil, arith, length, option_and_then, option_map, option_to_list, refl, subst, sym, unwrap_or, if◌then◌else◌}
use Rattle.std.specs.List.{cons_option}
use Rattle.std.proofs.lemmas.Bool.{eq-eqb, eqb-false, eqb-true, ne_eqb}
use Rattle.std.proofs.lemmas.Option.{none-some, same_Some}
use Rattle.ga_place.specs.Cell.{cell_of}
use Rattle.ga_place.specs.Side.{side_bit}
use Rattle.ga_place.specs.declared.side.Side.{Side}
use Rattle.ga_place.proofs.Cells.{one_writer, same_bit}
use Rattle.ga_node.specs.Need.{need_of}
use Rattle.ga_node.specs.State.{reset_state}
use Rattle.ga_node.specs.declared.need.Need.{Need}
use Rattle.ga_node.specs.declared.need.Need.TheVariants as need
use Rattle.ga_node.proofs.Rows.{FitsPost, is_running, need_fits, post_after, step_posted}
use Rattle.ga_chip.specs.Part.{Part, Asks, Nothing, Own, Feed, Post, Take, Check}
use Rattle.ga_chip.specs.Chip.{Chip, part_of, pending}
use Rattle.ga_chip.specs.Legal.{IsLegal}
use Rattle.ga_chip.specs.Run.{Event, Move, moves, moves_of, posted_by, ran, taken_words, turn_of, written_words}
use Rattle.ga_chip.proofs.Events.{replay}
use Rattle.ga_chip.proofs.Kept.{empty_at_post}
use Rattle.ga_chip.proofs.Moments.{makes_event, moment}
use Rattle.ga_chip.proofs.Parts.{Fits, Passes, stand_after}
use Rattle.ga_chip.proofs.Runs.{flow_ran, part_first, posts, posts_ran, stand_ran}
use Rattle.ga_wave.specs.declared.deed.Intent.{Intent}
use Rattle.ga_wave.specs.declared.deed.Intent.TheVariants as intent
use Rattle.ga_wave.specs.Deed.{intent_of}
use Rattle.ga_wave.specs.Sample.{pending_at, state_at, word_at}
use Rattle.ga_wave.proofs.OneMove.{OneOrNone, turn_once}
use Rattle.ga_wave.proofs.Posting.{asked_at, words_by}

-- the word that a turn shows at a port, by the chips before and behind it
abbrev pub word_shown : Chip → Chip → ℕ → Side → Option ℕ
word_shown chip next name side =
    word_at (intent_of (need_of (state_at chip name)))
    (not ((state_at next name).steps == (state_at chip name).steps)) next name side

-- a node has posted a word whose read it hasn't seen yet
abbrev pub HasPosted : Chip → ℕ → Type 0
HasPosted chip name = (post : Side × ℕ) × ((state_at chip name).posted ≡ Some post)

-- The node posts a word at the side, where none was pending.
pub record Posts (chip next : Chip) (name : ℕ) (side : Side) (made : List Move) : Type 0 where
  pub word : ℕ
  pub shows : word_shown chip next name side ≡ Some word
  pub posts : words_by side made ≡ word ∷ []
  pub empty : pending_at chip name side ≡ None
  pub stays : (pending_at next name side ≡ Some word) ⊎ (pending_at next name side ≡ None)
  pub before : (state_at chip name).posted ≡ None
  pub behind : HasPosted next name

-- It posts none there.
pub record Rests (chip next : Chip) (name : ℕ) (side : Side) (made : List Move) : Type 0 where
  pub shows : word_shown chip next name side ≡ pending_at next name side
  pub posts : words_by side made ≡ []
  pub stays : (pending_at next name side ≡ pending_at chip name side)
      ⊎ (pending_at next name side ≡ None)

-- ---- what is pending behind a run

nothing_there : (taken : List ℕ) (word : ℕ) → [] ≡ taken ++ word ∷ [] → ⊥
nothing_there [] word e = cc
nothing_there (first ∷ taken) word e = cc

-- if words are taken of one at most, it is left or none is
same_or_none : (before behind : Option ℕ) (taken : List ℕ)
    → option_to_list before ≡ taken ++ option_to_list behind
    → (behind ≡ before) ⊎ (behind ≡ None)
same_or_none before None taken e = inr refl
same_or_none None (Some word) taken e = absurd (nothing_there taken word e)
same_or_none (Some first) (Some word) [] e =
    let same : word ≡ first = cc in inl (ap Some same)
same_or_none (Some first) (Some word) (other ∷ taken) e =
    let rest : [] ≡ taken ++ word ∷ [] = cc in absurd (nothing_there taken word rest)

module _ (chip : Chip) (events : List Event) (legal : IsLegal chip) (name : ℕ) (side : Side) where
  abbrev next : Chip
  next = ran chip events

  -- if nothing is posted, what was pending before is left or nothing is
  unposted : ((cell : ℕ) → cell_of name side ≡ Some cell → written_words chip events cell ≡ [])
      → (pending_at next name side ≡ pending_at chip name side)
      ⊎ (pending_at next name side ≡ None)
  unposted none = by (cell_of name side) refl
    where
      by : (at : Option ℕ) → cell_of name side ≡ at
          → (option_and_then (λ cell. pending next cell) at
          ≡ option_and_then (λ cell. pending chip cell) at)
          ⊎ (option_and_then (λ cell. pending next cell) at ≡ None)
      by None e = inr refl
      by (Some cell) e =
          same_or_none (pending chip cell) (pending next cell) (taken_words chip events cell)
          (sym (append-nil (option_to_list (pending chip cell)))
          ∙ ap (λ words. option_to_list (pending chip cell) ++ words) (sym (none cell e))
          ∙ flow_ran chip events cell legal)

  -- ---- without a move

  state_by : (at : Chip) (found : Option Part) → part_of at name ≡ found → state_at at name
      ≡ unwrap_or (option_map (λ (part : Part). part.state) found) (reset_state name)
  state_by at found there =
      ap (λ (o : Option Part). unwrap_or (option_map (λ (p : Part). p.state) o) (reset_state name))
      there

  same_state : moves_of name (moves chip events) ≡ [] → state_at next name ≡ state_at chip name
  same_state none = by (part_of chip name) refl
    where
      gone : (found : Option Part) → part_of next name ≡ found → part_of chip name ≡ None
          → state_at next name ≡ state_at chip name
      gone None there before = state_by next None there ∙ sym (state_by chip None before)
      gone (Some part) there before =
          let old = part_first chip events name part legal there in
          absurd (none-some old.0 (sym before ∙ old.1))

      by : (found : Option Part) → part_of chip name ≡ found
          → state_at next name ≡ state_at chip name
      by None there = gone (part_of next name) refl there
      by (Some part) there =
          let stands = stand_ran chip events name part legal there in
          state_by next (Some stands.now) stands.there ∙ stands.stands
          ∙ ap (replay part.state) none ∙ sym (state_by chip (Some part) there)

  still_shown : (about : Intent) → word_at about false next name side ≡ pending_at next name side
  still_shown intent.Work = refl
  still_shown (intent.Take own) = refl
  still_shown (intent.Post at word) = refl
  still_shown (intent.Check at) = refl
  still_shown intent.Input = refl
  still_shown intent.Stop = refl

  unmoved : moves_of name (moves chip events) ≡ []
      → Rests chip next name side (moves_of name (moves chip events))
  unmoved none = record {
    shows = ap (λ same. word_at (intent_of (need_of (state_at chip name))) (not same) next name
        side) (eq-eqb (state_at next name).steps (state_at chip name).steps
        (ap (λ state. state.steps) (same_state none)))
        ∙ still_shown (intent_of (need_of (state_at chip name)));
    posts = ap (words_by side) none;
    stays = unposted (λ cell here. posts_ran chip events name cell side legal here
        ∙ ap (posts cell) none);
  }

  -- ---- with a move

  module _ (move : Move) (made : moves_of name (moves chip events) ≡ move ∷ []) (old : Part)
      (there : part_of chip name ≡ Some old) (fits : Fits move.asked (need_of old.state) name)
      (passed : Passes move.asked move.found) where
    state_behind : state_at next name ≡ stand_after move.asked move.found old.state
    state_behind =
        let stands = stand_ran chip events name old legal there in
        state_by next (Some stands.now) stands.there ∙ stands.stands ∙ ap (replay old.state) made

    counts : (state_at next name).steps ≡ old.state.steps + 1
    counts =
        let stands = stand_ran chip events name old legal there in
        ap (λ state. state.steps) (state_by next (Some stands.now) stands.there) ∙ stands.steps
        ∙ ap (λ all. old.state.steps + length all) made

    moved : word_shown chip next name side
        ≡ word_at (intent_of (need_of old.state)) true next name side
    moved =
        let more : (state_at next name).steps ≡ old.state.steps → ⊥ =
        λ same. omega (arith, same, counts) in
        ap (λ state. word_at (intent_of (need_of state))
        (not ((state_at next name).steps == state.steps)) next name side)
        (state_by chip (Some old) there)
        ∙ ap (λ same. word_at (intent_of (need_of old.state)) (not same) next name side)
        (ne_eqb (state_at next name).steps old.state.steps more)

    -- what it posts in a cell of its own
    posts_here : (asked : Asks) → move.asked ≡ asked → (at : Side) (cell : ℕ)
        → cell_of name at ≡ Some cell → written_words chip events cell ≡ posted_by cell asked
    posts_here asked is at cell here =
        posts_ran chip events name cell at legal here ∙ ap (posts cell) made
        ∙ append-nil (posted_by cell move.asked) ∙ ap (posted_by cell) is

    words : (asked : Asks) → move.asked ≡ asked
        → words_by side (moves_of name (moves chip events)) ≡ option_to_list (asked_at side asked)
    words asked is =
        ap (words_by side) made ∙ single (asked_at side move.asked)
        ∙ ap (λ q. option_to_list (asked_at side q)) is
      where
        single : (word : Option ℕ) → cons_option word [] ≡ option_to_list word
        single None = refl
        single (Some word) = refl

    -- a move that isn't a post at this side
    no_post : (asked : Asks) → move.asked ≡ asked → asked_at side asked ≡ None
        → ((cell : ℕ) → cell_of name side ≡ Some cell → posted_by cell asked ≡ [])
        → word_at (intent_of (need_of old.state)) true next name side ≡ pending_at next name side
        → Rests chip next name side (moves_of name (moves chip events))
    no_post asked is none elsewhere shown = record {
      shows = moved ∙ shown;
      posts = words asked is ∙ ap option_to_list none;
      stays = unposted (λ cell here. posts_here asked is side cell here ∙ elsewhere cell here);
    }

    other_need : (asked : Asks) (about : Need) → move.asked ≡ asked → need_of old.state ≡ about
        → asked_at side asked ≡ None → ((cell : ℕ) → posted_by cell asked ≡ [])
        → word_at (intent_of about) true next name side ≡ pending_at next name side
        → Rests chip next name side (moves_of name (moves chip events))
    other_need asked about is needs none elsewhere shown =
        no_post asked is none (λ cell here. elsewhere cell)
        (ap (λ n. word_at (intent_of n) true next name side) needs ∙ shown)

    -- a post at another side
    apart : (to : Side) (at word : ℕ) → cell_of name to ≡ Some at
        → (side_bit to == side_bit side) ≡ false → (cell : ℕ) → cell_of name side ≡ Some cell
        → posted_by cell (Post to at word) ≡ []
    apart to at word there_at other cell here = by (at == cell) refl
      where
        by : (same : Bool) → (at == cell) ≡ same → (if same then word ∷ [] else []) ≡ []
        by true e =
            let both = one_writer name name cell to side
            (there_at ∙ ap Some (eqb-true at cell e)) here in
            absurd (eqb-false (side_bit to) (side_bit side) other (ap side_bit both.1))
        by false e = refl

    -- a post at this side
    posted : (to : Side) (at word : ℕ) → move.asked ≡ Post to at word
        → cell_of name to ≡ Some at → need_of old.state ≡ need.Post to word
        → (side_bit to == side_bit side) ≡ true
        → Posts chip next name side (moves_of name (moves chip events))
    posted to at word is there_at needs own =
        let same : to ≡ side = same_bit to side (eqb-true (side_bit to) (side_bit side) own) in
        let here : cell_of name side ≡ Some at = ap (cell_of name) (sym same) ∙ there_at in
        let once : posted_by at (Post to at word) ≡ word ∷ [] =
        ap (λ b. if b then word ∷ [] else []) (eq-eqb at at refl) in
        let none : pending chip at ≡ None = empty_at_post chip name at word to old legal there
        there_at needs in
        let pending_here : (one : Chip) → pending_at one name side ≡ pending one at =
        λ one. ap (option_and_then (λ cell. pending one cell)) here in
        record {
          word = word;
          shows = moved ∙ ap (λ n. word_at (intent_of n) true next name side) needs
              ∙ ap (λ b. if b then Some word else pending_at next name side) own;
          posts = words (Post to at word) is
              ∙ ap (λ b. option_to_list (if b then Some word else None)) own;
          empty = pending_here chip ∙ none;
          stays = carried (pending_here next) (same_or_none (Some word) (pending next at)
              (taken_words chip events at)
              (sym once ∙ sym (posts_here (Post to at word) is side at here)
              ∙ ap (λ o. option_to_list o ++ written_words chip events at) (sym none)
              ∙ flow_ran chip events at legal));
          before = ap (λ state. state.posted) (state_by chip (Some old) there)
              ∙ subst (λ n. FitsPost n old.state.posted) needs (need_fits old.state);
          behind = (
            (to, word),
            ap (λ state. state.posted) state_behind
                ∙ ap (λ q. (stand_after q move.found old.state).posted) is
                ∙ step_posted old.state None (ap is_running needs)
                ∙ ap (λ n. post_after n old.state.posted) needs,
          );
        }
      where
        carried : {found now : Option ℕ} {word : ℕ} → found ≡ now
            → (now ≡ Some word) ⊎ (now ≡ None) → (found ≡ Some word) ⊎ (found ≡ None)
        carried e (inl f) = inl (e ∙ f)
        carried e (inr f) = inr (e ∙ f)

    by_asked : (asked : Asks) → move.asked ≡ asked → Fits asked (need_of old.state) name
        → Passes asked move.found
        → Posts chip next name side (moves_of name (moves chip events))
        ⊎ Rests chip next name side (moves_of name (moves chip events))
    by_asked (Nothing outcome) is fit pass = absurd pass
    by_asked Own is fit pass = inr (other_need Own need.Own is fit refl (λ cell. refl) refl)
    by_asked (Feed word) is fit pass =
        inr (other_need (Feed word) need.Input is fit refl (λ cell. refl) refl)
    by_asked (Check at cell) is fit pass =
        inr (other_need (Check at cell) (need.Check at) is fit.1 refl (λ other. refl) refl)
    by_asked (Take at cell) is fit pass =
        inr (other_need (Take at cell) (need.Take fit.0) is fit.2 refl (λ other. refl) refl)
    by_asked (Post to at word) is fit pass = by (side_bit to == side_bit side) refl
      where
        by : (own : Bool) → (side_bit to == side_bit side) ≡ own
            → Posts chip next name side (moves_of name (moves chip events))
            ⊎ Rests chip next name side (moves_of name (moves chip events))
        by true e = inl (posted to at word is fit.0 fit.1 e)
        by false e =
            inr (no_post (Post to at word) is (ap (λ b. if b then Some word else None) e)
            (apart to at word fit.0 e)
            (ap (λ n. word_at (intent_of n) true next name side) fit.1
            ∙ ap (λ b. if b then Some word else pending_at next name side) e))

  one_move : (move : Move) → moves_of name (moves chip events) ≡ move ∷ []
      → Posts chip next name side (moves_of name (moves chip events))
      ⊎ Rests chip next name side (moves_of name (moves chip events))
  one_move move made =
      let when = moment chip events name [] move [] made in
      let makes = makes_event (ran chip when.before) when.event name move when.now in
      let first = part_first chip when.before name makes.part legal makes.there in
      let stands = stand_ran chip when.before name first.0 legal first.1 in
      let same : makes.part.state ≡ first.0.state =
      ap (λ (part : Part). part.state)
      (same_Some makes.part stands.now (sym makes.there ∙ stands.there))
      ∙ stands.stands ∙ ap (replay first.0.state) when.so_far in
      let named : makes.part.state.node ≡ name =
      ap (λ state. state.node) same ∙ legal.named name first.0 first.1 in
      let fits : Fits move.asked (need_of first.0.state) name =
      subst (λ n. Fits move.asked (need_of first.0.state) n) named
      (subst (λ state. Fits move.asked (need_of state) makes.part.state.node) same makes.fits) in
      by_asked move made first.0 first.1 fits makes.passed move.asked refl fits makes.passed

  pub at_port : OneOrNone (moves_of name (moves chip events))
      → Posts chip next name side (moves_of name (moves chip events))
      ⊎ Rests chip next name side (moves_of name (moves chip events))
  at_port (inl none) = inr (unmoved none)
  at_port (inr (move, made)) = one_move move made

-- each turn does one of the two
pub port_turn : (chip : Chip) (name : ℕ) (side by : Side) → IsLegal chip
    → Posts chip (ran chip (turn_of by)) name side (moves_of name (moves chip (turn_of by)))
    ⊎ Rests chip (ran chip (turn_of by)) name side (moves_of name (moves chip (turn_of by)))
port_turn chip name side by legal =
    at_port chip (turn_of by) legal name side (turn_once chip name by)
