-- The words that are written for a port are those that its node posts, in order.
use Rattle.std.proofs.Common.{◌≡◌, ◌∙◌, ◌⊎◌, inl, inr, ℕ, zero, suc, ◌+◌, not, List, [], ◌++◌, Option, Some, None, add-one, ap, ap₂, append-nil, append_assoc, arith, filter_map, option_and_then, option_to_list, refl, sym, if◌then◌else◌}
use Rattle.std.specs.List.{cons_option, range_with_len}
use Rattle.std.proofs.lemmas.Bool.{eq-eqb}
use Rattle.std.proofs.lemmas.List.Elements.{filter_map-append}
use Rattle.std.proofs.lemmas.Option.{none-some}
use Rattle.ga_place.specs.declared.side.Side.{Side}
use Rattle.ga_place.specs.declared.side.Side.TheVariants.{Right, Down, Left, Up}
use Rattle.ga_chip.specs.Chip.{Chip}
use Rattle.ga_chip.specs.Legal.{IsLegal}
use Rattle.ga_chip.specs.Run.{Move, moves, moves_of, ran, side_of_turn, turn_of, turns_of}
use Rattle.ga_chip.proofs.Kept.{legal_ran}
use Rattle.ga_chip.proofs.Turning.{one_turn}
use Rattle.ga_observe.specs.Laws.{EventsAreNumbered, TurnsGoOn}
use Rattle.ga_observe.specs.Seen.{numbered, steps_seen, turns_numbered}
use Rattle.ga_wave.specs.declared.signal.Signal.TheVariants.{Port}
use Rattle.ga_wave.specs.Laws.{WordsAreInOrder, unread_word, word_of, word_posted, words_posted, words_written, written_in}
use Rattle.ga_wave.specs.Sample.{pending_at, sample_of}
use Rattle.ga_wave.specs.Value.{same_value, value_of, word_value}
use Rattle.ga_wave.specs.Wave.{chip_behind, shown_in}
use Rattle.ga_wave.proofs.PortTurns.{HasPosted, Posts, Rests, port_turn, word_shown}
use Rattle.ga_wave.proofs.Posting.{posted_by_moves, words_by}

-- ---- lists

push_onto : {A : Type 0} (item : Option A) (items more : List A)
    → cons_option item (items ++ more) ≡ cons_option item items ++ more
push_onto None items more = refl
push_onto (Some item) items more = refl

only : {A : Type 0} (item : Option A) → cons_option item [] ≡ option_to_list item
only None = refl
only (Some item) = refl

-- one number more
one_more : {A : Type 0} (f : ℕ → Option A) (from count next : ℕ) → from + count ≡ next
    → filter_map f (range_with_len from (suc count))
    ≡ filter_map f (range_with_len from count) ++ option_to_list (f next)
one_more f from zero next e =
    let same : from ≡ next = omega arith in
    only (f from) ∙ ap (λ n. option_to_list (f n)) same
one_more f from (suc count) next e =
    let later : from + 1 + count ≡ next = omega arith in
    ap (cons_option (f from)) (one_more f (from + 1) count next later)
    ∙ push_onto (f from) (filter_map f (range_with_len (from + 1) count)) (option_to_list (f next))

-- ---- the value of a port

-- the word that a turn writes if it shows this one behind another one
abbrev new_word : Option ℕ → Option ℕ → Option ℕ
new_word old new =
    option_and_then word_of
    (if not (same_value (word_value old) (word_value new)) then Some (word_value new) else None)

word_back : (word : Option ℕ) → word_of (word_value word) ≡ word
word_back None = refl
word_back (Some word) = refl

-- an empty port writes no word, and a word that stays isn't written again
empty_writes : (old : Option ℕ) → new_word old None ≡ None
empty_writes None = refl
empty_writes (Some old) = refl

same_writes : (word : Option ℕ) → new_word word word ≡ None
same_writes None = refl
same_writes (Some word) =
    ap (λ same. option_and_then word_of (if not same then Some (word_value (Some word)) else None))
    (eq-eqb word word refl)

port_value : (start : Chip) (name : ℕ) (side : Side) (turn : ℕ)
    → value_of (Port side) (shown_in start turn name)
    ≡ word_value (word_shown (chip_behind start turn) (chip_behind start (suc turn)) name side)
unfolding sample_of
port_value start name Right turn = refl
port_value start name Down turn = refl
port_value start name Left turn = refl
port_value start name Up turn = refl

module _ (plain : EventsAreNumbered) (go_on : TurnsGoOn) (start : Chip) (legal : IsLegal start)
    (name : ℕ) (side : Side) where
  -- ---- turns

  behind_is : (turn : ℕ) → chip_behind start turn ≡ ran start (turns_of turn)
  unfolding turns_of
  behind_is zero = refl
  behind_is (suc turn) =
      one_turn start (chip_behind start turn) (chip_behind start (suc turn)) turn (behind_is turn)
      refl
      ∙ ap (λ count. ran start (turns_of count)) (add-one turn)

  legal_behind : (turn : ℕ) → IsLegal (chip_behind start turn)
  legal_behind zero = legal
  legal_behind (suc turn) =
      legal_ran (chip_behind start turn) (turn_of (side_of_turn turn)) (legal_behind turn)

  abbrev made_in : ℕ → List Move
  made_in turn = moves_of name (moves (chip_behind start turn) (turn_of (side_of_turn turn)))

  -- the words that are posted in some turns
  abbrev posted_to : ℕ → List ℕ
  posted_to count = words_posted name side (steps_seen start (turns_numbered count))

  posted_none : posted_to 0 ≡ []
  unfolding turns_numbered
  posted_none = refl

  posted_more : (turn : ℕ)
      → posted_to (turn + 1) ≡ posted_to turn ++ words_by side (made_in turn)
  posted_more turn =
      let chip = chip_behind start turn in
      let before = steps_seen start (turns_numbered turn) in
      let tries = turn_of (side_of_turn turn) in
      let here = numbered turn tries in
      let both : before ++ steps_seen chip here ≡ steps_seen start (turns_numbered (turn + 1)) =
      ap (λ behind. before ++ steps_seen behind here) (behind_is turn) ∙ go_on start turn in
      ap (words_posted name side) (sym both)
      ∙ filter_map-append (word_posted name side) before (steps_seen chip here)
      ∙ ap (λ words. posted_to turn ++ words)
      (posted_by_moves name side chip here
      ∙ ap (λ events. words_by side (moves_of name (moves chip events))) (plain turn tries))

  -- what a turn shows of the port, and what is pending there behind it
  abbrev shown : ℕ → Option ℕ
  shown turn = word_shown (chip_behind start turn) (chip_behind start (suc turn)) name side

  abbrev pends : ℕ → Option ℕ
  pends turn = pending_at (chip_behind start (suc turn)) name side

  -- the word that it writes
  abbrev written : ℕ → Option ℕ
  written turn = option_and_then word_of (written_in start name (Port side) turn)

  first_written : written 0 ≡ shown 0
  first_written = ap word_of (port_value start name side 0) ∙ word_back (shown 0)

  next_written : (turn : ℕ) → written (suc turn) ≡ new_word (shown turn) (shown (suc turn))
  next_written turn =
      ap₂ (λ old new. option_and_then word_of (if not (same_value old new) then Some new else None))
      (port_value start name side turn) (port_value start name side (suc turn))

  more_written : (turn : ℕ)
      → words_written start name side (suc turn)
      ≡ words_written start name side turn ++ option_to_list (written (suc turn))
  more_written turn =
      let here : 0 + suc turn ≡ suc turn = omega arith in
      ap (λ count. filter_map written (range_with_len 0 count)) (add-one (suc turn))
      ∙ one_more written 0 (suc turn) (suc turn) here
      ∙ ap (λ count. filter_map written (range_with_len 0 count)
      ++ option_to_list (written (suc turn))) (sym (add-one turn))

  -- ---- the words up to a turn

  -- Behind a turn: the port shows what is pending, or the word was read in the turn in which it was
  -- posted, and the node doesn't know yet.
  abbrev Stands : ℕ → Type 0
  Stands turn =
      (shown turn ≡ pends turn)
      ⊎ ((pends turn ≡ None) × HasPosted (chip_behind start (suc turn)) name)

  record UpTo (turn : ℕ) : Type 0 where
    words : words_written start name side turn
        ≡ option_to_list (unread_word start name side) ++ posted_to (turn + 1)
    stands : Stands turn

  abbrev DoesPost : ℕ → Type 0
  DoesPost turn =
      Posts (chip_behind start turn) (chip_behind start (suc turn)) name side (made_in turn)

  abbrev DoesRest : ℕ → Type 0
  DoesRest turn =
      Rests (chip_behind start turn) (chip_behind start (suc turn)) name side (made_in turn)

  stands_post : (turn : ℕ) (word : ℕ) → shown turn ≡ Some word
      → HasPosted (chip_behind start (suc turn)) name
      → (pends turn ≡ Some word) ⊎ (pends turn ≡ None) → Stands turn
  stands_post turn word shows behind (inl stays) = inl (shows ∙ sym stays)
  stands_post turn word shows behind (inr read) = inr (read, behind)

  posted_first : posted_to 1 ≡ words_by side (made_in 0)
  posted_first = posted_more 0 ∙ ap (λ words. words ++ words_by side (made_in 0)) posted_none

  first_turn : DoesPost 0 ⊎ DoesRest 0 → UpTo 0
  first_turn (inl does) = record {
    words = only (written 0) ∙ ap option_to_list (first_written ∙ does.shows)
        ∙ sym (posted_first ∙ does.posts)
        ∙ ap (λ word. option_to_list (option_and_then (λ old. pends 0) word) ++ posted_to 1)
        (sym does.empty);
    stands = stands_post 0 does.word does.shows does.behind does.stays;
  }
  first_turn (inr does) = record {
    words = only (written 0) ∙ ap option_to_list (first_written ∙ does.shows ∙ unread does.stays)
        ∙ sym (append-nil (option_to_list (unread_word start name side)))
        ∙ ap (λ words. option_to_list (unread_word start name side) ++ words)
        (sym (posted_first ∙ does.posts));
    stands = inl does.shows;
  }
    where
      by : (old : Option ℕ) → (pends 0 ≡ old) ⊎ (pends 0 ≡ None)
          → pends 0 ≡ option_and_then (λ word. pends 0) old
      by None (inl none) = none
      by None (inr none) = none
      by (Some word) stays = refl

      unread : (pends 0 ≡ pending_at start name side) ⊎ (pends 0 ≡ None)
          → pends 0 ≡ unread_word start name side
      unread stays = by (pending_at start name side) stays

  -- the words of one turn more
  words_more : (turn : ℕ) → UpTo turn
      → option_to_list (written (suc turn)) ≡ words_by side (made_in (suc turn))
      → words_written start name side (suc turn)
      ≡ option_to_list (unread_word start name side) ++ posted_to (suc turn + 1)
  words_more turn so_far one =
      let unread = option_to_list (unread_word start name side) in
      more_written turn
      ∙ ap (λ words. words ++ option_to_list (written (suc turn))) so_far.words
      ∙ append_assoc unread (posted_to (turn + 1)) (option_to_list (written (suc turn)))
      ∙ ap (λ words. unread ++ (posted_to (turn + 1) ++ words)) one
      ∙ ap (λ count. unread ++ (posted_to count ++ words_by side (made_in (suc turn))))
      (add-one turn)
      ∙ ap (λ words. unread ++ words) (sym (posted_more (suc turn)))

  next_turn : (turn : ℕ) → UpTo turn → DoesPost (suc turn) ⊎ DoesRest (suc turn)
      → UpTo (suc turn)
  next_turn turn so_far (inl does) = record {
    words = words_more turn so_far
        (ap option_to_list (next_written turn ∙ ap₂ new_word (was_empty so_far.stands) does.shows)
        ∙ sym does.posts);
    stands = stands_post (suc turn) does.word does.shows does.behind does.stays;
  }
    where
      was_empty : Stands turn → shown turn ≡ None
      was_empty (inl shows) = shows ∙ does.empty
      was_empty (inr (read, (post, is))) = absurd (none-some post (sym does.before ∙ is))
  next_turn turn so_far (inr does) = record {
    words = words_more turn so_far
        (ap option_to_list (next_written turn ∙ ap (new_word (shown turn)) does.shows
        ∙ by so_far.stands does.stays)
        ∙ sym does.posts);
    stands = inl does.shows;
  }
    where
      by : Stands turn → (pends (suc turn) ≡ pends turn) ⊎ (pends (suc turn) ≡ None)
          → new_word (shown turn) (pends (suc turn)) ≡ None
      by shows (inr read) = ap (new_word (shown turn)) read ∙ empty_writes (shown turn)
      by (inl shows) (inl stays) =
          ap₂ new_word shows stays ∙ same_writes (pends turn)
      by (inr (read, behind)) (inl stays) =
          ap (new_word (shown turn)) (stays ∙ read) ∙ empty_writes (shown turn)

  up_to : (turn : ℕ) → UpTo turn
  up_to zero = first_turn (port_turn start name side (side_of_turn 0) legal)
  up_to (suc turn) =
      next_turn turn (up_to turn)
      (port_turn (chip_behind start (suc turn)) name side (side_of_turn (suc turn))
      (legal_behind (suc turn)))

pub words_in_order : EventsAreNumbered → TurnsGoOn → WordsAreInOrder
words_in_order plain go_on start name side turn legal =
    (up_to plain go_on start legal name side turn).words
