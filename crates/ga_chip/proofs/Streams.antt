-- The words of a node's stream: those it had and those that came are those that it was fed and
-- those that are left.
use Rattle.std.proofs.Common.{◌≡◌, ℕ, List, [], ◌∷◌, ◌++◌, ◌⊎◌, inl, inr, flat_map, Some, refl, sym, ap, ap₂, ◌∙◌, subst, append-nil, append_assoc}
use Rattle.std.specs.Prelude.{Bool, false}
use Rattle.std.specs.Option.{option_map_or}
use Rattle.std.proofs.lemmas.Bool.{cases_eq}
use Rattle.std.proofs.lemmas.Option.{same_Some}
use Rattle.std.proofs.lemmas.List.Concat.{flat_map-append}
use Rattle.ga_node.specs.Need.{need_of}
use Rattle.ga_chip.specs.Grow.{StreamsGo}
use Rattle.ga_chip.specs.declared.outcome.Outcome.{Outcome}
use Rattle.ga_chip.specs.declared.outcome.Outcome.TheVariants.{Moved, Waits, Held, Stopped}
use Rattle.ga_chip.specs.declared.outcome.Try.{Try}
use Rattle.ga_chip.specs.Part.{Part, Feed, picked_by}
use Rattle.ga_chip.specs.Chip.{Chip, part_of}
use Rattle.ga_chip.specs.Laws.{AgreesWith}
use Rattle.ga_chip.specs.Run.{words_left, words_fed, is_open, piece_of, pieces, if_moved, Event, Move, happened, ran, move_in, moves, moves_of, input_by, tries_of}
use Rattle.ga_chip.specs.Legal.{IsLegal}
use Rattle.ga_chip.proofs.Parts.{Feeds, stream_by, feeds_by}
use Rattle.ga_chip.proofs.Events.{Does, DoesNothing, does, part_here, part_else, moves_here, moves_else}
use Rattle.ga_chip.proofs.Kept.{legal_kept}
use Rattle.ga_chip.proofs.Runs.{moves_of-append, part_first}
use Rattle.ga_chip.proofs.Moments.{Makes}

-- tries bring no words to a stream
pub no_piece : (opened : Bool) (name : ℕ) (tries : List Try)
    → pieces opened name (tries_of tries) ≡ []
no_piece opened name [] = refl
no_piece opened name (one ∷ tries) = no_piece opened name tries

-- so any two lists of tries bring the same
pub same_pieces : (one two : Chip) (name : ℕ) (tries others : List Try)
    → words_fed one (tries_of tries) name ≡ words_fed two (tries_of others) name
same_pieces one two name tries others =
    no_piece (is_open one name) name tries ∙ sym (no_piece (is_open two name) name others)

pub pieces_agree : (one two : Chip) (tries others : List Try) (name : ℕ)
    → AgreesWith (words_fed one (tries_of tries) name) (words_fed two (tries_of others) name)
pieces_agree one two tries others name =
    inl ([], same_pieces two one name others tries ∙ sym (append-nil _))

-- whether a node's stream was opened, by its part
pub open_there : (chip : Chip) (name : ℕ) (part : Part) → part_of chip name ≡ Some part
    → is_open chip name ≡ part.opened
open_there chip name part there = ap (λ found. option_map_or (λ p. p.opened) found false) there

abbrev pub fed_moves : List Move → List ℕ
fed_moves ms = flat_map (λ move. input_by move.asked) ms

fed_once : (chip : Chip) (event : Event) (d : Does chip event)
    → fed_moves (move_in chip event) ≡ input_by d.asked
fed_once chip event d = ap fed_moves d.makes ∙ by d.outcome refl
  where
    by : (o : Outcome) → d.outcome ≡ o → fed_moves (if_moved d.outcome (record {
      node = d.name;
      asked = d.asked;
      found = d.found;
      picked = picked_by (need_of d.part.state) d.side;
    })) ≡ input_by d.asked
    by Moved e = rw e (append-nil _)
    by Waits e = rw e (sym (d.quiet (λ g. cc)).feeds)
    by Held e = rw e (sym (d.quiet (λ g. cc)).feeds)
    by Stopped e = rw e (sym (d.quiet (λ g. cc)).feeds)

pub fed_event : (chip : Chip) (event : Event) (name : ℕ) (part now : Part) → IsLegal chip
    → part_of chip name ≡ Some part → part_of (happened chip event) name ≡ Some now
    → words_left part.stream ++ piece_of part.opened name event
    ≡ fed_moves (moves_of name (move_in chip event)) ++ words_left now.stream
fed_event chip event name part now legal there there' = by (does chip event)
  where
    same_stream : now ≡ part → moves_of name (move_in chip event) ≡ []
        → piece_of part.opened name event ≡ [] → words_left part.stream ++ piece_of part.opened name
        event ≡ fed_moves (moves_of name (move_in chip event)) ++ words_left now.stream
    same_stream e f g =
        ap (λ l. words_left part.stream ++ l) g ∙ append-nil _
        ∙ ap (λ p. words_left p.stream) (sym e)
        ∙ ap (λ ms. fed_moves ms ++ words_left now.stream) (sym f)

    by_name : (d : Does chip event) → (d.name ≡ name) ⊎ (d.name ≡ name → ⊥)
        → words_left part.stream ++ piece_of part.opened name event
        ≡ fed_moves (moves_of name (move_in chip event)) ++ words_left now.stream
    by_name d (inl e) =
        let old : part ≡ d.part =
        same_Some part d.part (sym there ∙ ap (part_of chip) (sym e) ∙ d.there) in
        let new : now ≡ d.next = same_Some now d.next
        (sym there' ∙ ap (part_of (happened chip event)) (sym e) ∙ part_here chip event d) in
        ap₂ (λ p n. words_left p.stream ++ piece_of p.opened n event) old (sym e) ∙ d.fed
        ∙ ap₂ (λ l p. l ++ words_left p.stream) (sym (fed_once chip event d) ∙ ap fed_moves
        (sym (moves_here chip event d) ∙ ap (λ n. moves_of n (move_in chip event)) e)) (sym new)
    by_name d (inr apart) =
        same_stream (same_Some now part (sym there' ∙ part_else chip event d name legal.parts apart
        ∙ there)) (moves_else chip event d name apart)
        (d.elsewhere part.opened name (λ e. apart (sym e)))

    by : DoesNothing chip event ⊎ Does chip event → words_left part.stream ++ piece_of part.opened
        name event ≡ fed_moves (moves_of name (move_in chip event)) ++ words_left now.stream
    by (inl nothing) =
        same_stream (same_Some now part (sym there' ∙ ap (λ c. part_of c name) nothing.0 ∙ there))
        (ap (moves_of name) nothing.1) (nothing.2 part.opened name part there)
    by (inr d) = by_name d (cases_eq d.name name)

-- no event opens a stream
pub opened_event : (chip : Chip) (event : Event) (name : ℕ) (part now : Part) → IsLegal chip
    → part_of chip name ≡ Some part → part_of (happened chip event) name ≡ Some now
    → now.opened ≡ part.opened
opened_event chip event name part now legal there there' = by (does chip event)
  where
    by_name : (d : Does chip event) → (d.name ≡ name) ⊎ (d.name ≡ name → ⊥)
        → now.opened ≡ part.opened
    by_name d (inl e) =
        let old : part ≡ d.part =
        same_Some part d.part (sym there ∙ ap (part_of chip) (sym e) ∙ d.there) in
        let new : now ≡ d.next = same_Some now d.next
        (sym there' ∙ ap (part_of (happened chip event)) (sym e) ∙ part_here chip event d) in
        ap (λ p. p.opened) new ∙ d.opens ∙ ap (λ p. p.opened) (sym old)
    by_name d (inr apart) =
        ap (λ p. p.opened)
        (same_Some now part (sym there' ∙ part_else chip event d name legal.parts apart ∙ there))

    by : DoesNothing chip event ⊎ Does chip event → now.opened ≡ part.opened
    by (inl nothing) =
        ap (λ p. p.opened)
        (same_Some now part (sym there' ∙ ap (λ c. part_of c name) nothing.0 ∙ there))
    by (inr d) = by_name d (cases_eq d.name name)

pub fed_ran : (chip : Chip) (events : List Event) (name : ℕ) (part now : Part) → IsLegal chip
    → part_of chip name ≡ Some part → part_of (ran chip events) name ≡ Some now
    → words_left part.stream ++ pieces part.opened name events
    ≡ fed_moves (moves_of name (moves chip events)) ++ words_left now.stream
fed_ran chip [] name part now legal there there' =
    append-nil _ ∙ ap (λ p. words_left p.stream) (same_Some part now (sym there ∙ there'))
fed_ran chip (event ∷ events) name part now legal there there' =
    let next =
    part_first (happened chip event) events name now (legal_kept chip event legal) there' in
    sym (append_assoc (words_left part.stream) (piece_of part.opened name event)
    (pieces part.opened name events))
    ∙ ap (λ l. l ++ pieces part.opened name events)
    (fed_event chip event name part next.0 legal there next.1)
    ∙ append_assoc (fed_moves (moves_of name (move_in chip event))) (words_left next.0.stream)
    (pieces part.opened name events)
    ∙ ap (λ opened. fed_moves (moves_of name (move_in chip event))
    ++ (words_left next.0.stream ++ pieces opened name events))
    (sym (opened_event chip event name part next.0 legal there next.1))
    ∙ ap (λ l. fed_moves (moves_of name (move_in chip event)) ++ l) (fed_ran (happened chip event)
    events name next.0 now (legal_kept chip event legal) next.1 there')
    ∙ sym (append_assoc (fed_moves (moves_of name (move_in chip event)))
    (fed_moves (moves_of name (moves (happened chip event) events))) (words_left now.stream))
    ∙ ap (λ l. l ++ words_left now.stream)
    (sym (flat_map-append (λ move. input_by move.asked) (moves_of name (move_in chip event))
    (moves_of name (moves (happened chip event) events))) ∙ ap fed_moves
    (sym (moves_of-append name (move_in chip event) (moves (happened chip event) events))))

-- so over every run
pub streams_go : StreamsGo
streams_go chip events name part now legal there after =
    ap (λ opened. words_left part.stream ++ pieces opened name events)
    (open_there chip name part there) ∙ fed_ran chip events name part now legal there after

-- the word that a move is fed, among the words of the stream
pub record FedNow (chip : Chip) (events : List Event) (name w : ℕ) : Type 0 where
  pub first : Part
  pub there : part_of chip name ≡ Some first
  pub rest : List ℕ
  pub words : words_left first.stream ++ pieces first.opened name events
      ≡ fed_moves (moves_of name (moves chip events)) ++ w ∷ rest

pub fed_now : (chip : Chip) (events : List Event) (name : ℕ) (m : Move) (w : ℕ)
    (a : Makes (ran chip events) name m) → IsLegal chip → m.asked ≡ Feed w
    → FedNow chip events name w
fed_now chip events name m w a legal e =
    let old = part_first chip events name a.part legal a.there in
    let feeds : Feeds (Feed w) a.part.stream = subst (λ q. Feeds q a.part.stream)
    (sym a.asked ∙ e) (feeds_by (need_of a.part.state) a.part.state.node a.part.stream a.side) in
    record {
      first = old.0;
      there = old.1;
      rest = words_left (stream_by (Feed w) a.part.stream);
      words = fed_ran chip events name old.0 a.part legal old.1 a.there
          ∙ ap (λ l. fed_moves (moves_of name (moves chip events)) ++ l) feeds;
    }
