use Rattle.std.proofs.Common.{Bool, ◌≡◌, ◌∙◌, ◌<◌, ◌≤◌, ◌∷◌, [], ◌+◌, ◌-◌, ℕ, take, length, set, slice_index_or, sym, ap, subst, arith}
use Rattle.std.specs.Prelude.{if◌then◌else◌}
use Rattle.std.proofs.lemmas.List.{length-map, take_all}
use Rattle.std.proofs.lemmas.Option.{slice_get-get_or}
use Rattle.ga_chip.specs.Run.{side_of_turn}
use Rattle.ga_port.specs.Seat.{tried_in}
use Rattle.ga_group.specs.Plan.{first_repeated}
use Rattle.ga_group.specs.inner.Tried.{left}
use Rattle.ga_group.specs.inner.Work.{AreAheadBy, HaveGained, IsAheadBy, names_of}
use Rattle.ga_group.proofs.Ahead.{left_else, left_end, left_here, left_set, within_set}
use Rattle.ga_group.proofs.Counting.{steps_set, sum_same, sum_set}
use Rattle.ga_group.proofs.Gains.{ahead_same, gained_next, lent_set, names_set}
use Rattle.ga_group.proofs.Known.{known_set}
use Rattle.ga_group.proofs.work.work_turn.Goals as goal
use Rattle.ga_group.proofs.work.work_turn.Goals.{then-try_node, else-try_node}

pub try_node-requires-clause-ahead : goal.try_node-requires-clause-ahead
try_node-requires-clause-ahead c =
    let parts = c.loop-index.parts in
    let index = c.loop-index.index in
    let part = slice_index_or parts index c.index-parts-index.result in
    let below : index < length parts = omega arith in
    subst (λ k. IsAheadBy k part c.loop-index.seat.nodes)
    (left_here c.loop-index.until c.args.turn index)
    (c.loop-index.invariant.lent.at index part
    (slice_get-get_or parts index c.index-parts-index.result below))

abbrev count_of : Bool → ℕ
count_of t = if t then 1 else 0

pub loop-index-preserved : goal.loop-index-preserved
loop-index-preserved c =
    let parts = c.loop-index.parts in
    let nodes = c.loop-index.seat.nodes in
    let index = c.loop-index.index in
    let until = c.loop-index.until in
    let turn = c.args.turn in
    let part = slice_index_or parts index c.index-parts-index.result in
    let new = c.try_node.new.part in
    let turned = c.try_node.ensures.turned in
    let below : index < length parts = omega arith in
    let room : index < length until = omega arith in
    let there = slice_get-get_or parts index c.index-parts-index.result below in
    let look = slice_index_or c.loop-index.looks index c.index-looks-index.result in
    let known =
    slice_get-get_or c.loop-index.looks index c.index-looks-index.result (omega arith) in
    let once = ap (first_repeated []) c.loop-index.invariant.names ∙ c.requires.ready.once in
    let b = left (set until index c.try_node.new.until) turn (index + 1) in
    let others = left_else until turn index c.try_node.new.until in
    let was = left_here until turn index in
    let here = left_set until turn index c.try_node.new.until room in
    let steps = steps_set parts index part new there in
    let inside : index < 0 + length c.args.parts.now = omega arith in
    let sums = sum_set (left until turn index) b index 0 (length c.args.parts.now) (omega arith)
    inside others in
    record {
      table = c.try_node.ensures.own ∙ c.loop-index.invariant.table;
      names = names_set parts index part new there c.try_node.ensures.node
          ∙ c.loop-index.invariant.names;
      lent = subst (AreAheadBy b (set parts index new)) (sym turned.1)
          (lent_set parts nodes index part (side_of_turn turn) turned.0 (left until turn index) b
          new c.loop-index.invariant.lent once there others
          (subst (λ k. IsAheadBy k new
          (tried_in nodes (record { node = part.state.node; side = side_of_turn turn }) turned.0))
          (sym here) (subst (IsAheadBy (c.try_node.new.until - (turn + 1)) new) turned.1
          turned.2)));
      gained = subst (λ n. HaveGained c.args.seat.now.nodes n
          (take (index + 1) (names_of c.args.parts.now)) (side_of_turn turn ∷ [])) (sym turned.1)
          (gained_next c.args.seat.now.nodes nodes (names_of c.args.parts.now) parts index part
          (side_of_turn turn) turned.0 (left until turn index) c.loop-index.invariant.names
          c.requires.ready.once c.loop-index.invariant.lent there c.loop-index.invariant.gained);
      known = known_set parts c.loop-index.looks index part new look c.try_node.new.looks
          c.loop-index.invariant.known there known c.try_node.ensures.known;
      within = within_set until index c.try_node.new.until c.args.end room
          c.try_node.ensures.within c.loop-index.invariant.within;
      moved = elim c.if-try_node.branch [
        | then-try_node w ↦
            let one : (if c.try_node.result then 1 else 0) ≡ 1 = ap count_of w.if-try_node.true in
            omega (arith, c.loop-index.invariant.moved, steps, sums, was, here, turned.3, one)
        | else-try_node w ↦
            let none : (if c.try_node.result then 1 else 0) ≡ 0 = ap count_of w.if-try_node.false in
            omega (arith, c.loop-index.invariant.moved, steps, sums, was, here, turned.3, none)
      ];
      few = elim c.if-try_node.branch
          [ then-try_node w ↦ omega arith | else-try_node w ↦ omega arith ];
    }

pub returns-clause-worked : goal.returns-clause-worked
returns-clause-worked c =
    let parts = c.loop-index.parts in
    let names = names_of c.args.parts.now in
    let until = c.loop-index.until in
    let turn = c.args.turn in
    let index = c.loop-index.index in
    let done = c.loop-index.invariant in
    let reached : length parts ≤ index = omega arith in
    let long : length names ≤ index =
    subst (λ n. n ≤ index) (sym (length-map c.args.parts.now (λ part. part.state.node)))
    c.loop-index-test.false in
    let last : (at : ℕ) → at < length parts
    → left until (turn + 1) 0 at ≡ left until turn index at =
    λ at below. let before : at < index = omega (arith, below, reached) in
    left_end until turn index at before in record {
      table = done.table;
      names = done.names;
      lent = ahead_same (left until turn index) (left until (turn + 1) 0) parts
          c.loop-index.seat.nodes last done.lent;
      gained = subst (λ l. HaveGained c.args.seat.now.nodes c.loop-index.seat.nodes l
          (side_of_turn turn ∷ [])) (take_all index names long) done.gained;
    }

pub returns-clause-moved : goal.returns-clause-moved
returns-clause-moved c =
    let count = length c.args.parts.now in
    let until = c.loop-index.until in
    let turn = c.args.turn in
    let index = c.loop-index.index in
    let same = sum_same (left until turn index) (left until (turn + 1) 0) 0 count (λ at low below.
    let before : at < index = omega (arith, below, c.loop-index-test.false) in
    left_end until turn index at before) in
    omega (arith, c.loop-index.invariant.moved, same)
