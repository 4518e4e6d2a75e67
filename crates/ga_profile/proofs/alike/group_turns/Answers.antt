use Rattle.std.proofs.Common.{◌≡◌, ◌∙◌, [], ◌∷◌, ◌++◌, ap, arith, length, map, string_bytes, sym}
use Rattle.std.specs.List.{range_with_len}
use Rattle.std.proofs.lemmas.List.FromFn.{length-map-range_with_len}
use Rattle.ga_profile.specs.Alike.{group_turns, turns_at}
use Rattle.ga_profile.proofs.Writing.{item_more}
use Rattle.ga_profile.proofs.alike.group_turns.Goals as goal

pub loop-kind-preserved : goal.loop-kind-preserved
loop-kind-preserved c =
    let turns = turns_at (map string_bytes c.args.codes.now) c.args.lines.now in
    let kind = c.loop-kind.kind in
    c.in_ok-push.ensures.items
    ∙ ap (λ all. all ++ c.turns_at.result ∷ []) c.loop-kind.invariant
    ∙ ap (λ one. map turns (range_with_len 0 kind) ++ one ∷ []) c.turns_at.ensures
    ∙ sym (item_more turns kind)

pub returns-clause-turns : goal.returns-clause-turns
unfolding group_turns
returns-clause-turns c =
    let turns = turns_at (map string_bytes c.args.codes.now) c.args.lines.now in
    let all : c.loop-kind.kind ≡ 650 = omega arith in
    c.loop-kind.invariant ∙ ap (λ count. map turns (range_with_len 0 count)) all

pub returns-clause-all : goal.returns-clause-all
returns-clause-all c =
    let turns = turns_at (map string_bytes c.args.codes.now) c.args.lines.now in
    let all : c.loop-kind.kind ≡ 650 = omega arith in
    ap length c.loop-kind.invariant ∙ length-map-range_with_len turns 0 c.loop-kind.kind ∙ all
