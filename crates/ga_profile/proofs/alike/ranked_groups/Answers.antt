use Rattle.std.proofs.Common.{◌≡◌, ◌∙◌, ◌++◌, ap, arith, get_or, map, string_bytes, sym}
use Rattle.std.specs.List.{flat_map, range_with_len}
use Rattle.ga_dump.proofs.Lines.{next_line}
use Rattle.ga_profile.specs.Alike.{group_at, group_if}
use Rattle.ga_profile.proofs.alike.ranked_groups.Goals as goal

pub loop-rank-preserved : goal.loop-rank-preserved
loop-rank-preserved c =
    let codes = map string_bytes c.args.codes.now in
    let paths = c.args.paths.now in
    let turns = c.args.turns.now in
    let rank = c.loop-rank.rank in
    let found = c.loop-rank.found.items in
    c.in_ok-push_group_if.ensures
    ∙ ap (λ kind. found ++ group_if codes paths kind (get_or turns kind 0))
    c.ranked-kind.ensures.value
    ∙ ap (λ all. all ++ group_at codes paths turns rank) c.loop-rank.invariant
    ∙ sym (next_line (group_at codes paths turns) rank)

pub returns : goal.returns
returns c =
    let line = group_at (map string_bytes c.args.codes.now) c.args.paths.now c.args.turns.now in
    let all : c.loop-rank.rank ≡ 10 = omega arith in
    c.loop-rank.invariant ∙ ap (λ count. flat_map line (range_with_len 0 count)) all
