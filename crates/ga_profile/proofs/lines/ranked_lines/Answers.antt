use Rattle.std.proofs.Common.{◌≡◌, ◌∙◌, ◌++◌, ap, arith, get_or, sym}
use Rattle.std.specs.List.{flat_map, range_with_len}
use Rattle.ga_dump.proofs.Lines.{next_line}
use Rattle.ga_profile.specs.Lines.{line_at, line_if, path_lines}
use Rattle.ga_profile.proofs.lines.ranked_lines.Goals as goal

pub loop-rank-preserved : goal.loop-rank-preserved
loop-rank-preserved c =
    let paths = c.args.paths.now in
    let lines = c.args.lines.now in
    let rank = c.loop-rank.rank in
    let found = c.loop-rank.found.items in
    c.in_ok-push_line_if.ensures
    ∙ ap (λ kind. found ++ line_if paths kind (get_or lines kind 0)) c.ranked-kind.ensures.value
    ∙ ap (λ all. all ++ line_at paths lines rank) c.loop-rank.invariant
    ∙ sym (next_line (line_at paths lines) rank)

pub returns : goal.returns
unfolding path_lines
returns c =
    let line = line_at c.args.paths.now c.args.lines.now in
    let all : c.loop-rank.rank ≡ 10 = omega arith in
    c.loop-rank.invariant ∙ ap (λ count. flat_map line (range_with_len 0 count)) all
