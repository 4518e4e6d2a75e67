use Rattle.std.proofs.Common.{◌≡◌, ◌∙◌, ◌++◌, ap, arith, string_bytes}
use Rattle.std.specs.List.{flat_map, range_with_len}
use Rattle.ga_profile.specs.Bar.{bar, sign_at, sign_text}
use Rattle.ga_profile.proofs.Writing.{part_more}
use Rattle.ga_profile.proofs.bar.push_bar.Goals as goal

pub loop-column-preserved : goal.loop-column-preserved
loop-column-preserved c =
    let text = string_bytes c.loop-column.text in
    part_more (λ column. sign_text (sign_at c.args.counts.now c.args.turns column))
    c.loop-column.column (string_bytes c.args.text.now) text _ c.loop-column.invariant
    (c.in_ok-push_str.ensures.bytes
    ∙ ap (λ shown. text ++ shown) (c.sign_text.ensures ∙ ap sign_text c.sign_at.ensures))

pub returns : goal.returns
unfolding bar
returns c =
    let all : c.loop-column.column ≡ 24 = omega arith in
    c.loop-column.invariant
    ∙ ap (λ count. string_bytes c.args.text.now
    ++ flat_map (λ column. sign_text (sign_at c.args.counts.now c.args.turns column))
    (range_with_len 0 count)) all
