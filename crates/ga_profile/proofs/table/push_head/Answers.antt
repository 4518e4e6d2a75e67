use Rattle.std.proofs.Common.{◌∙◌, ◌++◌, append_assoc, ap, codes, string_bytes}
use Rattle.ga_profile.specs.Table.{HEAD}
use Rattle.ga_profile.proofs.table.push_head.Goals as goal

pub returns : goal.returns
unfolding HEAD
returns c =
    let second =
    codes "node work take read rest |-----+-----+-----+------| path   in   out  turns works\n" in
    c.in_ok-push_str-2.ensures.bytes ∙ ap (λ text. text ++ second) c.in_ok-push_str.ensures.bytes
    ∙ append_assoc (string_bytes c.args.text.now)
    (codes "    share of the turns, % 0                    100         words       a pass\n") second
