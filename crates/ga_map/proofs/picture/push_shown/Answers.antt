use Rattle.std.proofs.Common.{◌∙◌, ◌++◌, ap, string_bytes}
use Rattle.std.proofs.lemmas.Str.Ascii.{trim_ascii_end_is}
use Rattle.ga_map.specs.Picture.{line_of, shown_line}
use Rattle.ga_map.proofs.picture.push_shown.Goals as goal

pub returns : goal.returns
unfolding shown_line
returns c =
    c.in_ok-push_line.ensures
    ∙ ap (λ kept. string_bytes c.args.text.now ++ line_of kept)
    (trim_ascii_end_is c.args.line.now c.trim_ascii_end.result.now c.trim_ascii_end.ensures.value)
