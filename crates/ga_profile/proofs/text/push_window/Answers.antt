use Rattle.std.proofs.Common.{◌∙◌, ◌++◌, append_assoc, ap, codes, string_bytes}
use Rattle.std.specs.Fmt.{decimal}
use Rattle.ga_profile.proofs.text.push_window.Goals as goal

pub returns : goal.returns
returns c =
    let behind = codes " from turn " ++ decimal c.args.window.first ++ codes " on\n" in
    let old = string_bytes c.args.text.now in
    c.in_ok-writeln.ensures.bytes ∙ ap (λ text. text ++ behind) c.in_ok-write.ensures.bytes
    ∙ append_assoc old (decimal c.length-turns.result ++ codes " turns") behind
    ∙ ap (λ turns. old ++ (decimal turns ++ codes " turns" ++ behind)) c.length-turns.ensures
