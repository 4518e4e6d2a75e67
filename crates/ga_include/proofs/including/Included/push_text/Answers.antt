use Rattle.std.proofs.Common.{◌≡◌, ◌∙◌, ◌+◌, ◌++◌, ◌∷◌, [], ap, length, append_assoc, length-append, rules, string_bytes}
use Rattle.ga_include.specs.Including.{whole_of}
use Rattle.ga_include.proofs.Adding.{line_added, line_too_large}
use Rattle.ga_include.proofs.including.Included.push_text.Goals as goal

pub returns-then-not-has_room-clause-trouble : goal.returns-then-not-has_room-clause-trouble
returns-then-not-has_room-clause-trouble c =
    let text = c.args.line.now ++ c.args.end.now in
    let failed = line_too_large (whole_of c.args.self.now) c.args.origin text
    (length c.args.line.now + length c.args.end.now)
    (length-append c.args.line.now c.args.end.now) (search rules) in
    rw c.fault.ensures failed

pub returns-clause-added : goal.returns-clause-added
returns-clause-added c =
    let text = c.args.line.now ++ c.args.end.now in
    let added = line_added (whole_of c.args.self.now) c.args.origin text
    (length c.args.line.now + length c.args.end.now)
    (length-append c.args.line.now c.args.end.now) (search rules) in
    let text_is : string_bytes c.push_str-2.new.self ≡ string_bytes c.args.self.now.text ++ text =
    c.in_ok-push_str-2.ensures.bytes ∙ ap (λ l. l ++ c.args.end.now) c.in_ok-push_str.ensures.bytes
    ∙ append_assoc (string_bytes c.args.self.now.text) c.args.line.now c.args.end.now in
    let lines_is : c.push.new.self.items ≡ c.args.self.now.lines.items ++ c.args.origin ∷ [] =
    search rules in
    rw (text_is, lines_is) added
