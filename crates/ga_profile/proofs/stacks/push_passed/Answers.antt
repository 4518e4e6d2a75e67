use Rattle.std.proofs.Common.{◌∙◌, ◌++◌, ◌%◌, append_assoc, ap, codes, string_bytes}
use Rattle.ga_word.specs.Hex.{hex_digits}
use Rattle.ga_asm.specs.Image.{image_of}
use Rattle.ga_waits.specs.Label.{images_in, label_in}
use Rattle.ga_profile.proofs.stacks.push_passed.Goals as goal

pub returns : goal.returns
returns c =
    let image = image_of (images_in c.args.images) c.args.node in
    let old = string_bytes c.args.text.now in
    let front = codes ", passed at " ++ hex_digits 3 (c.args.address % 0x400) in
    let label = label_in image c.locate.result in
    c.in_ok-push_label.ensures ∙ ap (λ text. text ++ label)
    (c.in_ok-write.ensures.bytes
    ∙ ap (λ number. old ++ (codes ", passed at " ++ hex_digits 3 number)) c.new-shown.ensures)
    ∙ append_assoc old front label
    ∙ ap (λ at. old ++ (front ++ label_in image at)) c.locate.ensures
