use Rattle.std.proofs.Common.{◌∙◌, ◌++◌, ◌%◌, append_assoc, ap, codes, string_bytes, sym}
use Rattle.ga_word.specs.Hex.{hex_digits}
use Rattle.ga_asm.specs.Image.{image_of}
use Rattle.ga_waits.specs.Label.{images_in, label_in}
use Rattle.ga_trace.specs.Depth.{passed_text}
use Rattle.ga_trace.proofs.depth.push_passed.Goals as goal

pub returns : goal.returns
returns c =
    let images = images_in c.args.images in
    let image = image_of images c.args.node in
    let front = codes ", passed at " ++ hex_digits 3 (c.in-Some.address % 0x400) in
    let label = label_in image c.locate.result in
    c.in_ok-push_label.ensures ∙ ap (λ text. text ++ label)
    (c.in_ok-write.ensures.bytes ∙ ap (λ number. string_bytes c.args.text.now
    ++ (codes ", passed at " ++ hex_digits 3 number)) c.new-shown.ensures)
    ∙ append_assoc (string_bytes c.args.text.now) front label
    ∙ ap (λ at. string_bytes c.args.text.now ++ (front ++ label_in image at)) c.locate.ensures
    ∙ ap (λ passed. string_bytes c.args.text.now ++ passed_text images c.args.node passed)
    (sym c.in-Some.is)
