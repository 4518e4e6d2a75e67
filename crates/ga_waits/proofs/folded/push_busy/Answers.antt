use Rattle.std.proofs.Common.{◌≡◌, ◌∙◌, ◌++◌, ap, arith, string_bytes}
use Rattle.std.specs.List.{flat_map, range_with_len}
use Rattle.ga_place.specs.Cell.{name_at}
use Rattle.ga_waits.specs.Label.{images_in}
use Rattle.ga_waits.specs.Folded.{all_busy_lines, busy_lines}
use Rattle.ga_waits.specs.Waits.{text_of}
use Rattle.ga_waits.proofs.Writing.{lines_more}
use Rattle.ga_waits.proofs.folded.push_busy.Goals as goal

pub loop-index-preserved : goal.loop-index-preserved
loop-index-preserved c =
    let images = images_in c.args.images in
    let chip = c.args.chip.now in
    let text = string_bytes c.loop-index.text in
    lines_more (λ index. busy_lines images chip (name_at index)) c.loop-index.index
    (string_bytes c.args.text.now) text _ c.loop-index.invariant
    (c.in_ok-push_busy_line.ensures
    ∙ ap (λ name. text ++ text_of (busy_lines images chip name)) c.at.ensures)

pub returns : goal.returns
unfolding all_busy_lines
returns c =
    let images = images_in c.args.images in
    let chip = c.args.chip.now in
    let all : c.loop-index.index ≡ 144 = omega arith in
    c.loop-index.invariant
    ∙ ap (λ count. string_bytes c.args.text.now ++ text_of (flat_map (λ index. busy_lines images
    chip (name_at index)) (range_with_len 0 count))) all
