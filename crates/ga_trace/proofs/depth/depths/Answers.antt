use Rattle.std.proofs.Common.{◌≡◌, ◌∙◌, ap, rules, string_bytes}
use Rattle.ga_chip.specs.Chip.{Chip, state_of}
use Rattle.ga_waits.specs.Label.{images_in}
use Rattle.ga_trace.specs.Depth.{BOTH_EMPTY, deep_from, depth_behind, depth_text, has_made, steps_made}
use Rattle.ga_trace.proofs.depth.depths.Goals as goal

pub returns : goal.returns
unfolding depth_text
returns c =
    let images = images_in c.args.images in
    let here = c.args.here.now in
    let node = c.args.node in
    let depths = c.deepest-depths.result in
    let chip = c.deepest-depths.new.chip in
    let steps : c.steps.result ≡ steps_made (state_of here node) =
    c.steps.ensures ∙ ap steps_made c.state.ensures in
    let made : (depths, chip)
    ≡ deep_from 1000000 0 0 (has_made (steps_made (state_of here node))) node BOTH_EMPTY
    c.args.start.now =
    c.deepest-depths.ensures
    ∙ ap (λ n. deep_from 1000000 0 0 (has_made n) node BOTH_EMPTY c.in_ok-chip.chip) steps
    ∙ ap (λ (start : Chip). deep_from 1000000 0 0 (has_made (steps_made (state_of here node))) node
    BOTH_EMPTY start) c.in_ok-chip.ensures in
    let shown : string_bytes c.push_remark.new.text ≡ depth_behind images node here (depths, chip) =
    search rules in
    shown ∙ ap (depth_behind images node here) made
