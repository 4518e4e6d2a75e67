use Rattle.std.proofs.Common.{◌∙◌, ◌++◌, ap, map, string_bytes}
use Rattle.ga_chip.specs.Run.{side_of_turn}
use Rattle.ga_waits.specs.Label.{images_in}
use Rattle.ga_trace.specs.Traced.{turned}
use Rattle.ga_wave.specs.Wave.{turn_block}
use Rattle.ga_wave.specs.inner.Traced.{next_traced, traced_changes}
use Rattle.ga_wave.proofs.Turning.{changes, turn_more}
use Rattle.ga_wave.proofs.tracer.Tracer.push_turn.Goals as goal

pub returns-clause-text : goal.returns-clause-text
returns-clause-text c = λ start names before.
    let images = images_in c.args.images in
    let turn = c.args.turn in
    let side = side_of_turn turn in
    let behind = turned turn c.args.self.now.chip in
    let old = string_bytes c.args.text.now in
    c.in_ok-self.ensures.text
    ∙ ap (λ t. old ++ turn_block turn (traced_changes images side behind t)) c.deref.ensures.value
    ∙ ap (λ t. old ++ t) (changes images names start turn c.args.self.now before)

pub returns-clause-goes_on : goal.returns-clause-goes_on
returns-clause-goes_on c = λ start names before.
    let turn = c.args.turn in
    turn_more names start turn c.args.self.now _ before c.in_ok-self.ensures.chip
    (c.in_ok-self.ensures.traced
    ∙ ap (map (next_traced (side_of_turn turn) (turned turn c.args.self.now.chip)))
    c.deref.ensures.value)
