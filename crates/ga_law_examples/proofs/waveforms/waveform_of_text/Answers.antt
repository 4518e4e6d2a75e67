use Rattle.std.proofs.Common.{◌<◌, ◌^◌, arith, string_bytes}
use Rattle.ga_law_examples.proofs.Readable.{readable}
use Rattle.ga_law_examples.proofs.waveforms.waveform_of_text.Goals as goal

pub returns : goal.returns
returns c =
    let small : c.args.turns < 2 ^ 64 = omega arith in
    let has = c.in-Ok.ensures.images in
    readable c.args.source.now c.args.nodes.now c.args.chip c.args.turns
    (string_bytes c.in-Ok-waveform.text) c.in-Ok.images c.declared_identifiers.ensures
    c.reads_back.ensures has (c.label_words.ensures c.args.source.now c.in-Ok.images has) small
    c.in-Ok-waveform.ensures
