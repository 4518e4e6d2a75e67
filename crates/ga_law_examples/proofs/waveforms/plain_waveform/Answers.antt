use Rattle.ga_law_examples.proofs.Written.{nodes_are_apart, unwritten_is_kept, written_are_posted}
use Rattle.ga_law_examples.proofs.waveforms.plain_waveform.Goals as goal

pub returns : goal.returns
returns c = record {
  text = c.waveform.ensures;
  kept = unwritten_is_kept c.args.chip c.last_values.ensures;
  apart = nodes_are_apart c.identifiers.ensures;
  posted = written_are_posted c.args.chip c.legal.ensures c.words_in_order.ensures;
}
