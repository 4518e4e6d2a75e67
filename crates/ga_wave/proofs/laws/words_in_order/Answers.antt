use Rattle.ga_wave.proofs.WordsInOrder as proved
use Rattle.ga_wave.proofs.laws.words_in_order.Goals as goal

pub returns : goal.returns
returns c = proved.words_in_order c.steps.ensures.events c.steps.ensures.next
