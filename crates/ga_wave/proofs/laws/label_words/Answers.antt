use Rattle.ga_wave.proofs.LabelWords as proved
use Rattle.ga_wave.proofs.laws.label_words.Goals as goal

pub returns : goal.returns
returns c = proved.labels_words
