use Rattle.std.proofs.Common.{◌≡◌, vec_len}
use Rattle.ga_word.specs.Text.{tokens, words_from, words_of_text}
use Rattle.ga_word.proofs.TextLists.{with_front}
use Rattle.ga_word.proofs.text.read_words.Given as goal

abbrev pub invariant-loop-token : goal.invariant-loop-token
invariant-loop-token l =
    with_front l.words.items (words_from (vec_len l.words) (tokens l.token-iterator.text.now))
    ≡ words_of_text l.text
