-- Tries feed nothing to any stream: so two lists of tries feed each stream alike.
use Rattle.std.proofs.Common.{◌≡◌, ◌∙◌, ℕ, List, [], append-nil, inl, sym}
use Rattle.ga_chip.specs.declared.outcome.Try.{Try}
use Rattle.ga_chip.specs.Chip.{Chip}
use Rattle.ga_chip.specs.Joining.{TriesFeedNothing}
use Rattle.ga_chip.specs.Laws.{AgreesWith}
use Rattle.ga_chip.specs.Run.{tries_of, words_fed}

pub fed_alike : TriesFeedNothing → (one two : Chip) (tries others : List Try) (name : ℕ)
    → words_fed one (tries_of tries) name ≡ words_fed two (tries_of others) name
fed_alike unfed one two tries others name = unfed one tries name ∙ sym (unfed two others name)

pub fed_agree : TriesFeedNothing → (one two : Chip) (tries others : List Try) (name : ℕ)
    → AgreesWith (words_fed one (tries_of tries) name) (words_fed two (tries_of others) name)
fed_agree unfed one two tries others name =
    inl ([], fed_alike unfed two one others tries name ∙ sym (append-nil _))
