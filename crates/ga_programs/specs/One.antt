-- The job `one`: what it writes.
use Rattle.std.specs.Prelude.{ℕ, List, Result, Ok}
use Rattle.ga_node.specs.State.{loaded_state}
use Rattle.ga_node.specs.Slot.{after_tries}
use Rattle.ga_node.specs.Line.{line_of}
use Rattle.ga_input.specs.declared.fault.ServeError.{ServeError}
use Rattle.ga_input.specs.Text.{and_then, words_in}

-- the line of node 000 with words in its memory and P 000, after n tries
unfoldable pub one_text : ℕ → List ℕ → List ℕ
one_text tries words = line_of (after_tries tries (loaded_state 0 words 0))

-- what `one` writes for an input, or its first fault
abbrev pub one_output : ℕ → List ℕ → Result (List ℕ) ServeError
one_output tries input = and_then (λ words. Ok (one_text tries words)) (words_in input)
