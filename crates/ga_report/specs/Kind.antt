-- What a node does.
use Rattle.std.specs.Prelude.{ℕ, Bool, true, false, List, [], ◌∷◌, codes}
use Rattle.ga_report.specs.declared.kind.Kind.{Kind}
use Rattle.ga_report.specs.declared.kind.Kind.TheVariants.{Works, AwaitsWord, AwaitsReader, Spins, Stopped, Boots, Idle}

-- all kinds, in the order of the key
abbrev pub KINDS : List Kind
KINDS = Works ∷ AwaitsWord ∷ AwaitsReader ∷ Spins ∷ Stopped ∷ Boots ∷ Idle ∷ []

-- two kinds are one
abbrev pub is_same : Kind → Kind → Bool
is_same Works Works = true
is_same AwaitsWord AwaitsWord = true
is_same AwaitsReader AwaitsReader = true
is_same Spins Spins = true
is_same Stopped Stopped = true
is_same Boots Boots = true
is_same Idle Idle = true
is_same one other = false

-- the class of a kind in the style sheet
abbrev pub class_of : Kind → List ℕ
class_of Works = codes "works"
class_of AwaitsWord = codes "word"
class_of AwaitsReader = codes "reader"
class_of Spins = codes "spins"
class_of Stopped = codes "stopped"
class_of Boots = codes "boots"
class_of Idle = codes "idle"

-- a kind in words
abbrev pub words_of : Kind → List ℕ
words_of Works = codes "works"
words_of AwaitsWord = codes "waits for a word"
words_of AwaitsReader = codes "waits for its word to be read"
words_of Spins = codes "spins"
words_of Stopped = codes "stopped"
words_of Boots = codes "boots"
words_of Idle = codes "idle"
