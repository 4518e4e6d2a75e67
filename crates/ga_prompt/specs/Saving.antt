-- What is saved.
use Rattle.std.specs.Prelude.{◌≡◌, ◌⊎◌, ℕ, Bool, List, [], ◌∷◌, ◌++◌, IfSome, MatchResult, Option, Some, Result, Ok, codes}
use Rattle.ga_transcript.specs.Live.{LiveView}
use Rattle.ga_transcript.specs.Record.{IsRecorded}
use Rattle.ga_prompt.specs.Request.{Request, Save}

-- A text that was saved in the file with a name: a new one, or one that may have been replaced.
pub record SavedFile : Type 0 where
  pub replaces : Bool
  pub name : List ℕ
  pub text : List ℕ

abbrev pub saved_file : Bool → List ℕ → List ℕ → SavedFile
saved_file replaces name text = record { replaces = replaces; name = name; text = text }

-- what was saved, the last one first
abbrev pub Files : Type 0
Files = List SavedFile

-- nothing more was saved, as far as it is known
abbrev pub SavesNone : Option Files → Option Files → Type 0
SavesNone old new = IfSome old (λ files. new ≡ Some files)

-- a file was saved, or nothing after a fault
abbrev pub SavesOne : {E : Type 0} → Option Files → Option Files → SavedFile → Result Unit E
    → Type 0
SavesOne old new file result =
    IfSome old (λ files. MatchResult result
    (λ done. new ≡ Some (file ∷ files)) (λ fault. new ≡ Some files))

abbrev pub saved_text : List ℕ → List ℕ
saved_text name = codes "saved " ++ (name ++ 10 ∷ [])

abbrev pub refused_text : List ℕ → List ℕ
refused_text why = codes "refused " ++ (why ++ 10 ∷ [])

-- What is saved by a request whose reply is a text: the session as `record` writes it, if the reply
-- is that it was saved; else nothing. Only `save!` may replace a file.
abbrev pub IsSaved : LiveView → Request → List ℕ → Option Files → Option Files → Type 0
IsSaved live (Save replaces name) text old new =
    ((text ≡ saved_text name) × IfSome old (λ files. (recording : List ℕ)
    × IsRecorded (live.text ++ 10 ∷ []) (Ok recording)
    × (new ≡ Some (saved_file replaces name recording ∷ files))))
    ⊎ (((why : List ℕ) × (text ≡ refused_text why)) × SavesNone old new)
IsSaved live request text old new = SavesNone old new
