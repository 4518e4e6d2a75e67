-- Bodies without an `end`, and bodies that are defined, each worked out by hand.
use Rattle.std.proofs.Common.{◌≡◌, [], ◌∷◌, None, Some, refl}
use Rattle.std.specs.Prelude.{codes}
use Rattle.ga_pack.specs.Model.Text.{lexemes, texts_of}
use Rattle.ga_expand.specs.declared.error.ExpandErrorKind.TheVariants.{OpenDefinition, ReservedName, UnknownBody}
use Rattle.ga_hints.specs.Bodies.{bodies_of}
use Rattle.ga_hints.specs.Hints.{OpenBody, open_body_hint}
use Rattle.ga_hints.specs.Names.{bodies_before_open, defined_constants, names_for_expand, names_from}

-- a body reaches up to the next `body`
two : bodies_of (texts_of (codes "const A 5\nbody S dup end\nbody T drop end\nnode 1"))
    ≡ (codes "S" ∷ codes "dup" ∷ codes "end" ∷ [])
    ∷ (codes "T" ∷ codes "drop" ∷ codes "end" ∷ codes "node" ∷ codes "1" ∷ []) ∷ []
unfolding texts_of lexemes
two = refl

-- a `body` is in S, in front of the `end` that T has
swallowed : open_body_hint UnknownBody
    (texts_of (codes "body R . end\nbody S dup\nbody T drop end\nnode 1 use T"))
    (texts_of (codes "body R . end\nbody S dup\nbody T drop end\nnode 1 use"))
    ≡ Some (OpenBody (codes "S"))
unfolding names_from texts_of lexemes
swallowed = refl

-- no `end` is behind S
no_end : open_body_hint UnknownBody (texts_of (codes "body S 5\nnode 1 use T"))
    (texts_of (codes "body S 5\nnode 1 use")) ≡ Some (OpenBody (codes "S"))
unfolding names_from texts_of lexemes
no_end = refl

-- the `end` of S is behind the fault
ended : open_body_hint UnknownBody (texts_of (codes "body S node 1 use T end"))
    (texts_of (codes "body S node 1 use")) ≡ None
unfolding names_from texts_of lexemes
ended = refl

-- T has no `end`, but is behind the fault
behind : open_body_hint UnknownBody (texts_of (codes "body S use U end body T 5"))
    (texts_of (codes "body S use")) ≡ None
unfolding names_from texts_of lexemes
behind = refl

-- the definition that isn't complete is a body
not_complete : open_body_hint OpenDefinition (texts_of (codes "body S 5 end\nbody T 5\nnode 1 ."))
    (texts_of (codes "body S 5 end")) ≡ Some (OpenBody (codes "T"))
unfolding names_from texts_of lexemes
not_complete = refl

-- a fault of another kind has other reasons
reserved : open_body_hint ReservedName (texts_of (codes "body S node")) (texts_of (codes "body S"))
    ≡ None
unfolding texts_of lexemes
reserved = refl

-- what is being defined isn't defined yet
constants : defined_constants (texts_of (codes "const SIZE 5\nconst COUNT"))
    ≡ codes "SIZE" ∷ []
unfolding names_from texts_of lexemes
constants = refl

bodies : bodies_before_open (texts_of (codes "body SEND dup end\nbody STAGE use"))
    ≡ codes "SEND" ∷ []
unfolding names_from texts_of lexemes
bodies = refl

-- it isn't meant as another one either
not_another : names_for_expand UnknownBody
    (texts_of (codes "body SENT dup end\nbody SEND dup\nnode 1 use")) (codes "SEND") ≡ []
unfolding names_from texts_of lexemes
not_another = refl
