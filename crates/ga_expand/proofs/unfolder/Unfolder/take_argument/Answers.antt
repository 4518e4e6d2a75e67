use Rattle.std.proofs.Common.{◌≡◌, ◌∙◌, ◌++◌, ◌∷◌, [], List, Ok, Result, ap, map, subst, sym, true}
use Rattle.std.proofs.lemmas.List.{map-append}
use Rattle.ga_source.specs.Token.{place_of}
use Rattle.ga_expand.specs.declared.error.ExpandErrorKind.TheVariants.{OpenDefinition}
use Rattle.ga_expand.specs.Bodies.{Part, Unfolding, failed, is_argument, missing, part_at, read_at}
use Rattle.ga_expand.specs.Error.{Fault}
use Rattle.ga_expand.specs.inner.Bodies.{Read, part_in, reading_in, state_of}
use Rattle.ga_expand.specs.inner.Piece.{piece_in}
use Rattle.ga_expand.proofs.Lists.{argument_taken, other_reading}
use Rattle.ga_expand.proofs.unfolder.Unfolder.take_argument.Goals as goal

pub returns : goal.returns
unfolding read_at
returns c =
    let self = c.args.self.now in
    let now = state_of self in
    let piece = piece_in c.args.piece in
    let place = place_of c.args.start in
    let parts = map part_in self.used.items in
    let old = map part_in self.arguments.items in
    let new = map part_in c.push.new.self.items in
    let more : new ≡ old ++ part_at now piece ∷ [] =
    ap (map part_in) c.in_ok-push.ensures.items
    ∙ map-append part_in self.arguments.items (c.part_at-part.result ∷ [])
    ∙ ap (λ (one : Part). old ++ one ∷ []) c.part_at-part.ensures in
    let after : Result Unfolding Fault =
    Ok (missing now place c.args.more parts (old ++ part_at now piece ∷ [])) in
    let is : is_argument place.line piece ≡ true =
    sym c.is_argument.ensures ∙ c.if-not-is_argument.false in
    subst (λ answer. Read c.await_arguments.new.self answer c.await_arguments.result)
    (ap {B = Result Unfolding Fault} Ok
    (other_reading now (reading_in self.used.items c.push.new.self.items self.reading) place
    c.args.more parts new)
    ∙ ap {B = Result Unfolding Fault}
    (λ (ps : List Part). Ok (missing now place c.args.more parts ps)) more
    ∙ sym (argument_taken (is_argument place.line piece) after (failed OpenDefinition place) is))
    c.await_arguments.ensures
