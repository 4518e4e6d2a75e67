use Rattle.std.proofs.Common.{◌≡◌, ◌++◌, [], ◌∷◌, None, sym, subst, rules}
use Rattle.ga_chip.specs.Legal.{IsLegal}
use Rattle.ga_chip.specs.Run.{Piece, happened}
use Rattle.ga_chip.specs.Stream.{feed_refusal}
use Rattle.ga_law_examples.specs.Pieces.{IsFed}
use Rattle.ga_law_examples.proofs.Fed.{fed_more, piece_fed}
use Rattle.ga_law_examples.proofs.pieces.fed.Goals as goal

pub returns-in-Ok : goal.returns-in-Ok
returns-in-Ok c = λ given fed.
    let chip = c.args.chip in
    let root = c.args.root in
    let words = c.args.words.items in
    let runs = c.runs.ensures in
    let accepted : feed_refusal chip root ≡ None = search rules in
    let leads : c.feed.new.self ≡ happened chip (Piece root words) = search rules in
    let legal = subst IsLegal (sym fed.leads) (runs.legal fed.first fed.events fed.legal) in
    let more = piece_fed chip root words legal c.requires accepted in
    subst (λ next. IsFed next root (given ++ words)) (sym leads)
    (fed_more runs.joined chip root given words (Piece root words ∷ []) fed more)
