use Rattle.std.proofs.Common.{◌≡◌, ◌++◌, [], rules, subst}
use Rattle.std.proofs.lemmas.Option.{IfSome_then}
use Rattle.ga_law_examples.specs.Pieces.{IsFed}
use Rattle.ga_law_examples.proofs.pieces.in_pieces.Goals as goal

pub returns : goal.returns
returns g c =
    let root : c.in_ok-root.root ≡ 708 = search rules in
    let load = c.args.load.items in
    let words = load ++ c.args.start.items in
    let loading = c.in_ok-chip.ensures [] c.in_ok-opened.ensures in
    let released = c.released-chip.ensures _ load (c.in_ok-worked.ensures _ load loading) in
    let starting = c.in_ok-chip-2.ensures load (c.in_ok-worked-2.ensures _ load released) in
    IfSome_then c.worked-3.result c.worked-3.ensures
    (λ last then. subst (λ name. IsFed last name words) root (then _ words starting))
