use Rattle.std.proofs.Common.{◌∙◌, ap, subst}
use Rattle.ga_port.specs.Cells.{IsEnd}
use Rattle.ga_port.proofs.Ends.{final_count, final_ends, final_words}
use Rattle.ga_port.proofs.cells.Cells.close.Goals as goal

pub words_back-words-requires-clause-held : goal.words_back-words-requires-clause-held
words_back-words-requires-clause-held c = final_words _ _ _ _ _ c.close_with-closed.ensures.values.2

pub new-requires : goal.new-requires
new-requires c =
    final_count _ _ _ _ _ _ c.close_with-closed.ensures.values.2 c.words_back-words.ensures

pub returns : goal.returns
returns c =
    let final = c.close_with-closed.ensures.values.2 in
    let tries = final.1.0.0 in
    let ends = final_ends _ _ _ _ _ _ final (c.new.ensures ∙ c.words_back-words.ensures) in (
      tries,
      subst (λ chip. IsEnd chip c.args.seat.nodes c.new.result tries)
          (ap (λ z. z.opening) c.self.view_is) (subst (λ nodes. IsEnd c.self.inside.table.shared.key
          nodes c.new.result tries) (ap (λ z. z.nodes) c.seat.view_is) ends),
    )
