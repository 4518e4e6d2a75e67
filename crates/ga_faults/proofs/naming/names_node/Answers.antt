use Rattle.std.proofs.Common.{◌≤◌, ◌∙◌, ap, length, sym}
use Rattle.std.specs.Option.{option_map}
use Rattle.ga_source.specs.declared.token.Token.{Token}
use Rattle.ga_faults.specs.Sections.{has_name, is_name}
use Rattle.ga_faults.proofs.NamedNodes.{name_found, name_inside}
use Rattle.ga_faults.proofs.TokensRead.{token_piece}
use Rattle.ga_faults.proofs.naming.names_node.Goals as goal

pub token_text-requires : goal.token_text-requires
token_text-requires c =
    name_inside (λ (t : Token). (t.start ≤ t.end) × (t.end ≤ length c.args.text.now))
    c.args.section c.args.tokens.now c.in-Some.token c.requires.inside (sym c.in-Some.ensures)

pub returns-in-Some : goal.returns-in-Some
returns-in-Some c =
    let text = c.args.text.now in
    c.has_name.ensures ∙ ap (has_name c.args.node) c.token_text.ensures
    ∙ ap (λ found. is_name c.args.node (option_map (token_piece text) found)) c.in-Some.ensures
    ∙ name_found text c.args.tokens.now c.args.section c.args.node c.requires.tokens
    c.requires.slices

pub returns-in-None : goal.returns-in-None
returns-in-None c =
    let text = c.args.text.now in
    ap (λ found. is_name c.args.node (option_map (token_piece text) found)) c.in-None.ensures
    ∙ name_found text c.args.tokens.now c.args.section c.args.node c.requires.tokens
    c.requires.slices
