use Rattle.std.proofs.Common.{◌≡◌, ◌∙◌, Bor, List, [], ap, get_or, map, refl, true, ℕ}
use Rattle.std.specs.List.{list_all}
use Rattle.std.specs.Option.{is_some}
use Rattle.std.proofs.lemmas.List.{take_all}
use Rattle.ga_place.specs.Node.{node_named}
use Rattle.ga_source.specs.Token.{place_of}
use Rattle.ga_expand.specs.NodeLists.{name_at}
use Rattle.ga_expand.specs.inner.Bodies.{texts_in}
use Rattle.ga_expand.proofs.Copies.{names_all, node_token}
use Rattle.ga_expand.proofs.Tokens.{all_at}
use Rattle.ga_expand.proofs.node_lists.names_of.Goals as goal

pub invariant_of-push : goal.invariant_of-push
invariant_of-push c =
    let texts = c.deref-text-items.result.now in
    let index = c.loop-text.text-index in
    let none : Bor (List ℕ) = record { ref_ptr = (0, 0); now = [] } in
    let one = get_or texts index none in
    let all : list_all (λ name. is_some (node_named name)) (texts_in texts) ≡ true =
    ap (list_all (λ name. is_some (node_named name)))
    (ap texts_in c.deref-text-items.ensures.value ∙ c.in_ok-texts.ensures) ∙ c.requires in
    record {
      token = node_token one.now (all_at (λ (t : Bor (List ℕ)). t.now) texts index one none
          c.loop-text-test.true refl (λ name. is_some (node_named name)) all);
    }

pub returns : goal.returns
returns c =
    let texts = c.deref-text-items.result.now in
    let place = place_of c.args.list.place in
    c.loop-text.invariant
    ∙ ap (map (λ (t : Bor (List ℕ)). name_at place t.now))
    (take_all c.loop-text.text-index texts c.loop-text-test.false)
    ∙ names_all place texts
    ∙ ap (map (name_at place))
    (ap texts_in c.deref-text-items.ensures.value ∙ c.in_ok-texts.ensures)
