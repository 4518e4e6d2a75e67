use Rattle.std.proofs.Common.{lit<, rules, ◌≡◌, ◌∙◌, ◌∷◌, ◌++◌, ◌==◌, ◌⊎◌, [], None, ⊎_elim, drop, inl, inr, length, map, option_map, sym, ap, vec_items}
use Rattle.std.specs.List.{slice_split}
use Rattle.std.proofs.lemmas.List.{length_push, map-append}
use Rattle.std.proofs.lemmas.Iterator.Consumers.{YieldsList-end, YieldsList-turn}
use Rattle.std.proofs.lemmas.Iterator.Splits.{YieldsList-from_str_split}
use Rattle.ga_path.specs.Names.{all_nodes_in, lists_in, routes_in}
use Rattle.ga_path.specs.declared.error.NamesError.TheVariants.{Memory}
use Rattle.ga_path.proofs.NamedRoutes.{adds, ends, stops}
use Rattle.ga_path.proofs.names.read_routes.Goals as goal

pub loop-route-preserved : goal.loop-route-preserved
loop-route-preserved c =
    let text = c.args.text.now in
    let texts = slice_split (λ b. b == 47) text in
    let left = drop (length c.loop-route.yielded) texts in
    let turn = YieldsList-turn
    (YieldsList-from_str_split 47 text (lit< tt) (cc) (cc) (cc)) c.loop-route.yielded _
    c.loop-route.yielded_by _ _ c.in-Some.route c.in-Some.is c.next.ensures.steps in
    c.loop-route.invariant
    ∙ adds (lists_in c.loop-route.routes.items) texts
    (length c.loop-route.yielded) _ c.in-Some.route.now c.in_ok-read_nodes.field-0.items turn
    (length_push c.loop-route.yielded c.in-Some.route) c.in_ok-read_nodes.ensures.nodes
    ∙ ap (λ front. option_map (λ more. front ++ more)
    (all_nodes_in (drop (length (c.loop-route.yielded ++ c.in-Some.route ∷ [])) texts)))
    (sym (ap (map vec_items) c.in_ok-push.ensures.items
    ∙ map-append vec_items c.loop-route.routes.items (c.in_ok-read_nodes.field-0 ∷ [])))

pub returns-in_err-read_nodes-clause-bad : goal.returns-in_err-read_nodes-clause-bad
returns-in_err-read_nodes-clause-bad c =
    let text = c.args.text.now in
    let texts = slice_split (λ b. b == 47) text in
    let turn = YieldsList-turn
    (YieldsList-from_str_split 47 text (lit< tt) (cc) (cc) (cc)) c.loop-route.yielded _
    c.loop-route.yielded_by _ _ c.in-Some.route c.in-Some.is c.next.ensures.steps in
    let bad : (c.in_err-read_nodes.field-0.0 ≡ Memory) ⊎ (routes_in text ≡ None) =
    ⊎_elim inl
    (λ none. inr (c.loop-route.invariant ∙ stops (lists_in c.loop-route.routes.items) texts
    (length c.loop-route.yielded) c.in-Some.route.now turn none)) c.in_err-read_nodes.ensures.bad in
    search rules

pub returns-clause-routes : goal.returns-clause-routes
returns-clause-routes c =
    let text = c.args.text.now in
    let texts = slice_split (λ b. b == 47) text in
    let end = YieldsList-end (YieldsList-from_str_split 47 text (lit< tt) (cc) (cc) (cc))
    c.loop-route.yielded _ c.loop-route.yielded_by _ _ c.in-None.is c.next.ensures.steps in
    c.loop-route.invariant ∙ ends (lists_in c.loop-route.routes.items) texts
    (length c.loop-route.yielded) (search (rules, end.1))
