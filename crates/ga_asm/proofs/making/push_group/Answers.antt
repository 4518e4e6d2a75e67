use Rattle.std.proofs.Common.{◌≡◌, ◌∙◌, ◌++◌, ℕ, List, ap, subst, sym, true}
use Rattle.ga_pack.specs.Model.Layout.{Alone, GroupWords, is_loose}
use Rattle.ga_pack.specs.Model.Source.{is_item}
use Rattle.ga_source.specs.Item.{item_of}
use Rattle.ga_asm.specs.Image.{labels_of}
use Rattle.ga_asm.proofs.MakingSteps.{alone_more, group_alone, group_shared, group_some, on_ok, shared_more}
use Rattle.ga_asm.proofs.making.push_group.Goals as goal

pub bounds-items-0 : goal.bounds-items-0
bounds-items-0 c = group_some (labels_of c.args.labels.now.entries) c.args.items.now c.requires

pub shared_word-requires-clause-few : goal.shared_word-requires-clause-few
shared_word-requires-clause-few c =
    (group_shared (labels_of c.args.labels.now.entries) c.args.items.now c.index-items-0.result
    c.requires (ap (λ t. is_loose (item_of t)) (sym c.index-items-0.is) ∙ sym c.is_loose.ensures
    ∙ c.if-is_loose.true)).0

pub shared_word-requires-clause-packable : goal.shared_word-requires-clause-packable
shared_word-requires-clause-packable c =
    (group_shared (labels_of c.args.labels.now.entries) c.args.items.now c.index-items-0.result
    c.requires (ap (λ t. is_loose (item_of t)) (sym c.index-items-0.is) ∙ sym c.is_loose.ensures
    ∙ c.if-is_loose.true)).1

pub push_alone-requires-clause-right : goal.push_alone-requires-clause-right
push_alone-requires-clause-right c =
    subst (λ t. is_item (item_of t) ≡ true) (sym c.index-items-0.is)
    (group_alone (labels_of c.args.labels.now.entries) c.args.items.now c.index-items-0.result
    c.requires (ap (λ t. is_loose (item_of t)) (sym c.index-items-0.is) ∙ sym c.is_loose.ensures
    ∙ c.if-is_loose.false))

pub push_alone-requires-clause-alone : goal.push_alone-requires-clause-alone
push_alone-requires-clause-alone c = sym c.is_loose.ensures ∙ c.if-is_loose.false

pub returns-in_ok-push-clause-ok : goal.returns-in_ok-push-clause-ok
returns-in_ok-push-clause-ok c =
    let labels = labels_of c.args.labels.now.entries in
    let items = c.args.items.now in
    on_ok c.push_followers.result
    (shared_more labels items c.index-items-0.result c.shared_word.result c.args.words.now.items
    c.push.new.self.items c.push_followers.new.words.items
    (group_some labels items c.requires) (ap (λ t. is_loose (item_of t)) (sym c.index-items-0.is)
    ∙ sym c.is_loose.ensures ∙ c.if-is_loose.true) c.shared_word.ensures c.in_ok-push.ensures.items)
    c.push_followers.ensures.ok

pub returns-else-is_loose-clause-ok : goal.returns-else-is_loose-clause-ok
returns-else-is_loose-clause-ok c =
    let labels = labels_of c.args.labels.now.entries in
    let items = c.args.items.now in
    let words = c.args.words.now.items in
    let more = c.push_alone.new.words.items in
    on_ok c.push_alone.result
    (λ made.
    alone_more labels items c.index-items-0.result words more (group_some labels items c.requires)
    (ap (λ t. is_loose (item_of t)) (sym c.index-items-0.is) ∙ sym c.is_loose.ensures
    ∙ c.if-is_loose.false)
    (subst (λ t. (new : List ℕ) × GroupWords labels (Alone (item_of t)) new
    × (more ≡ words ++ new)) c.index-items-0.is made))
    c.push_alone.ensures.ok
