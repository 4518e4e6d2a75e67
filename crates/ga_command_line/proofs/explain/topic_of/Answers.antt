use Rattle.std.proofs.Common.{◌≡◌, ◌∙◌, ℕ, List, None, Some, Option, ap, codes, subst, sym}
use Rattle.std.specs.Prelude.{IfSome, option_map}
use Rattle.clap.specs.Words.{found_of}
use Rattle.clap.proofs.WalkLemmas.{first_value-rows}
use Rattle.ga_explain.specs.declared.topic.Topic.{Topic}
use Rattle.ga_explain.specs.Output.{entry_in}
use Rattle.ga_explain.specs.Table.{entries}
use Rattle.ga_explain.specs.Topic.{Entry, entry_of}
use Rattle.ga_command_line.proofs.explain.topic_of.Goals as goal

pub returns-in_default-clause-topic : goal.returns-in_default-clause-topic
returns-in_default-clause-topic c =
    c.in_default.ensures ∙ first_value-rows (found_of c.args.found.now) (codes "NAME")

-- the topic that was found has the name that was looked for
its_name : (found : Option Topic) (topic : Topic) (name : List ℕ) → found ≡ Some topic
    → IfSome found (λ named. named.name.now ≡ name) → topic.name.now ≡ name
its_name found topic name is same =
    subst (λ (o : Option Topic). IfSome o (λ named. named.name.now ≡ name)) is same

pub returns-in-Some-2-clause-topic : goal.returns-in-Some-2-clause-topic
returns-in-Some-2-clause-topic c =
    ap Some (its_name c.in_ok-topic.field-0 c.in-Some-2.topic c.in-Some.name.now c.in-Some-2.is
    c.in_ok-topic.ensures.name) ∙ c.in-Some.ensures
    ∙ first_value-rows (found_of c.args.found.now) (codes "NAME")

-- a name that isn't found is no topic's, whatever is looked up
no_topic : (lookup : List ℕ → Option Entry) (topic : Option Topic) (name : List ℕ)
    → option_map (λ named. named.name.now) topic ≡ Some name
    → IfSome topic (λ named. lookup named.name.now ≡ Some (entry_of named)) → None ≡ lookup name → ⊥
no_topic lookup None name e of_table none = absurd (cc)
no_topic lookup (Some topic) name e of_table none =
    let same : topic.name.now ≡ name = cc in
    let there : None ≡ Some (entry_of topic) = none ∙ ap lookup (sym same) ∙ of_table in
    cc

pub returns-in-None-clause-right : goal.returns-in-None-clause-right
returns-in-None-clause-right c = λ topic of_table at.
    absurd (no_topic (entry_in entries) topic c.in-Some.name.now (at ∙ sym
    (first_value-rows (found_of c.args.found.now) (codes "NAME")) ∙ sym c.in-Some.ensures) of_table
    (sym (ap (option_map entry_of) c.in-None.is) ∙ c.in_ok-topic.ensures.entry))
