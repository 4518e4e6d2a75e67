use Rattle.std.proofs.Common.{◌∙◌, ap, map}
use Rattle.serde_json.proofs.Views.{view-Array}
use Rattle.serde_json.specs.Data.{array}
use Rattle.serde_json.specs.View.{items_of, view}
use Rattle.ga_json.proofs.Arrays.{value_more, values_all}
use Rattle.ga_json.specs.Profile.{name_data, stuck_data}
use Rattle.ga_json.proofs.profile.stuck_value.Goals as goal

pub loop-node-preserved : goal.loop-node-preserved
loop-node-preserved c =
    value_more view name_data c.loop-node.names.items c.push.new.self.items
    c.deref-node-items.result.now c.loop-node.node-index c.node-item.result
    c.in_ok-name_value.field-0 c.loop-node-test.true c.in_ok-push.ensures.items
    (c.in_ok-name_value.ensures ∙ ap name_data c.node-item.is) c.loop-node.invariant

pub returns : goal.returns
unfolding stuck_data
returns c =
    view-Array c.loop-node.names
    ∙ ap (λ all. array (items_of all))
    (values_all name_data (map view c.loop-node.names.items) c.deref-node-items.result.now
    c.loop-node.node-index c.loop-node-test.false c.loop-node.invariant
    ∙ ap (map name_data) (c.deref-node-items.ensures.value ∙ c.in_ok-nodes.ensures))
