use Rattle.std.proofs.Common.{◌∙◌, ap, map}
use Rattle.serde_json.proofs.Views.{view-Array}
use Rattle.serde_json.specs.Data.{array}
use Rattle.serde_json.specs.View.{items_of, view}
use Rattle.ga_json.proofs.Arrays.{value_more, values_all}
use Rattle.ga_json.specs.Profile.{line_data, lines_data}
use Rattle.ga_json.proofs.profile.lines_value.Goals as goal

pub loop-line-preserved : goal.loop-line-preserved
loop-line-preserved c =
    value_more view line_data c.loop-line.values.items c.push.new.self.items
    c.deref-line-items.result.now c.loop-line.line-index c.line-item.result
    c.in_ok-line_value.field-0 c.loop-line-test.true c.in_ok-push.ensures.items
    (c.in_ok-line_value.ensures ∙ ap line_data c.line-item.is) c.loop-line.invariant

pub returns : goal.returns
unfolding lines_data
returns c =
    view-Array c.loop-line.values
    ∙ ap (λ all. array (items_of all))
    (values_all line_data (map view c.loop-line.values.items) c.deref-line-items.result.now
    c.loop-line.line-index c.loop-line-test.false c.loop-line.invariant
    ∙ ap (map line_data) (c.deref-line-items.ensures.value ∙ c.in_ok-lines.ensures))
