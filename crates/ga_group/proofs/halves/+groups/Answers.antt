use Rattle.std.proofs.Common.{◌∙◌, ◌/◌, ◌++◌, length, sym, ap, subst}
use Rattle.std.specs.List.{concat}
use Rattle.ga_group.specs.Plan.{groups_in}
use Rattle.ga_group.specs.Workers.{sides_of_turns}
use Rattle.ga_group.specs.inner.Work.{HasWorked}
use Rattle.ga_group.proofs.Grouped.{back_grouped, count_within, cut_of, front_few, front_grouped, grouped_as}
use Rattle.ga_group.proofs.Shared.{left_ready, rejoined, right_ready}
use Rattle.ga_group.proofs.halves.+groups.Goals as goal

pub work_groups-nodes_in-count-requires : goal.work_groups-nodes_in-count-requires
work_groups-nodes_in-count-requires g t c =
    front_few c.args.groups.now c.args.nodes.now c.args.parts.now c.requires.grouped
    (length c.args.groups.now / 2) c.split_at.result.0.now c.split_at.ensures.front

pub work_groups-split_at-requires-2 : goal.work_groups-split_at-requires-2
work_groups-split_at-requires-2 g t c =
    count_within c.args.groups.now c.args.nodes.now c.args.parts.now c.requires.grouped
    (length c.args.groups.now / 2) c.nodes_in-count.result
    (c.nodes_in-count.ensures ∙ ap (λ l. length (concat (groups_in l))) c.split_at.ensures.front)

pub work_groups-both_halves-requires-clause-front :
    goal.work_groups-both_halves-requires-clause-front
work_groups-both_halves-requires-clause-front g t c κs within =
    grouped_as c.split_at.ensures.front c.split_at-2.ensures.front
    c.split_at_mut-left_parts.ensures.front
    (front_grouped c.args.groups.now c.args.nodes.now c.args.parts.now c.requires.grouped
    (length c.args.groups.now / 2) c.nodes_in-count.result
    (c.nodes_in-count.ensures ∙ ap (λ l. length (concat (groups_in l))) c.split_at.ensures.front))

pub work_groups-both_halves-requires-clause-back : goal.work_groups-both_halves-requires-clause-back
work_groups-both_halves-requires-clause-back g t c κs within =
    grouped_as c.split_at.ensures.back c.split_at-2.ensures.back
    c.split_at_mut-left_parts.ensures.back
    (back_grouped c.args.groups.now c.args.nodes.now c.args.parts.now c.requires.grouped
    (length c.args.groups.now / 2) c.nodes_in-count.result
    (c.nodes_in-count.ensures ∙ ap (λ l. length (concat (groups_in l))) c.split_at.ensures.front))

pub work_groups-both_halves-requires-clause-ready :
    goal.work_groups-both_halves-requires-clause-ready
work_groups-both_halves-requires-clause-ready g t c κs within =
    left_ready
    (cut_of c.share-other.result c.nodes_in-count.result c.requires.ready
    c.split_at_mut-left_parts.ensures.value c.split_at_mut-left_parts.ensures.back
    c.requires.grouped.parts_is c.split_at-2.ensures.back c.share-other.ensures.own.0
    c.share-other.ensures.left c.share-other.ensures.shared)
    c.requires.ready.own

pub work_groups-both_halves-requires-clause-other :
    goal.work_groups-both_halves-requires-clause-other
work_groups-both_halves-requires-clause-other g t c κs within =
    right_ready
    (cut_of c.share-other.result c.nodes_in-count.result c.requires.ready
    c.split_at_mut-left_parts.ensures.value c.split_at_mut-left_parts.ensures.back
    c.requires.grouped.parts_is c.split_at-2.ensures.back c.share-other.ensures.own.0
    c.share-other.ensures.left c.share-other.ensures.shared)
    (c.share-other.ensures.own.1 ∙ c.requires.ready.own)

pub work_groups-returns : goal.work_groups-returns
work_groups-returns g t c =
    subst (λ l. HasWorked c.args.seat.now c.gather.new.seat l
    (c.both_halves.new.left_parts ++ c.both_halves.new.right_parts) (sides_of_turns c.args.turns))
    (sym c.split_at_mut-left_parts.ensures.value)
    (rejoined
    (cut_of c.share-other.result c.nodes_in-count.result c.requires.ready
    c.split_at_mut-left_parts.ensures.value c.split_at_mut-left_parts.ensures.back
    c.requires.grouped.parts_is c.split_at-2.ensures.back c.share-other.ensures.own.0
    c.share-other.ensures.left c.share-other.ensures.shared)
    c.both_halves.ensures.front c.both_halves.ensures.back c.gather.ensures.own
    c.gather.ensures.nodes)
