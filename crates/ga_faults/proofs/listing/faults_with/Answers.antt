use Rattle.std.proofs.Common.{◌∙◌, List, ap, subst}
use Rattle.ga_faults.specs.Faults.{with_first}
use Rattle.ga_faults.specs.Order.{AreInOrder}
use Rattle.ga_faults.specs.declared.fault.Fault.{Fault}
use Rattle.ga_faults.proofs.listing.faults_with.Goals as goal

pub returns : goal.returns
returns c =
    let found = c.in_ok-faults.faults.items in
    let sorted = c.sort_by_place.new.faults.items in (
      found,
      c.in_ok-faults.ensures,
      subst (λ (faults : List Fault). AreInOrder faults sorted)
          (c.in_ok-push_first.ensures ∙ ap (with_first c.args.first) c.truncate.ensures.items)
          c.in_ok-sort_by_place.ensures,
    )
