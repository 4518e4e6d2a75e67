use Rattle.std.proofs.Common.{◌≡◌, ◌∙◌, ap, sym, true}
use Rattle.std.specs.List.{list_any}
use Rattle.ga_faults.specs.Faults.{is_same}
use Rattle.ga_faults.proofs.listing.push_new.Goals as goal

pub returns-then-contains : goal.returns-then-contains
returns-then-contains c =
    let among : list_any (λ other. is_same other c.in-Some.fault) c.args.faults.now.items ≡ true =
    ap (list_any (λ other. is_same other c.in-Some.fault)) (sym c.deref.ensures.value)
    ∙ sym c.contains.ensures.value ∙ c.if-contains.true in
    rw (c.in-Some.is, among)
