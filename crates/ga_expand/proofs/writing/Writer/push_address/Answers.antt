use Rattle.std.proofs.Common.{List, ℕ}
use Rattle.std.specs.Prelude.{codes}
use Rattle.ga_source.specs.Token.{place_of}
use Rattle.ga_expand.specs.Expanding.{Piece}
use Rattle.ga_expand.proofs.Written.{none_added, then_all}
use Rattle.ga_expand.proofs.writing.Writer.push_address.Goals as goal

pub returns : goal.returns
returns c =
    let place = place_of c.args.place in
    let word : List ℕ → Piece = λ text. record { text = text; place = place } in
    let last = c.push_text-8.new.self in
    then_all c.args.self.now c.push_text.new.self last (word (codes "[")) _
    c.in_ok-push_text.ensures
    (then_all c.push_text.new.self c.push_text-2.new.self last (word (codes "@p")) _
    c.in_ok-push_text-2.ensures
    (then_all c.push_text-2.new.self c.push_text-3.new.self last (word (codes ".")) _
    c.in_ok-push_text-3.ensures
    (then_all c.push_text-3.new.self c.push_text-4.new.self last (word (codes ".")) _
    c.in_ok-push_text-4.ensures
    (then_all c.push_text-4.new.self c.push_text-5.new.self last (word (codes ".")) _
    c.in_ok-push_text-5.ensures
    (then_all c.push_text-5.new.self c.push_text-6.new.self last (word (codes "]")) _
    c.in_ok-push_text-6.ensures
    (then_all c.push_text-6.new.self c.push_text-7.new.self last (word (codes ",")) _
    c.in_ok-push_text-7.ensures
    (then_all c.push_text-7.new.self c.push_text-8.new.self last (word (c.args.label.now)) _
    c.in_ok-push_text-8.ensures
    (none_added last))))))))
