use Rattle.std.proofs.Common.{rules, ◌≡◌}
use Rattle.std.specs.Prelude.{◌==◌, length, true, false}
use Rattle.ga_prompt.proofs.TypedLines.{next_by}
use Rattle.ga_prompt.proofs.typed.Typed.next.Goals as goal
use Rattle.ga_prompt.proofs.typed.Typed.next.Goals.{then-not-is_empty, else-not-is_empty}

pub returns-clause-next : goal.returns-clause-next
returns-clause-next g c =
    let last = c.args.self.now.last.items in
    let asked = c.if-not-is_empty.self.last.items in
    let kept = c.read_line.new.line.items in
    elim c.if-not-is_empty.branch [
      | then-not-is_empty w ↦
          let some : (length kept == 0) ≡ false = search rules in
          let is : asked ≡ kept = search rules in
          next_by last asked kept (g.R.Read.remaining c.args.reader.now)
          (g.R.Read.remaining c.read_line.new.reader) false c.in_ok-is_there.is_there some is
          c.in_ok-is_there.ensures.read
      | else-not-is_empty w ↦
          let none : (length kept == 0) ≡ true = search rules in
          let is : asked ≡ last = search rules in
          next_by last asked kept (g.R.Read.remaining c.args.reader.now)
          (g.R.Read.remaining c.read_line.new.reader) true c.in_ok-is_there.is_there none is
          c.in_ok-is_there.ensures.read
    ]
