use Rattle.std.proofs.Common.{◌∙◌, ◌-◌, ◌+◌, ap, drop, sym, arith}
use Rattle.std.proofs.lemmas.List.{drop_all}
use Rattle.ga_pack.specs.Decoded.{reading_of}
use Rattle.ga_pack.proofs.Encoded.{same_reading}
use Rattle.ga_disasm.proofs.NamedItems.{items_named}
use Rattle.ga_disasm.proofs.Stepping.{all_apart, rest_is, data_next, follower_next, code_next, one_more}
use Rattle.ga_disasm.proofs.disassembling.items.Goals as goal
use Rattle.ga_disasm.proofs.disassembling.items.Goals.{then-index-code_len+in_ok-push, else-index-code_len+then-owed-gt0+in_ok-push-2, else-index-code_len+else-owed-gt0+in_ok-push-3}

pub loop-index-preserved : goal.loop-index-preserved
loop-index-preserved c =
    let words = c.args.words.now in
    let index = c.loop-index.index in
    let word = c.index-words-index.result in
    let left' = c.args.code_len - (index + 1) in
    let rest = rest_is words index word (omega arith) c.index-words-index.is in
    elim c.if-index-code_len.branch [
      | then-index-code_len+in_ok-push w ↦
          let next = data_next c.loop-index.owed c.if-index-code_len.owed
          (c.args.code_len - index) left' word (drop index words)
          (drop (index + 1) words) rest w.owed-is (omega arith) (omega arith) in
          one_more _ _ _ _ _ _ c.loop-index.invariant next
          (ap (λ v. v.items) w.items-is ∙ w.in_ok-push.ensures.items)
      | else-index-code_len+then-owed-gt0+in_ok-push-2 w ↦
          let next = follower_next c.loop-index.owed c.if-index-code_len.owed
          (c.args.code_len - index) left' word (drop index words) (drop (index + 1) words) rest
          (omega arith) (omega arith) in
          one_more _ _ _ _ _ _ c.loop-index.invariant next
          (ap (λ v. v.items) w.items-is ∙ w.in_ok-push-2.ensures.items)
      | else-index-code_len+else-owed-gt0+in_ok-push-3 w ↦
          let packed = w.decode-packed.result in
          let is = same_reading (reading_of word) packed.ops.items packed.dest packed.spare
          (sym w.decode-packed.ensures.ops) (sym w.decode-packed.ensures.dest)
          (sym w.decode-packed.ensures.spare) in
          let next = code_next c.loop-index.owed c.if-index-code_len.owed
          (c.args.code_len - index) left' word (drop index words) (drop (index + 1) words) _
          rest (omega arith) (omega arith) is (w.owed-is ∙ w.followers-owed.ensures.count) in
          one_more _ _ _ _ _ _ c.loop-index.invariant next
          (ap (λ v. v.items) w.items-is ∙ w.in_ok-push-3.ensures.items)
    ]

pub returns-clause-items : goal.returns-clause-items
returns-clause-items c =
    all_apart c.loop-index.owed
    (c.args.code_len - c.loop-index.index) (drop c.loop-index.index c.args.words.now) _ _
    (drop_all c.loop-index.index c.args.words.now (omega arith)) c.loop-index.invariant

pub returns-clause-instructions : goal.returns-clause-instructions
returns-clause-instructions c =
    λ source labels right laid. returns-clause-items c
    ∙ items_named source c.args.words.now labels c.args.code_len right laid
