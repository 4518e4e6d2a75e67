use Rattle.std.proofs.Common.{◌+◌, ◌-◌, ◌^◌, ◌<◌, arith, rules, ◌≡◌, ◌∙◌, ◌++◌, ℕ, List, drop, take, sym, ap, subst}
use Rattle.std.specs.Prelude.{Option}
use Rattle.std.specs.Io.KnownBytes.{Appends}
use Rattle.std.proofs.KnownBytes.{Appends-trans, Appends-kept}
use Rattle.std.proofs.Math.Seq.{take-add, drop-drop}
use Rattle.std.proofs.lemmas.List.{take_rest}
use Rattle.ga_input.proofs.writing.write_output.Goals as goal
use Rattle.ga_input.proofs.writing.write_output.Goals.{in-Ok-write, in-Err-write}

-- a prefix of what was left is written too
writes_more : (a b c : Option (List ℕ)) (text rest : List ℕ) (count n : ℕ) → rest ≡ drop count text
    → Appends a b (take count text) → Appends b c (take n rest)
    → (drop n rest ≡ drop (count + n) text) × Appends a c (take (count + n) text)
writes_more a b c text rest count n left before after = (
  ap (drop n) left ∙ drop-drop n count text,
  subst (Appends a c) (ap (λ l. take count text ++ take n l) left ∙ sym (take-add count n text))
      (Appends-trans a b c _ _ before after),
)

-- a call more is counted
counted_more : (calls turns next : ℕ) → calls ≡ turns → turns < 2 ^ 64 - 1
    → (calls < 2 ^ 64 - 1 → next ≡ calls + 1) → next ≡ turns + 1
counted_more calls turns next same room more =
    let below : calls < 2 ^ 64 - 1 = omega arith in
    let next_is : next ≡ calls + 1 = more below in
    omega arith

pub loop-preserved : goal.loop-preserved
loop-preserved g c =
    let (count, left, written) = c.loop.invariant.written in
    elim c.match-write.branch [
      | in-Ok-write w ↦
          let more = writes_more _ _ _ _ _ count w.in-Ok-write.count left written
          w.in-Ok-write.ensures.bytes in record {
            written = (
              count + w.in-Ok-write.count,
              ap (λ r. r.now) w.rest-is ∙ take_rest c.loop.rest.now w.in-Ok-write.count ∙ more.0,
              more.1,
            );
            unfailed = λ none. w.in-Ok-write.ensures.kept (omega arith)
                ∙ c.loop.invariant.unfailed none;
            counted = λ none. counted_more c.loop.writes.calls c.loop.counter c.write.new.self.calls
                (c.loop.invariant.counted none) c.loop-test.true w.in-Ok-write.ensures.counted;
          }
      | in-Err-write w ↦ record {
        written = (
          count,
          ap (λ r. r.now) w.rest-is ∙ left,
          Appends-kept _ _ _ _ written w.in-Err-write.ensures.bytes,
        );
        unfailed = λ none. w.in-Err-write.ensures.interrupted (search rules)
            ∙ c.loop.invariant.unfailed none;
        counted = λ none. counted_more c.loop.writes.calls c.loop.counter c.write.new.self.calls
            (c.loop.invariant.counted none) c.loop-test.true w.in-Err-write.ensures.counted;
      }
    ]
