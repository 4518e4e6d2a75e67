use Rattle.std.proofs.Common.{ℕ, Option, ◌≡◌, ◌∙◌, ◌++◌, ap, arith, map, string_bytes, sym}
use Rattle.std.specs.List.{flat_map, range_with_len}
use Rattle.ga_place.specs.Cell.{name_at}
use Rattle.ga_waits.specs.Ring.{next_of, ring_at, ring_line, rings_of}
use Rattle.ga_waits.specs.inner.Next.{next_in}
use Rattle.ga_waits.specs.Waits.{all_ring_lines, text_of}
use Rattle.ga_waits.proofs.RingRows.{map-flat_map}
use Rattle.ga_waits.proofs.Writing.{lines_more}
use Rattle.ga_waits.proofs.text.push_rings.Goals as goal

pub loop-index-preserved : goal.loop-index-preserved
loop-index-preserved c =
    let next = next_in c.next_nodes-nexts.result in
    let text = string_bytes c.loop-index.text in
    let lines = λ (name : ℕ). map ring_line (ring_at next name) in
    let wrote =
    c.in_ok-push_ring.ensures ∙ ap (λ name. text ++ text_of (lines name)) c.at.ensures in
    lines_more (λ index. lines (name_at index)) c.loop-index.index (string_bytes c.args.text.now)
    text _ c.loop-index.invariant wrote

pub returns : goal.returns
unfolding all_ring_lines rings_of
returns c =
    let all : c.loop-index.index ≡ 144 = omega arith in
    let old = string_bytes c.args.text.now in
    let lines = λ (next : ℕ → Option ℕ) (index : ℕ). map ring_line (ring_at next (name_at index)) in
    let next = next_in c.next_nodes-nexts.result in
    c.loop-index.invariant
    ∙ ap (λ count. old ++ text_of (flat_map (lines next) (range_with_len 0 count))) all
    ∙ ap (λ function. old ++ text_of (flat_map (lines function) (range_with_len 0 144)))
    c.next_nodes-nexts.ensures
    ∙ ap (λ l. old ++ text_of l)
    (sym (map-flat_map ring_line (λ index. ring_at (next_of c.args.chip.now) (name_at index))
    (range_with_len 0 144)))
