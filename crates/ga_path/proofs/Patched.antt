-- A count that is written before the words that it counts, when they are there.
use Rattle.std.proofs.Common.{◌≡◌, ◌∙◌, ℕ, ◌+◌, ◌-◌, List, [], ◌∷◌, ◌++◌, length, Some, refl, sym, ap, arith, append_assoc, length-append}
use Rattle.std.specs.Prelude.{slice_set}
use Rattle.std.proofs.Math.Seq.{set-append_seam}
use Rattle.ga_place.specs.Address.{port_address_of}
use Rattle.ga_place.specs.declared.side.Side.{Side}
use Rattle.ga_frame.specs.Frame.{MORE}
use Rattle.ga_place.specs.Side.{side_to}
use Rattle.ga_path.specs.Sequences.{PUSH, SEND, SET_A, frame, frames, pump, pumps, sent}
use Rattle.ga_path.specs.Stream.{Images, grove, image_of}
use Rattle.ga_path.specs.Tree.{Subtree, Subtrees}
use Rattle.ga_path.specs.declared.parts.Part.{Part}

-- words behind others, of which one is written anew
written : (words front back behind : List ℕ) (old new : ℕ)
    → slice_set ((words ++ (front ++ old ∷ back)) ++ behind) (length words + length front) new
    ≡ words ++ ((front ++ new ∷ back) ++ behind)
written words front back behind old new =
    ap (λ l. slice_set l (length words + length front) new)
    (append_assoc words (front ++ old ∷ back) behind
    ∙ ap (λ l. words ++ l) (append_assoc front (old ∷ back) behind)
    ∙ sym (append_assoc words front (old ∷ (back ++ behind))))
    ∙ ap (λ n. slice_set ((words ++ front) ++ old ∷ (back ++ behind)) n new)
    (sym (length-append words front))
    ∙ set-append_seam (words ++ front) old (back ++ behind) new
    ∙ append_assoc words front (new ∷ (back ++ behind))
    ∙ ap (λ l. words ++ l) (sym (append_assoc front (new ∷ back) behind))

-- the words behind a pump's start, and a pump more
pub pumped : (words begun all sent beside : List ℕ) (side : Side) (start count : ℕ)
    → begun ≡ words ++ (SET_A ∷ port_address_of side ∷ 0 ∷ PUSH ∷ SEND ∷ []) → start ≡ length begun
    → all ≡ begun ++ sent → count ≡ length all - start - 1
    → slice_set all (start - 3) count ++ beside ≡ words ++ (pump side sent ++ beside)
pumped words begun all sent beside side start count begun_is start_is all_is count_is =
    let first : start ≡ length words + 5 = start_is ∙ ap length begun_is
    ∙ length-append words (SET_A ∷ port_address_of side ∷ 0 ∷ PUSH ∷ SEND ∷ []) in
    let long : length all ≡ start + length sent =
    ap length all_is ∙ length-append begun sent ∙ ap (λ n. n + length sent) (sym start_is) in
    let counted : count ≡ length sent - 1 = count_is ∙ omega (arith, long) in
    let at : start - 3 ≡ length words + length (SET_A ∷ port_address_of side ∷ []) =
    omega (arith, first) in
    ap (λ l. slice_set l (start - 3) count ++ beside) (all_is ∙ ap (λ l. l ++ sent) begun_is)
    ∙ ap (λ n. slice_set
    ((words ++ (SET_A ∷ port_address_of side ∷ 0 ∷ PUSH ∷ SEND ∷ [])) ++ sent) n count ++ beside) at
    ∙ ap (λ l. l ++ beside)
    (written words (SET_A ∷ port_address_of side ∷ []) (PUSH ∷ SEND ∷ []) sent 0 count)
    ∙ append_assoc words ((SET_A ∷ port_address_of side ∷ count ∷ PUSH ∷ SEND ∷ []) ++ sent) beside
    ∙ ap (λ n. words ++ ((SET_A ∷ port_address_of side ∷ n ∷ PUSH ∷ SEND ∷ sent) ++ beside)) counted

-- the words behind a frame's start, and a frame more
pub framed : (words begun all sent beside : List ℕ) (side : Side) (start count : ℕ)
    → begun ≡ words ++ (MORE ∷ port_address_of side ∷ 0 ∷ []) → start ≡ length begun
    → all ≡ begun ++ sent → count ≡ length all - start → slice_set all (start - 1) count ++ beside
    ≡ words ++ (frame MORE (port_address_of side) sent ++ beside)
framed words begun all sent beside side start count begun_is start_is all_is count_is =
    let first : start ≡ length words + 3 =
    start_is ∙ ap length begun_is ∙ length-append words (MORE ∷ port_address_of side ∷ 0 ∷ []) in
    let long : length all ≡ start + length sent =
    ap length all_is ∙ length-append begun sent ∙ ap (λ n. n + length sent) (sym start_is) in
    let counted : count ≡ length sent = count_is ∙ omega (arith, long) in
    let at : start - 1 ≡ length words + length (MORE ∷ port_address_of side ∷ []) =
    omega (arith, first) in
    ap (λ l. slice_set l (start - 1) count ++ beside) (all_is ∙ ap (λ l. l ++ sent) begun_is)
    ∙ ap (λ n. slice_set ((words ++ (MORE ∷ port_address_of side ∷ 0 ∷ [])) ++ sent) n count
    ++ beside) at
    ∙ ap (λ l. l ++ beside) (written words (MORE ∷ port_address_of side ∷ []) [] sent 0 count)
    ∙ append_assoc words ((MORE ∷ port_address_of side ∷ count ∷ []) ++ sent) beside
    ∙ ap (λ n. words ++ ((MORE ∷ port_address_of side ∷ n ∷ sent) ++ beside)) counted

-- what is sent to subtrees, by the first one and the others
pub first_pump : (part : Part) (images : Images) (parent node : ℕ) (side : Side)
    (subtrees inner beside : Subtrees) → subtrees ≡ Subtree node inner beside
    → side_to parent node ≡ Some side
    → pump side (sent part node side (image_of images node) (pumps part (grove images node inner)))
    ++ pumps part (grove images parent beside) ≡ pumps part (grove images parent subtrees)
first_pump part images parent node side subtrees inner beside split at = rw split (rw at refl)

pub first_frame : (part : Part) (images : Images) (parent node : ℕ) (side : Side)
    (subtrees inner beside : Subtrees) → subtrees ≡ Subtree node inner beside
    → side_to parent node ≡ Some side → frame MORE (port_address_of side)
    (sent part node side (image_of images node) (pumps part (grove images node inner)))
    ++ frames part (grove images parent beside) ≡ frames part (grove images parent subtrees)
first_frame part images parent node side subtrees inner beside split at = rw split (rw at refl)
