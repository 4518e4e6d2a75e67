use Rattle.std.proofs.Common.{◌≡◌, ◌∙◌, ℕ, List, [], ◌∷◌, ◌++◌, ap, arith, get_or, map, string_bytes, sym}
use Rattle.std.specs.List.{range_with_len}
use Rattle.std.proofs.lemmas.List.{map-append}
use Rattle.ga_waits.specs.Label.{images_in}
use Rattle.ga_profile.specs.Alike.{code_if, codes_of}
use Rattle.ga_profile.proofs.Writing.{item_more}
use Rattle.ga_profile.proofs.alike.codes_of.Goals as goal

pub loop-kind-preserved : goal.loop-kind-preserved
loop-kind-preserved c =
    let code : ℕ → List ℕ = λ kind.
    code_if (images_in c.args.images) c.args.paths.now kind (get_or c.args.lines.now kind 0) in
    let kind = c.loop-kind.kind in
    let before = c.loop-kind.codes.items in
    let one = c.in_ok-code_if.field-0 in
    ap (map string_bytes) c.in_ok-push.ensures.items
    ∙ map-append string_bytes before (one ∷ [])
    ∙ ap (λ all. all ++ string_bytes one ∷ []) c.loop-kind.invariant
    ∙ ap (λ text. map code (range_with_len 0 kind) ++ text ∷ []) c.in_ok-code_if.ensures
    ∙ sym (item_more code kind)

pub returns : goal.returns
unfolding codes_of
returns c =
    let code : ℕ → List ℕ = λ kind.
    code_if (images_in c.args.images) c.args.paths.now kind (get_or c.args.lines.now kind 0) in
    let all : c.loop-kind.kind ≡ 650 = omega arith in
    c.loop-kind.invariant ∙ ap (λ count. map code (range_with_len 0 count)) all
