use Rattle.std.proofs.Common.{◌≡◌, ◌∙◌, ap, map, string_bytes}
use Rattle.std.proofs.lemmas.Result.{IfOk-weaker}
use Rattle.ga_waits.specs.Label.{images_in}
use Rattle.ga_profile.specs.Alike as spec
use Rattle.ga_profile.specs.Alike.{path_groups}
use Rattle.ga_profile.proofs.alike.path_groups.Goals as goal

pub returns : goal.returns
unfolding path_groups
returns c =
    let paths = c.args.paths.now in
    let lines = c.args.lines.now in
    let all = spec.codes_of (images_in c.args.images) paths lines in
    let some = map string_bytes c.as_slice-codes.result.now in
    let codes : some ≡ all =
    ap (map string_bytes) c.as_slice-codes.ensures.value ∙ c.in_ok-found.ensures in
    let turns = c.as_slice.ensures.value ∙ c.in_ok-turns.ensures.turns
    ∙ ap (λ kept. spec.group_turns kept lines) codes in
    IfOk-weaker c.ranked_groups.result _ _
    (λ found is. is ∙ ap (λ kept. spec.ranked_groups some paths kept) turns
    ∙ ap (λ kept. spec.ranked_groups kept paths (spec.group_turns all lines)) codes)
    c.ranked_groups.ensures
