use Rattle.std.proofs.Common.{◌≡◌, get_or, map, string_bytes}
use Rattle.std.specs.List.{range_with_len}
use Rattle.ga_waits.specs.Label.{images_in}
use Rattle.ga_profile.specs.Alike.{code_if}
use Rattle.ga_profile.proofs.alike.codes_of.Given as goal

-- those of as many lines
abbrev pub invariant-loop-kind : goal.invariant-loop-kind
invariant-loop-kind l =
    map string_bytes l.codes.items
    ≡ map (λ kind. code_if (images_in l.images) l.paths kind (get_or l.lines kind 0))
    (range_with_len 0 l.kind)
