use Rattle.std.proofs.Common.{◌∙◌, List, ℕ, ap, map}
use Rattle.std.specs.List.{range_with_len}
use Rattle.ga_profile.specs.declared.kinds.Kinds.TheVariants.{Lines}
use Rattle.ga_profile.specs.Kinds.{kind_of}
use Rattle.ga_profile.specs.Lines.{line_turns}
use Rattle.ga_profile.specs.Path.{path_in, turns_of}
use Rattle.ga_profile.proofs.path.line_turns.Goals as goal

pub returns-clause-turns : goal.returns-clause-turns
unfolding line_turns
returns-clause-turns c =
    let path = path_in c.args.window c.args.chip.now in
    c.in_ok-turns.ensures.turns
    ∙ ap (λ (all : List ℕ). map (λ kind. turns_of (kind_of (Lines all)) kind path)
    (range_with_len 0 650)) c.node_ranks-ranks.ensures
