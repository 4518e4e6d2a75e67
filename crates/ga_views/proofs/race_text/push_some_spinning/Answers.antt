use Rattle.std.proofs.Common.{codes, string_bytes}
use Rattle.ga_views.specs.RaceText.{names_text, some_spinning}
use Rattle.ga_views.proofs.Parts.{two_parts}
use Rattle.ga_views.proofs.race_text.push_some_spinning.Goals as goal

pub returns : goal.returns
unfolding some_spinning
returns c =
    two_parts (string_bytes c.args.text.now) (codes "; spinning:") (names_text c.args.nodes.now) _ _
    c.in_ok-push_str.ensures.bytes c.in_ok-push_names.ensures
