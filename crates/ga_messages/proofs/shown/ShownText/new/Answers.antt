use Rattle.std.proofs.Common.{append_assoc}
use Rattle.ga_messages.specs.Shown.{shown_text}
use Rattle.ga_messages.proofs.shown.ShownText.new.Goals as goal

pub returns-in_ok-text-in-None : goal.returns-in_ok-text-in-None
unfolding shown_text
returns-in_ok-text-in-None c =
    rw (
      c.in-None.is,
      c.in_ok-text-in-None.ensures.ok,
      c.in_ok-shown-in-None.ensures,
      c.numbered_line-found.ensures,
    ) (simp append_assoc)
