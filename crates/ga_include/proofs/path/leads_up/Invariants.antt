use denote.Shadow.{shadow}
use denote.Text.{Utf8}
use Rattle.std.proofs.Common.{◌≡◌, length}
use Rattle.ga_include.specs.Path.{leads_up}
use Rattle.ga_include.proofs.path.leads_up.Given as goal

-- no part leads up so far
abbrev pub invariant-loop-part : goal.invariant-loop-part
invariant-loop-part l = record {
  text : shadow (Utf8 l.rest);
  left : leads_up l.rest ≡ leads_up l.fn.name;
}

abbrev pub decreases-loop-part : goal.decreases-loop-part
decreases-loop-part l = length l.rest
