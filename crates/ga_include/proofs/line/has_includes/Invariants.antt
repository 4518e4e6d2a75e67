use denote.Shadow.{shadow}
use denote.Text.{Utf8}
use Rattle.std.proofs.Common.{◌≡◌, length}
use Rattle.std.specs.List.{list_any}
use Rattle.ga_pack.specs.Model.Text.{lines_of}
use Rattle.ga_include.specs.IncludeLine.{is_include}
use Rattle.ga_include.proofs.line.has_includes.Given as goal

-- the lines before are no include lines
abbrev pub invariant-loop-line : goal.invariant-loop-line
invariant-loop-line l = record {
  text : shadow (Utf8 l.rest);
  left : list_any is_include (lines_of l.rest) ≡ list_any is_include (lines_of l.fn.text);
}

abbrev pub decreases-loop-line : goal.decreases-loop-line
decreases-loop-line l = length l.rest
