use denote.Shadow.{shadow}
use denote.Text.{Utf8}
use Rattle.std.proofs.Common.{◌≡◌, ◌+◌, ◌*◌, ◌≤◌, length}
use Rattle.ga_pack.specs.Model.Text.{lines_of}
use Rattle.ga_include.specs.Including.{ended_lines, file_items, last_line, lines_items, whole_of, with_items}
use Rattle.ga_include.specs.inner.Adding.{scope_of}
use Rattle.ga_include.proofs.including.Included.+files.Given as goal

abbrev pub decreases-push_lines : goal.decreases-push_lines
decreases-push_lines l = 5 * l.scope.now.left + 3

abbrev pub decreases-push_line : goal.decreases-push_line
decreases-push_line l = 5 * l.scope.now.left + 2

abbrev pub decreases-push_rest : goal.decreases-push_rest
decreases-push_rest l = 5 * l.scope.now.left + 3

abbrev pub decreases-push_include : goal.decreases-push_include
decreases-push_include l = 5 * l.scope.now.left + 1

abbrev pub decreases-push_file : goal.decreases-push_file
decreases-push_file l = 5 * l.scope.now.left

abbrev pub invariant-push_lines-loop-line : goal.invariant-push_lines-loop-line
invariant-push_lines-loop-line l =
    let inner = file_items l.scope.left in
    record {
      text : shadow (Utf8 l.rest);
      short : l.number + length l.rest ≤ 1 + length l.fn.text;
      added : with_items (whole_of l.fn.self) (lines_items inner (scope_of l.scope) l.file 1
          (ended_lines (lines_of l.fn.text)))
          ≡ with_items (whole_of l.self) (lines_items inner (scope_of l.scope) l.file l.number
          (ended_lines (lines_of l.rest)));
      last : last_line (lines_of l.rest) ≡ last_line (lines_of l.fn.text);
      line : l.number + length (ended_lines (lines_of l.rest))
          ≡ length (ended_lines (lines_of l.fn.text)) + 1;
    }

abbrev pub decreases-push_lines-loop-line : goal.decreases-push_lines-loop-line
decreases-push_lines-loop-line l = length l.rest
