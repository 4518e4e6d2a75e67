use denote.Shadow.{shadow}
use denote.Text.{Utf8}
use Rattle.std.proofs.Common.{◌≡◌, ◌++◌, length, string_bytes}
use Rattle.ga_include.specs.Path.{folder_of, parts_of}
use Rattle.ga_include.proofs.path.push_folder.Given as goal

-- what is left of the folder
abbrev pub invariant-loop-part : goal.invariant-loop-part
invariant-loop-part l = record {
  text : shadow (Utf8 l.rest);
  left : string_bytes l.path ++ folder_of (parts_of l.rest)
      ≡ string_bytes l.initial.path ++ folder_of (parts_of l.fn.file);
}

abbrev pub decreases-loop-part : goal.decreases-loop-part
decreases-loop-part l = length l.rest
