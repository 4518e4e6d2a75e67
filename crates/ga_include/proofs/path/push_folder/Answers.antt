use Rattle.std.proofs.Common.{◌≡◌, ◌∙◌, [], ◌++◌, ap, append-nil, arith, rules, string_bytes, sym}
use Rattle.ga_include.specs.Path.{folder_of, parts_of}
use Rattle.ga_include.proofs.Cutting.{first_cut, no_cut}
use Rattle.ga_include.proofs.Lines.{folder_step}
use Rattle.ga_include.proofs.path.push_folder.Goals as goal

pub loop-part-preserved : goal.loop-part-preserved
loop-part-preserved c = record {
  text = search rules;
  left = folder_step _ _ c.loop-part.rest.now c.in-Some.part.now c.in-Some.behind.now
      (first_cut 47 c.loop-part.rest.now c.in-Some.part c.in-Some.behind (omega arith)
      c.in-Some.ensures.cases) (search rules) ∙ c.loop-part.invariant.left;
}

pub returns : goal.returns
returns c =
    let one = no_cut 47 c.loop-part.rest.now (omega arith) c.in_default.ensures.cases in
    let none : folder_of (parts_of c.loop-part.rest.now) ≡ [] = ap folder_of one in
    let left : string_bytes c.loop-part.path ++ [] ≡ string_bytes c.args.path.now
    ++ folder_of (parts_of c.args.file.now) = rw none at c.loop-part.invariant.left in
    sym (append-nil (string_bytes c.loop-part.path)) ∙ left
