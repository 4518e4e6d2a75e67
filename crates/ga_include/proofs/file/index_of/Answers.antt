use Rattle.std.proofs.Common.{◌∙◌, arith, rules, sym, string_bytes}
use Rattle.std.specs.Str.{bytes_eq}
use Rattle.ga_include.specs.File.{file_of}
use Rattle.ga_include.proofs.Positions.{found_at, found_nowhere, position_mapped}
use Rattle.ga_include.proofs.file.index_of.Goals as goal

pub returns-then-eq : goal.returns-then-eq
returns-then-eq c =
    let name = c.args.name.now in
    found_at (λ file. bytes_eq (string_bytes file.name) name) c.args.files.now c.loop-index.index
    c.index-files-index.result c.loop-index-test.true c.index-files-index.is (search rules)
    c.loop-index.invariant
    ∙ sym (position_mapped file_of (λ file. bytes_eq file.name name) c.args.files.now)

pub returns : goal.returns
returns c =
    let name = c.args.name.now in
    found_nowhere (λ file. bytes_eq (string_bytes file.name) name) c.args.files.now
    c.loop-index.index (omega (arith, c.loop-index-test.false)) c.loop-index.invariant
    ∙ sym (position_mapped file_of (λ file. bytes_eq file.name name) c.args.files.now)
