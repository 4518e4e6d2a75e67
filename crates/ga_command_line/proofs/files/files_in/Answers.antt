use Rattle.std.proofs.Common.{◌≡◌, ◌∙◌, [], ap, codes, map, string_bytes}
use Rattle.std.specs.Prelude.{unwrap_or}
use Rattle.clap.specs.Words.{found_of, rows_of}
use Rattle.clap.proofs.WalkLemmas.{raw_values-rows}
use Rattle.ga_command_line.specs.File.{files_at}
use Rattle.ga_command_line.proofs.Several.{if_texts}
use Rattle.ga_command_line.proofs.files.files_in.Goals as goal

pub returns-in-Some : goal.returns-in-Some
returns-in-Some c =
    let found = found_of c.args.found.now in
    let names = map (λ name. name.now) c.in-Some.names.now in
    let same : names ≡ files_at (rows_of found) =
    ap (λ named. unwrap_or named []) (c.in-Some.ensures ∙ raw_values-rows found (codes "FILE")) in
    if_texts c.texts_of.result names (files_at (rows_of found)) c.texts_of.ensures same

pub returns-in-None : goal.returns-in-None
returns-in-None c =
    let found = found_of c.args.found.now in
    ap (map string_bytes) c.new.ensures.items
    ∙ ap (λ named. unwrap_or named []) (c.in-None.ensures ∙ raw_values-rows found (codes "FILE"))
