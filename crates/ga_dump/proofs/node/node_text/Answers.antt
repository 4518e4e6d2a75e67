use Rattle.std.proofs.Common.{◌≡◌, ◌++◌, ◌<◌, [], ◌∷◌, subst, lit<, rules, string_bytes}
use Rattle.std.specs.Prelude.{codes, IsUtf8}
use Rattle.std.proofs.lemmas.List.Elements.{All-nil, All-cons}
use Rattle.std.proofs.lemmas.Str.{IsUtf8-string_bytes}
use Rattle.ga_dump.specs.Row.{row_of}
use Rattle.ga_dump.proofs.Characters.{utf8-stack}
use Rattle.ga_dump.proofs.node.node_text.Goals as goal

pub text_of-requires : goal.text_of-requires
text_of-requires c =
    let line = string_bytes c.in_ok-line.field-0 in
    let ds = c.args.state.now.data_stack in
    let rs = c.args.state.now.return_stack in
    let is : line ++ codes "ds" ++ row_of ds ++ codes "rs" ++ row_of rs
    ≡ c.push_row-2.new.text.items = search rules in
    let ascii = λ (first : _) (second : _) (h : first < 128) (g : second < 128). All-cons (λ c. c
    < 128) first (second ∷ []) h (All-cons (λ c. c < 128) second [] g (All-nil (λ c. c < 128))) in
    subst IsUtf8 is (utf8-stack (line ++ codes "ds" ++ row_of ds) (codes "rs") rs (utf8-stack line
    (codes "ds") ds (IsUtf8-string_bytes c.in_ok-line.field-0) (ascii 100 115 (lit< tt) (lit< tt)))
    (ascii 114 115 (lit< tt) (lit< tt)))
