use Rattle.std.proofs.Common.{◌≡◌, ◌∙◌, ap, rules}
use Rattle.ga_pack.specs.Followers.{followers}
use Rattle.ga_pack.specs.Model.Source.{WordTo, Code}
use Rattle.ga_source.specs.Item.{item_of, value_of}
use Rattle.ga_source.specs.inner.Machine.{item_added}
use Rattle.ga_source.specs.inner.Parser.{state_of, inside_of, section_part}
use Rattle.ga_source.proofs.ParserSteps.{answered_added, word_to_after, on_ok_to}
use Rattle.ga_source.proofs.parser.Parser.close.Goals as goal

pub returns : goal.returns
returns c =
    let self = c.args.self.now in
    let op = c.args.op in
    let spare = c.args.spare in
    let v = value_of c.args.dest in
    let i = item_of c.in_ok-item.item in
    let ops : c.replace-ops.result.items ≡ self.ops.items =
    ap (λ x. x.items) c.replace-ops.ensures.value in
    let item : i ≡ WordTo self.ops.items op v spare =
    c.in_ok-item.ensures ∙ ap (λ x. WordTo x op v spare) ops in
    let owed : c.followers_of-owed.result ≡ followers self.ops.items =
    c.followers_of-owed.ensures.count ∙ ap followers (search rules) in
    answered_added (inside_of self) (WordTo self.ops.items op v spare)
    (Code (followers self.ops.items)) c.add.result (state_of c.add.new.self)
    (word_to_after (section_part self.part) self.ops.items op v spare c.requires.code)
    (on_ok_to c.add.result (state_of c.add.new.self)
    (item_added (inside_of self) i (Code c.followers_of-owed.result)) (item_added (inside_of self)
    (WordTo self.ops.items op v spare) (Code (followers self.ops.items)))
    (ap (λ x. item_added (inside_of self) x (Code c.followers_of-owed.result)) item
    ∙ ap (λ x. item_added (inside_of self) (WordTo self.ops.items op v spare) (Code x)) owed)
    c.add.ensures.ok)
    c.add.ensures.err
