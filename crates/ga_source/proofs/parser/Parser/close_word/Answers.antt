use Rattle.std.proofs.Common.{◌≡◌, ◌∙◌, ap, rules}
use Rattle.ga_pack.specs.Followers.{followers}
use Rattle.ga_pack.specs.Model.Source.{Word, Code}
use Rattle.ga_source.specs.inner.Machine.{item_added}
use Rattle.ga_source.specs.inner.Parser.{state_of, inside_of, section_part}
use Rattle.ga_source.proofs.ParserSteps.{answered_added, word_after, on_ok_to}
use Rattle.ga_source.proofs.parser.Parser.close_word.Goals as goal

pub returns : goal.returns
returns c =
    let self = c.args.self.now in
    let ops : c.replace-ops.result.items ≡ self.ops.items =
    ap (λ x. x.items) c.replace-ops.ensures.value in
    let owed : c.followers_of-owed.result ≡ followers self.ops.items =
    c.followers_of-owed.ensures.count ∙ ap followers (search rules) in
    answered_added (inside_of self) (Word self.ops.items)
    (Code (followers self.ops.items)) c.add.result (state_of c.add.new.self)
    (word_after (section_part self.part) self.ops.items c.requires.code)
    (on_ok_to c.add.result (state_of c.add.new.self) (item_added (inside_of self)
    (Word c.replace-ops.result.items) (Code c.followers_of-owed.result))
    (item_added (inside_of self) (Word self.ops.items) (Code (followers self.ops.items)))
    (ap (λ x. item_added (inside_of self) (Word x) (Code c.followers_of-owed.result)) ops
    ∙ ap (λ x. item_added (inside_of self) (Word self.ops.items) (Code x)) owed) c.add.ensures.ok)
    c.add.ensures.err
