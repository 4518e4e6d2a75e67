use Rattle.std.proofs.Common.{◌∙◌}
use Rattle.ga_expand.proofs.Written.{finished, finished_ascii}
use Rattle.ga_expand.proofs.writing.Writer.finish.Goals as goal

pub string_of-requires : goal.string_of-requires
string_of-requires c =
    finished_ascii c.args.self.text.items c.push.new.self.items c.requires
    c.in_ok-push.ensures.items

pub returns : goal.returns
returns c =
    finished c.args.self c.string_of.result.bytes.items
    (c.string_of.ensures ∙ c.in_ok-push.ensures.items)
