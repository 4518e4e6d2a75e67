use Rattle.std.proofs.Common.{◌≡◌, Some}
use Rattle.ga_pack.specs.Model.Source.{Plain, part_after}
use Rattle.ga_source.specs.Item.{value_of}
use Rattle.ga_source.specs.inner.Parser.{state_of, inside_of, section_part}
use Rattle.ga_source.proofs.ParserSteps.{answered_added, plain_data, plain_owed}
use Rattle.ga_source.proofs.parser.Parser.add_plain.Goals as goal
use Rattle.ga_source.proofs.parser.Parser.add_plain.Goals.{in-Code, in-Data}

pub returns : goal.returns
returns c =
    let self = c.args.self.now in
    let part = c.match-self.part in
    let v = value_of c.args.value in
    let stands : part_after (section_part self.part) (Plain v) ≡ Some (section_part part) =
    elim c.match-self.branch [
      | in-Code w ↦ plain_owed self.part part w.in-Code.owed v w.in-Code.is w.part-is
          (c.requires.owed w.in-Code.owed w.in-Code.is)
      | in-Data w ↦ plain_data self.part part v w.in-Data.is w.part-is
    ] in
    answered_added (inside_of self) (Plain v) (section_part part) c.add.result
    (state_of c.add.new.self) stands
    c.add.ensures.ok
    c.add.ensures.err
