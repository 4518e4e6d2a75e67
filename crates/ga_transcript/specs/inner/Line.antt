-- The kinds of lines, as the code returns them.
use Rattle.ga_transcript.specs.declared.line.Line.{Line}
use Rattle.ga_transcript.specs.declared.line.Line.TheVariants as code
use Rattle.ga_transcript.specs.Line.{Kind, Command, Note, Reply}

abbrev pub kind : Line → Kind
kind (code.Command text) = Command text.now
kind code.Note = Note
kind code.Reply = Reply
