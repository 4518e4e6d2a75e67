-- A session that goes on: what opens it, what a command does to it, and what going back leaves of
-- it.
use Rattle.std.specs.Prelude.{◌≡◌, ◌==◌, ℕ, suc, ◌+◌, ◌-◌, List, [], ◌∷◌, ◌++◌, codes, take, Result, Ok, if◌then◌else◌}
use Rattle.ga_pack.specs.Model.Text.{lines_of}
use Rattle.ga_chip.specs.Chip.{Chip}
use Rattle.ga_debug.specs.declared.beginning.Program.{Program}
use Rattle.ga_debug.specs.Beginning.{IsLoaded, Start}
use Rattle.ga_transcript.specs.Check.{Fault, IsBehindHead, unless_early}
use Rattle.ga_transcript.specs.Following.{Lines, Step, early_reply}
use Rattle.ga_transcript.specs.Line.{by_kind, kind_of}
use Rattle.ga_transcript.specs.Record.{lines_text}
use Rattle.ga_transcript.specs.Reply.{program_of, step_from, step_of}

-- A transcript, the program of its head, and the chip behind its last command.
pub record LiveView : Type 0 where
  pub text : List ℕ
  pub program : Program
  pub chip : Chip

-- what is behind the commands of lines
abbrev pub state_behind : {S : Type 0} → Step S → S → Lines → S
state_behind step state [] = state
state_behind step state (line ∷ lines) =
    by_kind (kind_of line)
    (λ command. state_behind step (step command state).1 lines)
    (state_behind step state lines)
    (state_behind step state lines)

-- the session of a text with this start
abbrev pub live_from : List ℕ → Start → LiveView
live_from text start = record {
  text = text;
  program = program_of start;
  chip = state_behind (step_from start) start.chip start.commands;
}

abbrev pub opened_from : List ℕ → Start → Result LiveView Fault
opened_from text start =
    unless_early (early_reply (start.line + 1) start.commands) (Ok (live_from text start))

-- The session that a transcript opens, whose replies aren't compared; or its first fault: of its
-- head, or else a reply before all commands.
abbrev pub IsOpened : List ℕ → Result LiveView Fault → Type 0
IsOpened text answer = IsBehindHead text (opened_from text) answer

-- a session after one more command, whose line has no LF
abbrev pub said : List ℕ → LiveView → LiveView
said command live = record {
  text = live.text ++ 10 ∷ (codes "> " ++ command);
  program = live.program;
  chip = (step_of live.program command live.chip).1;
}

-- how many lines are commands
abbrev pub command_count : Lines → ℕ
command_count [] = 0
command_count (line ∷ lines) =
    by_kind (kind_of line) (λ command. suc (command_count lines)) (command_count lines)
    (command_count lines)

-- the lines before the command of a number, which counts from 0
abbrev pub before_command : ℕ → Lines → Lines
before_command number [] = []
before_command number (line ∷ lines) =
    by_kind (kind_of line)
    (λ command. if number == 0 then [] else line ∷ before_command (number - 1) lines)
    (line ∷ before_command number lines)
    (line ∷ before_command number lines)

-- a transcript without a number of its last commands, and what stands behind these
abbrev pub IsBefore : ℕ → List ℕ → List ℕ → Type 0
IsBefore count text before =
    (start : Start) × IsLoaded text (Ok start)
    × (before ≡ lines_text (take start.line (lines_of text)
    ++ before_command (command_count start.commands - count) start.commands))

-- a session that went back by a number of commands: the chip is that of those that are left
abbrev pub IsBack : ℕ → LiveView → LiveView → Type 0
IsBack count old new =
    (before : List ℕ) × IsBefore count old.text before × IsOpened before (Ok new)
