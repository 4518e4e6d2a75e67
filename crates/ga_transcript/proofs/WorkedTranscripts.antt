-- The results of transcripts, worked out by hand.
use Rattle.std.proofs.Common.{◌≡◌, ℕ, List, [], ◌∷◌, ◌++◌, Result, Ok, Err, refl}
use Rattle.std.specs.Fmt.{digits}
use Rattle.std.specs.Prelude.{codes}
use Rattle.ga_place.specs.Cell.{all_cells, cell_of}
use Rattle.ga_node.specs.Need.{need_of}
use Rattle.ga_chip.specs.Chip.{reset_chip, tried}
use Rattle.ga_chip.specs.Part.{after, asks}
use Rattle.ga_chip.specs.Run.{happened}
use Rattle.ga_debug.specs.declared.replay_error.ReplayError.{ReplayError}
use Rattle.ga_debug.specs.Beginning.{Start}
use Rattle.ga_debug.specs.Command.{command_first, command_in}
use Rattle.ga_debug.specs.Head.{Head, head_in}
use Rattle.ga_debug.specs.Profile.{SESSION_PROFILE}
use Rattle.ga_transcript.specs.Check.{Differs, EarlyReply, Fault, Head as BadHead, checked_from}
use Rattle.ga_transcript.specs.Compare.{View, compared_from, comparison_of, difference_text, excerpt}
use Rattle.ga_transcript.specs.Following.{Lines}
use Rattle.ga_transcript.specs.Line.{Command, Note, Reply, as_reply, kind_of}
use Rattle.ga_transcript.specs.Record.{recorded_from}
use Rattle.ga_transcript.specs.Reply.{reply_lines}

-- ---- lines

kinds : (kind_of (codes "> turn 4") ≡ Command (codes "turn 4"))
    × (kind_of (codes "> ") ≡ Command [])
    -- a sign without a space is a line of a reply
    × (kind_of (codes ">") ≡ Reply)
    × (kind_of (codes "\\ a comment") ≡ Note)
    × (kind_of [] ≡ Note)
    × (kind_of (codes "moved 4") ≡ Reply)
unfolding kind_of
kinds = (refl, refl, refl, refl, refl, refl)

-- a line of a reply that would be read as something else is behind a sign of its own
quoted : (as_reply (codes "moved 4") ≡ codes "moved 4")
    × (as_reply (codes "> 4") ≡ codes ". > 4")
    × (as_reply (codes "\\ 4") ≡ codes ". \\ 4")
    × (as_reply [] ≡ codes ". ")
unfolding kind_of
quoted = (refl, refl, refl, refl)

-- the lines of a reply
lines : (reply_lines (codes "moved 4") ≡ codes "moved 4" ∷ [])
    × (reply_lines (codes "ds\n\nrs") ≡ codes "ds" ∷ codes ". " ∷ codes "rs" ∷ [])
    × (reply_lines [] ≡ [])
unfolding kind_of
lines = (refl, refl, refl)

-- ---- whole transcripts, of a chip after reset

start_of : Head → Start
start_of head =
    record { chip = reset_chip; images = []; line = head.line; commands = head.commands }

check_by : Result Head ReplayError → Result ℕ Fault
check_by (Ok head) = checked_from (start_of head)
check_by (Err error) = Err (BadHead error)

record_by : List ℕ → Result Head ReplayError → Result (List ℕ) Fault
record_by text (Ok head) = recorded_from text (start_of head)
record_by text (Err error) = Err (BadHead error)

-- each reply is right, with a comment and an empty line in between
right : check_by (head_in SESSION_PROFILE (codes
    "profile 2\nplace\ngo\n> try 709 r\n\\ it waits\nwaits\n\n> pass 709\nrefused NotHeld\n"))
    ≡ Ok 2
unfolding check_by start_of checked_from kind_of command_in command_first head_in tried after asks
    need_of reset_chip cell_of all_cells
right = refl

-- the second command replies something else
differs : check_by (head_in SESSION_PROFILE
    (codes "profile 2\nplace\ngo\n> try 709 r\nwaits\n> try 709 r\nmoved\n> pass 709\nok"))
    ≡ Err (Differs 6 (codes "-moved\n+waits"))
unfolding check_by start_of checked_from kind_of command_in command_first head_in tried after asks
    need_of reset_chip cell_of all_cells
differs = refl

-- a reply that is missing differs too
missing : check_by (head_in SESSION_PROFILE (codes "profile 2\nplace\ngo\n> halt"))
    ≡ Err (Differs 4 (codes "+refused BadCommand"))
unfolding check_by start_of checked_from kind_of command_in command_first head_in reset_chip
missing = refl

-- a reply before all commands
early : check_by (head_in SESSION_PROFILE
    (codes "profile 2\nplace\ngo\n\\ a comment\nwaits\n> try 709 r\nwaits")) ≡ Err (EarlyReply 5)
unfolding check_by start_of checked_from kind_of head_in
early = refl

compare_by : Result Head ReplayError → Result View Fault
compare_by (Ok head) = compared_from (codes "t") (start_of head)
compare_by (Err error) = Err (BadHead error)

-- all differences are reported
all_differences : compare_by (head_in SESSION_PROFILE
    (codes "profile 2\nplace\ngo\n> try 709 r\nmoved\n> halt\n> try 709 r\nwaits\n")) ≡ Ok (record {
      commands = 3;
      differences = 2;
      report = codes
          "t:4: differs: > try 709 r\n-moved\n+waits\nt:6: differs: > halt\n+refused BadCommand\n";
    })
unfolding compare_by start_of compared_from comparison_of difference_text kind_of command_in
    command_first head_in tried after asks need_of reset_chip cell_of all_cells digits
all_differences = refl

five : Lines
five = codes "a" ∷ codes "b" ∷ codes "c" ∷ codes "d" ∷ codes "e" ∷ []

-- ten lines are shown whole, and of twelve it is said that there are two more
excerpts : (excerpt 45 (five ++ five)
    ≡ codes "-a\n-b\n-c\n-d\n-e\n-a\n-b\n-c\n-d\n-e\n")
    × (excerpt 43 (five ++ (codes "x" ∷ codes "y" ∷ five))
    ≡ codes "+a\n+b\n+c\n+d\n+e\n+x\n+y\n+a\n+b\n+c\n  and 2 more\n")
unfolding five digits
excerpts = (refl, refl)

-- the replies that stood there are left out
recorded_once : record_by
    (codes "profile 2\nplace\ngo\n> try 709 r\nmoved\nmoved\n\n> break 709 003\n") (head_in
    SESSION_PROFILE (codes "profile 2\nplace\ngo\n> try 709 r\nmoved\nmoved\n\n> break 709 003\n"))
    ≡ Ok (codes "profile 2\nplace\ngo\n> try 709 r\nwaits\n\n> break 709 003\nok\n")
unfolding record_by start_of recorded_from kind_of command_in command_first head_in happened tried
    after asks need_of reset_chip cell_of all_cells
recorded_once = refl
