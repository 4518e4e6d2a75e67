-- The results of texts and commands, worked out by hand.
use Rattle.std.proofs.Common.{◌≡◌, ℕ, List, [], ◌∷◌, Option, Some, None, Result, Ok, Err, length, take, refl}
use Rattle.std.specs.Prelude.{codes, option_map}
use Rattle.std.specs.Option.{option_map_or}
use Rattle.ga_place.specs.Cell.{all_cells, cell_of}
use Rattle.ga_place.specs.declared.side.Side.TheVariants.{Down, Right}
use Rattle.ga_node.specs.Need.{need_of}
use Rattle.ga_asm.specs.Image.{ImageView}
use Rattle.ga_path.specs.declared.error.BootError.TheVariants.{Unreached}
use Rattle.ga_path.specs.declared.error.RouteError.TheVariants.{NotNeighbour}
use Rattle.ga_path.specs.declared.error.TreeError.TheVariants.{OtherRoot, Repeated}
use Rattle.ga_chip.specs.Chip.{Chip, part_of, placed, reset_chip, state_of, streamed, tried}
use Rattle.ga_chip.specs.Part.{after, asks}
use Rattle.ga_chip.specs.Run.{SetBreak, happened}
use Rattle.ga_chip.specs.declared.outcome.Outcome.TheVariants.{Held, Stopped}
use Rattle.ga_chip.specs.declared.outcome.Outcome.TheVariants as outcome
use Rattle.ga_debug.specs.declared.commands.Answer.TheVariants.{Done, Moved, Tried}
use Rattle.ga_debug.specs.declared.command.Arguments.{Arguments}
use Rattle.ga_debug.specs.declared.command.Command.{Command}
use Rattle.ga_debug.specs.declared.error.DebugError.{DebugError}
use Rattle.ga_debug.specs.declared.error.DebugError.TheVariants.{BadAddress, BadCommand, BadCount, BadNode, BadSide, NotHeld}
use Rattle.ga_debug.specs.declared.profile.Profile.TheVariants.{One, Two}
use Rattle.ga_debug.specs.declared.replay_error.ReplayError.{ReplayError}
use Rattle.ga_debug.specs.declared.replay_error.ReplayError.TheVariants.{BadProfile, BadRoute, Boot, NoGo, Route, Tree}
use Rattle.ga_debug.specs.Beginning.{chip_of}
use Rattle.ga_debug.specs.declared.replaying.LineError.TheVariants.{Bad, Differs}
use Rattle.ga_debug.specs.declared.commands.Action.TheVariants.{Break, Pass, Try, Turn, Until}
use Rattle.ga_debug.specs.declared.commands.Verb.TheVariants.{Act, Show}
use Rattle.ga_debug.specs.declared.commands.View.TheVariants.{Mem}
use Rattle.ga_debug.specs.Command.{NOTHING, command_first, command_in}
use Rattle.ga_debug.specs.Head.{head_in}
use Rattle.ga_debug.specs.Profile.{did_as, is_left_out, profile_in}
use Rattle.ga_debug.specs.Replaying.{line_on, lines_on, stated_answer, statement_in}
use Rattle.ga_debug.specs.Session.{replied}
use Rattle.ga_debug.specs.Word.{decimal_of}

-- ---- heads

heads : (head_in Two (codes "profile 2\nroute 708,709\nnode 709 .\n\ngo\ntry 709 r = waits")
    ≡ Ok (record {
      loading = Some ((708 ∷ 709 ∷ []) ∷ []);
      source = codes "node 709 .\n\n";
      line = 5;
      commands = codes "try 709 r = waits" ∷ [];
    })) × (head_in Two [] ≡ Err BadProfile)
    × (head_in Two (codes "profile 2\nroute 708 709\ngo") ≡ Err BadRoute)
    -- a blank behind it, and the line is no `go`
    × (head_in Two (codes "profile 2\nplace\nnode 000 .\ngo ") ≡ Err NoGo)
    -- a head of one profile is none of the other
    × (head_in Two (codes "profile 1\nplace\ngo") ≡ Err BadProfile)
    × (head_in One (codes "profile 1\nplace\ngo")
    ≡ Ok (record { loading = None; source = []; line = 3; commands = [] }))
unfolding head_in
heads = (refl, refl, refl, refl, refl, refl)

profiles : (profile_in (codes "profile 1\nplace") ≡ One)
    × (profile_in (codes "profile 1 ") ≡ Two)
    × (profile_in [] ≡ Two)
unfolding profile_in
profiles = (refl, refl, refl)

-- ---- what a head loads

-- an image of one word, of which the words are in the node's memory
one_word : ImageView
one_word =
    record { words = 0x2C9B2 ∷ []; code_len = 1; entry = 0; labels = []; item_counts = 1 ∷ [] }

ram_of : Result Chip ReplayError → ℕ → Option (List ℕ)
ram_of (Ok chip) name = option_map (λ state. take 2 state.ram) (state_of chip name)
ram_of (Err fault) name = None

placed_709 : ram_of (chip_of None ((709, one_word) ∷ [])) 709 ≡ Some (0x2C9B2 ∷ 0 ∷ [])
unfolding ram_of one_word placed reset_chip
placed_709 = refl

-- the first node of a route has the stream, of 14 words that load and 7 that start
stream_of : Result Chip ReplayError → ℕ → Option ℕ
stream_of (Ok chip) name =
    option_map (λ part. option_map_or length part.stream 0) (part_of chip name)
stream_of (Err fault) name = None

booted_708 : stream_of (chip_of (Some ((708 ∷ 709 ∷ []) ∷ [])) ((709, one_word) ∷ [])) 708 ≡ Some 21
unfolding stream_of one_word streamed reset_chip
booted_708 = refl

-- a tree of two routes: 25 words that load and 11 that start; its faults come behind those of
-- routes
booted_fork : stream_of (chip_of (Some ((708 ∷ 709 ∷ []) ∷ (708 ∷ 608 ∷ []) ∷ []))
    ((709, one_word) ∷ (608, one_word) ∷ [])) 708 ≡ Some 36
unfolding stream_of one_word streamed reset_chip
booted_fork = refl

refused_trees : (chip_of (Some ((708 ∷ 709 ∷ 609 ∷ []) ∷ (708 ∷ 608 ∷ 609 ∷ []) ∷ [])) []
    ≡ Err (Tree (Repeated 1)))
    × (chip_of (Some ((708 ∷ 709 ∷ []) ∷ (0 ∷ 1 ∷ []) ∷ [])) [] ≡ Err (Tree (OtherRoot 1)))
    × (chip_of (Some ((708 ∷ 709 ∷ []) ∷ (708 ∷ 710 ∷ []) ∷ (0 ∷ 1 ∷ []) ∷ [])) []
    ≡ Err (Route (NotNeighbour 1)))
refused_trees = (refl, refl, refl)

refused_routes : (chip_of (Some ((708 ∷ 710 ∷ []) ∷ [])) [] ≡ Err (Route (NotNeighbour 1)))
    × (chip_of (Some ((708 ∷ 709 ∷ []) ∷ [])) ((710, one_word) ∷ []) ≡ Err (Boot (Unreached 710)))
refused_routes = (refl, refl)

-- ---- commands

of_node : ℕ → Arguments
of_node node = record NOTHING { node = node }

at_address : ℕ → ℕ → Arguments
at_address node address = record (of_node node) { address = address }

of_session : List ℕ → Result Command DebugError
of_session line = command_in None line

commands : (of_session (codes "break 709 1fF")
    ≡ Ok (record { verb = Act Break; given = at_address 709 0x1FF }))
    × (of_session (codes "mem 000") ≡ Ok (record { verb = Show Mem; given = of_node 0 }))
    × (of_session (codes "turn 1000000")
    ≡ Ok (record { verb = Act Turn; given = record NOTHING { count = 1000000 } }))
    × (of_session (codes "turn 1000001") ≡ Err BadCount)
    × (of_session (codes "break 720 200") ≡ Err BadNode)
    × (of_session (codes "break 717 200") ≡ Err BadAddress)
    × (of_session (codes "try 709 R") ≡ Err BadSide)
    -- a blank at the end has an empty word behind it
    × (of_session (codes "regs 709 ") ≡ Err BadCommand)
    -- sessions don't have the commands of transcripts
    × (of_session (codes "where") ≡ Err BadCommand)
unfolding of_session of_node at_address command_in command_first decimal_of
commands = (refl, refl, refl, refl, refl, refl, refl, refl, refl)

-- in a transcript node 709 has a label at 2
labelled : List (ℕ × ImageView)
labelled = (709, record one_word { labels = (codes "more", 2) ∷ [] }) ∷ []

in_transcript : List ℕ → Result Command DebugError
in_transcript line = command_in (Some labelled) line

until_more : ℕ → Command
until_more count = record { verb = Act Until; given = record (at_address 709 2) { count = count } }

of_transcripts : (in_transcript (codes "break 709 1fF")
    ≡ Ok (record { verb = Act Break; given = at_address 709 0x1FF })) × (in_transcript
    (codes "break 709 more") ≡ Ok (record { verb = Act Break; given = at_address 709 2 }))
    × (in_transcript (codes "clear 708 more") ≡ Err BadAddress)
    × (in_transcript (codes "until 709 more 5") ≡ Ok (until_more 5))
    × (in_transcript (codes "until 709 more") ≡ Ok (until_more 1000000))
    × (in_transcript (codes "until 709 more x") ≡ Err BadCount)
    × (in_transcript (codes "node 718") ≡ Err BadNode)
    × (in_transcript (codes "where 709") ≡ Err BadCommand) × (in_transcript (codes "turn 5")
    ≡ Ok (record { verb = Act Turn; given = record NOTHING { count = 5 } }))
unfolding in_transcript labelled one_word until_more at_address of_node command_in command_first
    decimal_of
of_transcripts = (refl, refl, refl, refl, refl, refl, refl, refl, refl)

-- ---- replies

replies : ((replied None (codes "try 709 r") reset_chip).0 ≡ Ok (codes "waits"))
    × ((replied None (codes "pass 709") reset_chip).0 ≡ Err NotHeld)
unfolding command_in command_first tried after asks need_of reset_chip cell_of all_cells
replies = (refl, refl)

-- ---- what is stated

statements : (statement_in (codes "try 709 d = held") ≡ Ok
    (record { action = Try; given = record (of_node 709) { side = Down }; stated = Tried Held }))
    × (statement_in (codes "turn 1 = 000000002")
    ≡ Ok (record { action = Turn; given = record NOTHING { count = 1 }; stated = Moved 2 }))
    × (statement_in (codes "turn 1 = 0000000002") ≡ Err BadCommand)
    -- replays don't have the commands that show something
    × (statement_in (codes "regs 709") ≡ Err BadCommand)
unfolding statement_in of_node command_first stated_answer decimal_of
statements = (refl, refl, refl, refl)

replays : (lines_on Two 5 0 reset_chip (codes "break 709 003" ∷ [] ∷ codes "try 709 r = waits" ∷ [])
    ≡ Ok 1) × (lines_on Two 5 0 reset_chip
    ([] ∷ codes "try 709 r = moved" ∷ codes "no command" ∷ []) ≡ Err (Differs 6))
    × (lines_on Two 5 0 reset_chip (codes "try 709 r" ∷ []) ≡ Err (Bad 5 BadCommand))
unfolding line_on did_as statement_in command_first stated_answer happened tried after asks need_of
    reset_chip cell_of all_cells
replays = (refl, refl, refl)

-- ---- what profile 1 means

-- 000 is about to fetch in extended mode
extended_000 : Chip
extended_000 = placed reset_chip 0 (0x2C9B2 ∷ []) 0x200

-- a try of it is stopped, though the chip would move it, and a pass is refused
stopped_000 : ((did_as One Try (of_node 0) extended_000).0 ≡ Ok (Tried Stopped))
    × ((did_as Two Try (of_node 0) extended_000).0 ≡ Ok (Tried outcome.Moved))
    × ((did_as One Pass (of_node 0) (happened extended_000 (SetBreak 0 0))).0 ≡ Err NotHeld)
    × ((did_as Two Pass (of_node 0) (happened extended_000 (SetBreak 0 0))).0 ≡ Ok Done)
unfolding did_as of_node is_left_out extended_000 placed happened tried after asks need_of
    reset_chip cell_of all_cells
stopped_000 = (refl, refl, refl, refl)
