-- What a node is about to do, and what it did in a turn.
use Rattle.std.specs.Prelude.{ℕ, List, ◌++◌, codes, unwrap_or}
use Rattle.ga_place.specs.Side.{one_side}
use Rattle.ga_place.specs.declared.side.Side.{Side}
use Rattle.ga_node.specs.declared.need.Need.{Need}
use Rattle.ga_node.specs.declared.need.Need.TheVariants as need
use Rattle.ga_dump.specs.Side.{side_text}
use Rattle.ga_wave.specs.declared.deed.Did.{Did}
use Rattle.ga_wave.specs.declared.deed.Did.TheVariants as did
use Rattle.ga_wave.specs.declared.deed.Intent.{Intent}
use Rattle.ga_wave.specs.declared.deed.Intent.TheVariants as intent

-- what a node of a need is about to do
abbrev pub intent_of : Need → Intent
intent_of need.Own = intent.Work
intent_of (need.Take sides) = intent.Take (one_side sides)
intent_of (need.Post side word) = intent.Post side word
intent_of (need.Check side) = intent.Check side
intent_of need.Input = intent.Input
intent_of (need.Stopped stop) = intent.Stop

-- What it did by a step in a turn with a side: a multiport read takes at this side.
abbrev pub step_did : Side → Intent → Did
step_did side intent.Work = did.Works
step_did side (intent.Take own) = did.Takes (unwrap_or own side)
step_did side (intent.Post at word) = did.Posts at
step_did side (intent.Check at) = did.SeesRead at
step_did side intent.Input = did.TakesInput
step_did side intent.Stop = did.Stopped

-- without a step, if it wasn't held (only a node that is held makes none of its own)
abbrev pub rest_did : Intent → Did
rest_did intent.Work = did.Held
rest_did (intent.Take own) = did.AwaitsWord
rest_did (intent.Post at word) = did.AwaitsReader
rest_did (intent.Check at) = did.AwaitsReader
rest_did intent.Input = did.AwaitsInput
rest_did intent.Stop = did.Stopped

abbrev pub post_text : Side → List ℕ
post_text side = codes "posts_" ++ side_text side

abbrev pub take_text : Side → List ℕ
take_text side = codes "takes_" ++ side_text side

abbrev pub read_text : Side → List ℕ
read_text side = codes "sees_" ++ side_text side ++ codes "_read"

-- its name, which has no blanks
abbrev pub did_text : Did → List ℕ
did_text did.Works = codes "works"
did_text did.Spins = codes "spins"
did_text (did.Posts side) = post_text side
did_text (did.Takes side) = take_text side
did_text (did.SeesRead side) = read_text side
did_text did.TakesInput = codes "takes_input"
did_text did.AwaitsWord = codes "awaits_word"
did_text did.AwaitsReader = codes "awaits_reader"
did_text did.AwaitsInput = codes "awaits_input"
did_text did.Held = codes "held"
did_text did.Stopped = codes "stopped"
