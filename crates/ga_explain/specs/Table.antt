-- The table: each name with the line that is shown behind a fault of this name (empty if none is),
-- and with its text. The texts themselves are only in the program.
use Rattle.std.specs.Prelude.{◌∷◌, ◌++◌, [], List, codes, fold}
use Rattle.ga_explain.specs.Topic.{Entry}
use Rattle.ga_explain.specs.declared.source.TheConstants.{BAD_TOKEN, NUMBER_RANGE, BAD_NODE, DUPLICATE_NODE, DUPLICATE_LABEL, RESERVED_LABEL, OPEN_BRACKET, BAD_WORD, NO_NODE, EMPTY}
use Rattle.ga_explain.specs.declared.layout.TheConstants.{UNDEFINED_LABEL, OUT_OF_REACH, UNEXT_ALONE, TOO_LONG}
use Rattle.ga_explain.specs.declared.larger.TheConstants.{RESERVED_NAME, DUPLICATE_NAME, OPEN_DEFINITION, NO_NEIGHBOUR, UNKNOWN_BODY, TOO_LARGE, MIXED_SIDES}
use Rattle.ga_explain.specs.declared.includes.TheConstants.{BAD_INCLUDE, INCLUDE_CYCLE, INCLUDE_DEPTH, INCLUDE_COUNT, INCLUDE_SIZE}
use Rattle.ga_explain.specs.declared.warnings.TheConstants.{UNEXT_REPEATS, SPLIT_LOOP, RUNS_OFF, PUSHES_TOO_MANY, POPS_TOO_MANY, UNUSED_LABEL, UNREACHABLE, SEVERAL_PORTS, RETURNS_NOWHERE, LEAVES_EXTENDED, OVER_MEMORY, INTO_DATA, BEGINS_IN_DATA, READS_IO, EDGE_PORT}
use Rattle.ga_explain.specs.declared.routes.TheConstants.{BAD_ROUTE, NOT_EDGE, NOT_NEIGHBOUR, REPEATED, OTHER_ROOT, UNREACHED}
use Rattle.ga_explain.specs.declared.sessions.TheConstants.{BAD_COMMAND, BAD_ADDRESS, BAD_SIDE, BAD_COUNT, BAD_VALUE, NOT_HELD, BAD_PROFILE, NO_GO, SOURCE, ASM, ROUTE, TREE, BOOT, EARLY_REPLY, DIFFERS}
use Rattle.ga_explain.specs.declared.input.TheConstants.{READ, NO_FILE, FOLDER, NOT_A_FILE, OUTSIDE, EXISTS, NO_NAME, BAD_TEXT, BAD_CODE, WRITE, REFUSED_WRITE, MEMORY, REFUSED_MEMORY}
use Rattle.ga_explain.specs.declared.needs.TheConstants.{OWN, TAKE, POST, CHECK, INPUT, STOPPED, COUNTED, IO_READ, ROM, UNMAPPED, MULTI_WRITE}
use Rattle.ga_explain.specs.declared.language.TheConstants.{CONST, BODY, USE, INCLUDE, TO}
use Rattle.ga_explain.specs.declared.terms.TheConstants.{CARRY, MOVED, WAITS, HELD, STUCK, RING, RACE, TURN, PLACE, STEP, SLOT, FOLLOWER, PROFILE}

-- the faults of source text
unfoldable pub source_entries : List Entry
source_entries = (
  codes "BadToken",
  codes "a token that the language doesn't have, or one that may not stand there",
  BAD_TOKEN.now,
) ∷ (
  codes "NumberRange",
  codes "a number over $3FFFF, a destination over $3FF outside brackets, or a division by 0",
  NUMBER_RANGE.now,
) ∷ (
  codes "BadNode",
  codes "no name of a node: three digits, the row 0 to 7 and the column 00 to 17",
  BAD_NODE.now,
) ∷
    (codes "DuplicateNode", codes "a node that has a section already", DUPLICATE_NODE.now) ∷
    (codes "DuplicateLabel", codes "a label that its node has already", DUPLICATE_LABEL.now) ∷ (
      codes "ReservedLabel",
      codes "a label with a name that the language has for something else",
      RESERVED_LABEL.now,
    ) ∷ (
      codes "OpenBracket",
      codes "a [ that has no ] before the next [ or the text's end",
      OPEN_BRACKET.now,
    ) ∷ (
      codes "BadWord",
      codes "what can't stand in this word, or a follower that the word before lacks",
      BAD_WORD.now,
    ) ∷ (
      codes "NoNode",
      codes "something before the first 'node', or a text without one",
      NO_NODE.now,
    ) ∷
    (codes "Empty", codes "a section that makes no word", EMPTY.now) ∷
    []

-- the faults of layout
unfoldable pub layout_entries : List Entry
layout_entries =
    (codes "UndefinedLabel", codes "a name that is no label of its node", UNDEFINED_LABEL.now) ∷ (
      codes "OutOfReach",
      codes "a label that the destination of its slot doesn't reach",
      OUT_OF_REACH.now,
    ) ∷ (
      codes "UnextAlone",
      codes "an unext that would begin a word, where it repeats itself alone",
      UNEXT_ALONE.now,
    ) ∷
    (codes "TooLong", codes "an item that would need the 65th word of its node", TOO_LONG.now) ∷
    []

-- the faults of texts of the larger language
unfoldable pub larger_entries : List Entry
larger_entries = (
  codes "ReservedName",
  codes "a name that the language has for something else",
  RESERVED_NAME.now,
) ∷
    (codes "DuplicateName", codes "a name that is defined already", DUPLICATE_NAME.now) ∷ (
      codes "OpenDefinition",
      codes "a definition or a use that isn't complete",
      OPEN_DEFINITION.now,
    ) ∷ (
      codes "NoNeighbour",
      codes "no neighbour of the node, or a direction in which the chip ends",
      NO_NEIGHBOUR.now,
    ) ∷
    (codes "UnknownBody", codes "no body before it has this name", UNKNOWN_BODY.now) ∷ (
      codes "TooLarge",
      codes "over 256 bodies, 64 parameters, or 262,144 tokens of all 'use' or all lists",
      TOO_LARGE.now,
    ) ∷ (
      codes "MixedSides",
      codes "a '|' that joins the address of sides and another number",
      MIXED_SIDES.now,
    ) ∷
    []

-- the faults of lines that include a file
unfoldable pub includes_entries : List Entry
includes_entries = (
  codes "BadInclude",
  codes "an include needs the name of one file in quotation marks",
  BAD_INCLUDE.now,
) ∷ (
  codes "IncludeCycle",
  codes "a file that includes itself, directly or through others",
  INCLUDE_CYCLE.now,
) ∷ (
  codes "IncludeDepth",
  codes "files that include one another more than 16 deep",
  INCLUDE_DEPTH.now,
) ∷
    (codes "IncludeCount", codes "a text of more than 64 files", INCLUDE_COUNT.now) ∷ (
      codes "IncludeSize",
      codes "here the text gets longer than 1,048,576 bytes",
      INCLUDE_SIZE.now,
    ) ∷
    []

-- the warnings of `lint`
unfoldable pub warnings_entries : List Entry
warnings_entries = (
  codes "UnextRepeats",
  codes "each round of this 'unext' also runs the 'push' or the number in its word",
  UNEXT_REPEATS.now,
) ∷ (
  codes "SplitLoop",
  codes "a loop by 'unext' that begins in a new word only since the last one was full",
  SPLIT_LOOP.now,
) ∷ (
  codes "RunsOff",
  codes "the last word of the code, and execution goes on behind it",
  RUNS_OFF.now,
) ∷ (
  codes "PushesTooMany",
  codes "an eleventh word on the data stack: the first one is lost",
  PUSHES_TOO_MANY.now,
) ∷ (
  codes "PopsTooMany",
  codes "a word taken from the data stack that the node never pushed",
  POPS_TOO_MANY.now,
) ∷ (
  codes "UnusedLabel",
  codes "a label that no item names, at code that never runs",
  UNUSED_LABEL.now,
) ∷ (
  codes "Unreachable",
  codes "code that never runs: nothing leads to it",
  UNREACHABLE.now,
) ∷ (
  codes "SeveralPorts",
  codes "the address of several sides, to which the node writes: that stops it",
  SEVERAL_PORTS.now,
) ∷ (
  codes "ReturnsNowhere",
  codes "a ';' without a call or a push before it",
  RETURNS_NOWHERE.now,
) ∷ (
  codes "LeavesExtended",
  codes "a destination in slot 0 that leaves extended mode",
  LEAVES_EXTENDED.now,
) ∷ (
  codes "OverMemory",
  codes "a destination where the node has no word to run",
  OVER_MEMORY.now,
) ∷ (
  codes "IntoData",
  codes "a destination at a number or at data, which is run as code",
  INTO_DATA.now,
) ∷ (
  codes "BeginsInData",
  codes "the node begins at a number or at data, which is run as code",
  BEGINS_IN_DATA.now,
) ∷ (
  codes "ReadsIo",
  codes "an '@b' before any 'b!' reads io, which stops the node",
  READS_IO.now,
) ∷ (
  codes "EdgePort",
  codes "a side without a neighbour, to which the node writes: it waits for ever",
  EDGE_PORT.now,
) ∷
    []

-- the faults of routes, of trees and of boots
unfoldable pub routes_entries : List Entry
routes_entries = (
  codes "BadRoute",
  codes "the second line is neither 'place' nor 'route' and names of nodes",
  BAD_ROUTE.now,
) ∷
    (codes "NotEdge", [], NOT_EDGE.now) ∷
    (codes "NotNeighbour", [], NOT_NEIGHBOUR.now) ∷
    (codes "Repeated", [], REPEATED.now) ∷
    (codes "OtherRoot", [], OTHER_ROOT.now) ∷
    (codes "Unreached", [], UNREACHED.now) ∷
    []

-- the refusals of commands, and faults of replay texts
unfoldable pub sessions_entries : List Entry
sessions_entries = (
  codes "BadCommand",
  codes "no command here, or words behind it are missing, wrong or left over",
  BAD_COMMAND.now,
) ∷
    (codes "BadAddress", codes "no address: three hex digits, at most 1FF", BAD_ADDRESS.now) ∷
    (codes "BadSide", codes "no side: r, d, l or u", BAD_SIDE.now) ∷
    (codes "BadCount", codes "no count: one to seven digits, at most 1000000", BAD_COUNT.now) ∷
    (codes "BadValue", [], BAD_VALUE.now) ∷
    (codes "NotHeld", codes "a node that isn't held at a breakpoint", NOT_HELD.now) ∷
    (codes "BadProfile", [], BAD_PROFILE.now) ∷
    (codes "NoGo", codes "no line is 'go'", NO_GO.now) ∷
    (codes "Source", [], SOURCE.now) ∷
    (codes "Asm", [], ASM.now) ∷ (
      codes "Route",
      codes "nodes that are no route: from an edge on, from neighbour to new neighbour",
      ROUTE.now,
    ) ∷ (
      codes "Tree",
      codes "routes that are no tree: from one first node, and no node by two ways",
      TREE.now,
    ) ∷
    (codes "Boot", codes "a route without a node that the source text has", BOOT.now) ∷ (
      codes "EarlyReply",
      codes "a line that is no command or comment, with no command before it",
      EARLY_REPLY.now,
    ) ∷
    (codes "differs", codes "the result isn't the one that this line states", DIFFERS.now) ∷
    []

-- the faults of the input and of the output
unfoldable pub input_entries : List Entry
input_entries =
    (codes "read", codes "the file can't be opened or read", READ.now) ∷
    (codes "NoFile", codes "no file has this name", NO_FILE.now) ∷
    (codes "Folder", codes "the name of a folder, not of a file", FOLDER.now) ∷
    (codes "NotAFile", codes "the name of something that isn't a regular file", NOT_A_FILE.now) ∷ (
      codes "Outside",
      codes "a source that isn't in the folder of the file that names it, or below",
      OUTSIDE.now,
    ) ∷
    (codes "Exists", [], EXISTS.now) ∷
    (codes "NoName", [], NO_NAME.now) ∷
    (codes "BadText", codes "a text that isn't UTF-8", BAD_TEXT.now) ∷
    (codes "BadCode", [], BAD_CODE.now) ∷
    (codes "write", [], WRITE.now) ∷
    (codes "Write", [], REFUSED_WRITE.now) ∷
    (codes "memory", [], MEMORY.now) ∷
    (codes "Memory", [], REFUSED_MEMORY.now) ∷
    []

-- the needs and the stops of a node
unfoldable pub needs_entries : List Entry
needs_entries =
    (codes "own", [], OWN.now) ∷
    (codes "take", [], TAKE.now) ∷
    (codes "post", [], POST.now) ∷
    (codes "check", [], CHECK.now) ∷
    (codes "input", [], INPUT.now) ∷
    (codes "stopped", [], STOPPED.now) ∷
    (codes "Counted", [], COUNTED.now) ∷
    (codes "IoRead", [], IO_READ.now) ∷
    (codes "Rom", [], ROM.now) ∷
    (codes "Unmapped", [], UNMAPPED.now) ∷
    (codes "MultiWrite", [], MULTI_WRITE.now) ∷
    []

-- the carry, the outcomes of a try, and other words of replies, listings and help
unfoldable pub terms_entries : List Entry
terms_entries =
    (codes "carry", [], CARRY.now) ∷
    (codes "moved", [], MOVED.now) ∷
    (codes "waits", [], WAITS.now) ∷
    (codes "held", [], HELD.now) ∷
    (codes "stuck", [], STUCK.now) ∷
    (codes "ring", [], RING.now) ∷
    (codes "race", [], RACE.now) ∷
    (codes "turn", [], TURN.now) ∷
    (codes "place", [], PLACE.now) ∷
    (codes "step", [], STEP.now) ∷
    (codes "slot", [], SLOT.now) ∷
    (codes "follower", [], FOLLOWER.now) ∷
    (codes "profile", [], PROFILE.now) ∷
    []

-- the words of the larger language
unfoldable pub language_entries : List Entry
language_entries =
    (codes "const", [], CONST.now) ∷
    (codes "body", [], BODY.now) ∷
    (codes "use", [], USE.now) ∷
    (codes "include", [], INCLUDE.now) ∷
    (codes "to", [], TO.now) ∷
    []

-- all of them, in this order
abbrev pub entries : List Entry
entries =
    fold (λ all group. all ++ group) []
    (source_entries ∷ layout_entries ∷ larger_entries ∷ includes_entries ∷ warnings_entries
    ∷ routes_entries ∷ sessions_entries ∷ input_entries ∷ needs_entries ∷ terms_entries
    ∷ language_entries ∷ [])
