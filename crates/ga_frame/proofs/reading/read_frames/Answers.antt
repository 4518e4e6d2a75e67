use Rattle.std.proofs.Common.{rules, ◌≡◌, [], arith, ap, length}
use Rattle.ga_frame.specs.Frame.{IsFirstFault}
use Rattle.ga_frame.specs.declared.error.FrameError.TheVariants.{Counted}
use Rattle.ga_frame.proofs.OneReading.{first_fault_none}
use Rattle.ga_frame.proofs.Taking.{first_of_whole}
use Rattle.ga_frame.proofs.reading.read_frames.Goals as goal
use Rattle.ga_frame.proofs.reading.read_frames.Goals.{After-drop-feed-inside}

first : (c : After-drop-feed-inside) → IsFirstFault c.args.words.now c.in_err-frames.field-0.0
first c =
    let not_counted : c.in_err-frames.field-0.0 ≡ Counted → ⊥ = λ counted. absurd (omega (
      arith,
      c.in_err-frames.ensures.counted counted,
      ap (λ feed. length feed.begun) c.new-feed.ensures.value,
    )) in
    first_of_whole c.args.words.now c.in_err-frames.field-0.0 c.new-feed.result
    c.new-feed.ensures.nothing not_counted c.in_err-frames.ensures.fault

pub returns-in_err-frames-clause-fault : goal.returns-in_err-frames-clause-fault
returns-in_err-frames-clause-fault c = let fault = first c in search (rules, fault)

pub returns-in_err-frames-clause-none : goal.returns-in_err-frames-clause-none
returns-in_err-frames-clause-none c =
    let none = first_fault_none c.args.words.now c.in_err-frames.field-0.0 (first c) in
    search (rules, none)

pub returns-in_err-finish-clause-fault : goal.returns-in_err-finish-clause-fault
returns-in_err-finish-clause-fault c =
    let fault = c.in_err-finish.ensures.fault c.args.words.now _
    (c.in_ok-frames.ensures.frames [] [] c.new-feed.ensures.nothing) in search (rules, fault)

pub returns-in_err-finish-clause-none : goal.returns-in_err-finish-clause-none
returns-in_err-finish-clause-none c =
    let none = c.in_err-finish.ensures.none c.args.words.now _
    (c.in_ok-frames.ensures.frames [] [] c.new-feed.ensures.nothing) in search (rules, none)

pub returns-clause-frames : goal.returns-clause-frames
returns-clause-frames c =
    c.in_ok-finish.ensures.frames c.args.words.now _
    (c.in_ok-frames.ensures.frames [] [] c.new-feed.ensures.nothing)

pub returns-clause-only : goal.returns-clause-only
returns-clause-only c =
    λ other. c.in_ok-finish.ensures.only c.args.words.now _ other
    (c.in_ok-frames.ensures.frames [] [] c.new-feed.ensures.nothing)
