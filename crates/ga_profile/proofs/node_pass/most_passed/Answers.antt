use Rattle.std.proofs.Common.{◌≡◌, ◌∙◌, ◌+◌, ◌*◌, ◌<◌, ap, arith, length}
use Rattle.std.proofs.lemmas.List.{get_or_default}
use Rattle.ga_profile.specs.NodePass.{most_of}
use Rattle.ga_profile.specs.inner.PlaceRead.{place_read}
use Rattle.ga_profile.specs.Passes.{NO_PASSES}
use Rattle.ga_profile.proofs.Passing.{most_more}
use Rattle.ga_profile.proofs.node_pass.most_passed.Goals as goal

pub loop-place-preserved : goal.loop-place-preserved
loop-place-preserved c =
    let places = c.args.places.now in
    let index = c.args.index in
    let place = c.loop-place.place in
    let within : index * 256 + place < length places =
    omega (arith, c.requires.places, c.requires.index, c.loop-place-test.true) in
    most_more (place_read places index) place c.loop-place.most _ c.more_of-most.result
    c.loop-place.invariant (get_or_default places (index * 256 + place) _ NO_PASSES within)
    c.more_of-most.ensures

pub returns : goal.returns
returns c =
    let all : c.loop-place.place ≡ 256 = omega arith in
    c.loop-place.invariant ∙ ap (most_of (place_read c.args.places.now c.args.index)) all
