-- If the nodes rest or spin at the end of a run without races, all other runs agree with it.
use Rattle.std.proofs.Common.{◌≡◌, ℕ, ◌+◌, ◌≤◌, List, [], ◌∷◌, ◌++◌, ◌⊎◌, inl, inr, length, refl, sym, ap, ◌∙◌, subst, append-nil, append_assoc, length-append, arith}
use Rattle.ga_chip.specs.Chip.{Chip}
use Rattle.ga_chip.specs.Run.{Event, Move, move_in, moves, moves_of, ran, words_fed}
use Rattle.ga_chip.specs.Legal.{IsLegal}
use Rattle.ga_race.specs.Clocks.{steps_in}
use Rattle.ga_race.specs.Races.{RunsAgree, HasNoRace, IsDeterminate, IsFed, NoRaceAtRest}
use Rattle.ga_race.specs.Spins.{IsRestOrSpins, IsResting, IsSpinning, NoRaceSpinning}
use Rattle.ga_race.proofs.Prefixes.{One, prefix_of, its_own, one_or_none, prefix_both, prefix_long}
use Rattle.ga_race.proofs.Embedded.{IsEmbedded, IsFedPrefix, embedded_next, fed_earlier, runs_agree}
use Rattle.ga_race.proofs.Room.{room_by}
use Rattle.ga_race.proofs.Rest.{not_resting}
use Rattle.ga_race.proofs.Longer.{ByOne, Extends, extends_self, rests_or_goes}

-- a longer run is fed the same words
fed_longer : (chip : Chip) (whole longer run : List Event) → Extends chip whole longer
    → IsFedPrefix chip whole run → IsFedPrefix chip longer run
fed_longer chip whole longer run e fed name = ((fed name).0, e.fed name ∙ (fed name).1)

-- an event moves one node
same_node : {chip : Chip} {event : Event} (o p : One chip event) → o.move.node ≡ p.move.node
same_node o p = let both : o.move ∷ [] ≡ p.move ∷ [] = sym o.made ∙ p.made in
    let same : o.move ≡ p.move = cc in ap (λ (m : Move). m.node) same

-- A longer run has room for one more event of another run.
record Room (chip : Chip) (whole done : List Event) (event : Event) : Type 0 where
  longer : List Event
  extends : Extends chip whole longer
  inside : IsEmbedded chip done longer
  room : (name : ℕ) → steps_in chip (done ++ event ∷ []) name ≤ steps_in chip longer name

module _ (chip : Chip) (whole longer done : List Event) (event : Event) (legal : IsLegal chip)
    (e : Extends chip whole longer) (fed : IsFedPrefix chip whole done)
    (inside : IsEmbedded chip done longer) where
  -- the run has one more step of the node that the event moves, or it can be made longer by one
  at_move : (o : One (ran chip done) event) (left : List Move)
      → moves_of o.move.node (moves chip longer) ≡ moves_of o.move.node (moves chip done) ++ left
      → (steps_in chip done o.move.node + 1 ≤ steps_in chip longer o.move.node)
      ⊎ ByOne chip whole longer o.move.node
  at_move o (y ∷ left) cut = let long : steps_in chip longer o.move.node
      ≡ steps_in chip done o.move.node + length (y ∷ left) = ap (λ l. length l) cut
      ∙ length-append (moves_of o.move.node (moves chip done)) (y ∷ left) in inl (omega arith)
  at_move o [] cut = inr (goes (e.quiet o.move.node))
    where
      all : moves_of o.move.node (moves chip longer) ≡ moves_of o.move.node (moves chip done)
      all = cut ∙ append-nil (moves_of o.move.node (moves chip done))

      never : IsResting (ran chip longer) o.move.node → ⊥
      never = not_resting chip longer done event o.move.node o.move legal inside
          (fed_longer chip whole longer done e fed)
          (ap (moves_of o.move.node) o.made ∙ its_own o.move.node o.move refl) (sym all)

      spins : IsResting (ran chip longer) o.move.node ⊎ ByOne chip whole longer o.move.node
          → ByOne chip whole longer o.move.node
      spins (inl rests) = absurd (never rests)
      spins (inr one) = one

      goes : IsResting (ran chip longer) o.move.node ⊎ IsSpinning (ran chip longer) o.move.node
          → ByOne chip whole longer o.move.node
      goes (inl rests) = absurd (never rests)
      goes (inr s) = spins (rests_or_goes chip whole longer o.move.node legal e s)

  -- so a longer run has room for the event
  room_for : Room chip whole done event
  room_for = by (one_or_none (ran chip done) event)
    where
      here : ((o : One (ran chip done) event)
          → steps_in chip done o.move.node + 1 ≤ steps_in chip longer o.move.node)
          → Room chip whole done event
      here more = record {
        longer = longer;
        extends = e;
        inside = inside;
        room =
            room_by chip done longer event inside more;
      }

      at : (o : One (ran chip done) event)
          → (steps_in chip done o.move.node + 1 ≤ steps_in chip longer o.move.node)
          ⊎ ByOne chip whole longer o.move.node → Room chip whole done event
      at o (inl more) =
          here (λ p. subst (λ n. steps_in chip done n + 1 ≤ steps_in chip longer n) (same_node o p)
          more)
      at o (inr one) =
          let front : IsEmbedded chip done (longer ++ one.event ∷ []) =
          λ name. prefix_both (moves_of name (moves chip done))
          (moves_of name (moves chip longer))
          (moves_of name (moves chip (longer ++ one.event ∷ []))) (inside name)
          (prefix_of chip longer (one.event ∷ []) name) in
          let old = prefix_long _ _ (inside o.move.node) in
          let long : steps_in chip (longer ++ one.event ∷ []) o.move.node
          ≡ steps_in chip longer o.move.node + 1 = ap (λ l. length l) one.more
          ∙ length-append (moves_of o.move.node (moves chip longer)) (one.move ∷ []) in
          let more : steps_in chip done o.move.node + 1
          ≤ steps_in chip (longer ++ one.event ∷ []) o.move.node = omega arith in
          record {
            longer = longer ++ one.event ∷ [];
            extends = one.extends;
            inside = front;
            room = room_by chip done (longer ++ one.event ∷ []) event front
                (λ p. subst (λ n. steps_in chip done n + 1
                ≤ steps_in chip (longer ++ one.event ∷ []) n) (same_node o p) more);
          }

      by : (move_in (ran chip done) event ≡ []) ⊎ One (ran chip done) event
          → Room chip whole done event
      by (inl none) = here (λ o. let both : [] ≡ o.move ∷ [] = sym none ∙ o.made in cc)
      by (inr o) = at o (at_move o (inside o.move.node).0 (inside o.move.node).1)

-- Another run is embedded in a longer run.
pub record Longer (chip : Chip) (whole run : List Event) : Type 0 where
  pub longer : List Event
  pub extends : Extends chip whole longer
  pub inside : IsEmbedded chip run longer

-- each event of the other run leads to a longer run
longer_on : (chip : Chip) (whole longer run done more : List Event) → IsLegal chip
    → Extends chip whole longer → IsFedPrefix chip whole run → run ≡ done ++ more
    → IsEmbedded chip done longer → Longer chip whole run
longer_on chip whole longer run done [] legal e fed cut inside =
    record {
      longer = longer;
      extends = e;
      inside =
          subst (λ es. IsEmbedded chip es longer) (sym (append-nil done) ∙ sym cut) inside;
    }
longer_on chip whole longer run done (event ∷ more) legal e fed cut inside =
    let cut' : run ≡ (done ++ event ∷ []) ++ more = cut
    ∙ sym (append_assoc done (event ∷ []) more) in
    let fed_done : IsFedPrefix chip whole done =
    fed_earlier chip whole done (event ∷ more) (subst (IsFedPrefix chip whole) cut fed) in
    let fed_next : IsFedPrefix chip whole (done ++ event ∷ []) =
    fed_earlier chip whole (done ++ event ∷ []) more (subst (IsFedPrefix chip whole) cut' fed) in
    let room = room_for chip whole longer done event legal e fed_done inside in
    longer_on chip whole room.longer run (done ++ event ∷ []) more legal room.extends fed cut'
    (embedded_next chip room.longer done event legal room.extends.race room.inside room.room
    (fed_longer chip whole room.longer (done ++ event ∷ []) room.extends fed_next))

-- so each run is embedded in a longer one
pub longer_run : (chip : Chip) (whole run : List Event) → IsLegal chip → HasNoRace chip whole
    → IsRestOrSpins (ran chip whole) → IsFedPrefix chip whole run → Longer chip whole run
longer_run chip whole run legal race quiet fed =
    longer_on chip whole whole run [] run legal (extends_self chip whole race quiet) fed refl
    (λ name. (moves_of name (moves chip whole), refl))

-- two runs agree that are embedded in one run
both_alike : (chip : Chip) (whole one two : List Event) → IsLegal chip → IsFedPrefix chip whole one
    → IsFedPrefix chip whole two → (first : Longer chip whole one) → Longer chip first.longer two
    → RunsAgree chip one two
both_alike chip whole one two legal fed fed' first last = runs_agree chip last.longer one two legal
    (λ name. prefix_both (moves_of name (moves chip one)) (moves_of name (moves chip first.longer))
    (moves_of name (moves chip last.longer)) (first.inside name) (last.extends.front name))
    last.inside
    (fed_longer chip first.longer last.longer one last.extends
    (fed_longer chip whole first.longer one first.extends fed))
    (fed_longer chip first.longer last.longer two last.extends
    (fed_longer chip whole first.longer two first.extends fed'))

-- The law holds if nodes rest or spin.
pub no_race_spinning : NoRaceSpinning
no_race_spinning chip whole legal race quiet = (alike, most)
  where
    alike : IsDeterminate chip (words_fed chip whole)
    alike one two fed fed' =
        let first = longer_run chip whole one legal race quiet fed in
        both_alike chip whole one two legal fed fed' first
        (longer_run chip first.longer two legal first.extends.race first.extends.quiet
        (fed_longer chip whole first.longer two first.extends fed'))

    most : (run : List Event) → IsFed chip run (words_fed chip whole) → (name : ℕ)
        → IsResting (ran chip whole) name → steps_in chip run name ≤ steps_in chip whole name
    most run fed name rests =
        let it = longer_run chip whole run legal race quiet fed in
        subst (λ ms. steps_in chip run name ≤ length ms) (it.extends.rests name rests).1
        (prefix_long _ _ (it.inside name))

-- So it holds if all nodes rest.
pub no_race_at_rest : NoRaceAtRest
no_race_at_rest chip whole legal race rests =
    let all = no_race_spinning chip whole legal race (λ name. inl (rests name)) in
    (all.0, λ run fed name. all.1 run fed name (rests name))
