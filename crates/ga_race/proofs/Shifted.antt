-- The clocks of moves behind a run: those of the same moves alone, and the run's steps.
use Rattle.std.proofs.Common.{◌≡◌, ℕ, ◌+◌, ◌≤◌, ◌==◌, Bool, true, false, List, [], ◌∷◌, ◌<◌, ◌⊎◌, inl, inr, length, length-append, refl, sym, ap, ◌∙◌, subst, zero-le, arith}
use Rattle.std.specs.Prelude.{if◌then◌else◌, max}
use Rattle.std.proofs.lemmas.Bool.{cases_lt, eq-eqb, eqb-true}
use Rattle.ga_chip.specs.Part.{Asks, Nothing, Own, Feed, Post, Check, Take}
use Rattle.ga_chip.specs.Chip.{Chip}
use Rattle.ga_chip.specs.Run.{Event, Move, moves, moves_of}
use Rattle.ga_chip.specs.Legal.{IsLegal}
use Rattle.ga_chip.proofs.Runs.{moves_of-append}
use Rattle.ga_race.specs.Clocks.{Clock, Clocks, cause_of, clock_of, clocks, clocks_by, clocks_on, no_clocks, post_clocks, steps_in, take_clocks, with_clock}
use Rattle.ga_race.proofs.Causes.{is_behind}

max_first : (a b : ℕ) → a ≤ max a b
max_first a b = omega arith

-- a move's clock is at least its node's clock before it
clock_grows : (m : Move) (cs : Clocks) (x : ℕ) → cs.nodes m.node x ≤ clock_of m cs x
clock_grows m cs x = by (x == m.node)
  where
    by : (b : Bool) → cs.nodes m.node x
        ≤ (if b then max (cs.nodes m.node x) (cause_of m.asked cs x)
        + 1 else max (cs.nodes m.node x) (cause_of m.asked cs x))
    by true = let h = max_first (cs.nodes m.node x) (cause_of m.asked cs x) in omega arith
    by false = max_first (cs.nodes m.node x) (cause_of m.asked cs x)

-- a move makes no node's clock smaller
grows_by : (m : Move) (cs : Clocks) (name x : ℕ) → cs.nodes name x ≤ (clocks_by m cs).nodes name x
grows_by m cs name x = by (name == m.node) refl
  where
    by : (b : Bool) → (name == m.node) ≡ b
        → cs.nodes name x ≤ (if b then clock_of m cs else cs.nodes name) x
    by true e = subst (λ n. cs.nodes n x ≤ clock_of m cs x) (sym (eqb-true name m.node e))
        (clock_grows m cs x)
    by false e = omega arith

-- No move makes a node's clock smaller.
pub grows_on : (cs : Clocks) (ms : List Move) (name x : ℕ)
    → cs.nodes name x ≤ (clocks_on cs ms).nodes name x
grows_on cs [] name x = omega arith
grows_on cs (m ∷ ms) name x = let h = grows_by m cs name x in let g =
    grows_on (clocks_by m cs) ms name x in omega arith

-- a move counts a step of its node
own_by : (m : Move) (cs : Clocks) (name : ℕ)
    → cs.nodes name name + length (moves_of name (m ∷ [])) ≤ (clocks_by m cs).nodes name name
own_by m cs name = by (m.node == name) refl (name == m.node) refl
  where
    more : (n : ℕ) → n ≡ m.node → cs.nodes n n + 1 ≤ clock_of m cs n
    more n e = subst (λ k. cs.nodes k k + 1 ≤ clock_of m cs k) (sym e)
        (go (m.node == m.node) (eq-eqb m.node m.node refl))
      where
        go : (b : Bool) → b ≡ true
            → cs.nodes m.node m.node + 1
            ≤ (if b then max (cs.nodes m.node m.node) (cause_of m.asked cs m.node)
            + 1 else max (cs.nodes m.node m.node) (cause_of m.asked cs m.node))
        go true e = let h = max_first (cs.nodes m.node m.node) (cause_of m.asked cs m.node) in
            omega arith
        go false e = cc

    by : (b : Bool) → (m.node == name) ≡ b → (d : Bool) → (name == m.node) ≡ d
        → cs.nodes name name + length (if b then m ∷ [] else [])
        ≤ (if d then clock_of m cs else cs.nodes name) name
    by true e true f = more name (eqb-true name m.node f)
    by false e true f = let h = more name (eqb-true name m.node f) in omega arith
    by false e false f = omega arith
    by true e false f = let g : (name == m.node) ≡ true =
        eq-eqb name m.node (sym (eqb-true m.node name e)) in cc

-- moves count the steps of a node
own_on : (cs : Clocks) (ms : List Move) (name : ℕ)
    → cs.nodes name name + length (moves_of name ms) ≤ (clocks_on cs ms).nodes name name
own_on cs [] name = omega arith
own_on cs (m ∷ ms) name =
    let h = own_by m cs name in
    let g = own_on (clocks_by m cs) ms name in
    let both : length (moves_of name (m ∷ ms)) ≡ length (moves_of name (m ∷ []))
    + length (moves_of name ms) = ap (λ l. length l) (moves_of-append name (m ∷ []) ms)
    ∙ length-append (moves_of name (m ∷ [])) (moves_of name ms) in
    omega arith

-- A long clock's number is at most the steps before and the short clock's number. It is that sum,
-- unless the short number is 0.
pub record Ahead (steps long short : ℕ) : Type 0 where
  pub upper : long ≤ steps + short
  pub lower : 1 ≤ short → steps + short ≤ long

-- the short number is 0, or the long one is at least the sum
none_or_more : (s a b : ℕ) → Ahead s a b → (b ≡ 0) ⊎ (s + b ≤ a)
none_or_more s a b h = by (cases_lt 0 b)
  where
    by : (0 < b) ⊎ (b ≤ 0) → (b ≡ 0) ⊎ (s + b ≤ a)
    by (inl some) = inr (h.lower (omega arith))
    by (inr none) = inl (omega arith)

-- the maximum of two long numbers is at least the sum with the maximum of the short ones
most : (s a b c d : ℕ) → (b ≡ 0) ⊎ (s + b ≤ a) → (d ≡ 0) ⊎ (s + d ≤ c) → 1 ≤ max b d
    → s + max b d ≤ max a c
most s a b c d (inl e) (inl f) some = omega arith
most s a b c d (inl e) (inr g) some = omega arith
most s a b c d (inr h) (inl f) some = omega arith
most s a b c d (inr h) (inr g) some = omega arith

-- and in any case, if one long number is
most_own : (s a b c d : ℕ) → s + b ≤ a → (d ≡ 0) ⊎ (s + d ≤ c) → s + (max b d + 1) ≤ max a c + 1
most_own s a b c d h (inl f) = omega arith
most_own s a b c d h (inr g) = omega arith

-- the maxima of such numbers are such numbers
ahead_max : (s a b c d : ℕ) → Ahead s a b → Ahead s c d → Ahead s (max a c) (max b d)
ahead_max s a b c d h g = record {
  upper = let p = h.upper in let q = g.upper in omega arith;
  lower = most s a b c d (none_or_more s a b h) (none_or_more s c d g);
}

-- so are the maxima with one more step
ahead_more : (s a b c d : ℕ) → s + b ≤ a → Ahead s a b → Ahead s c d
    → Ahead s (max a c + 1) (max b d + 1)
ahead_more s a b c d own h g = record {
  upper = let p = h.upper in let q = g.upper in omega arith;
  lower = λ some. most_own s a b c d own (none_or_more s c d g);
}

-- All clocks have such numbers, by the steps of each node.
pub record Shifted (steps : Clock) (long short : Clocks) : Type 0 where
  pub own : (name : ℕ) → steps name + short.nodes name name ≤ long.nodes name name
  pub nodes : (name x : ℕ) → Ahead (steps x) (long.nodes name x) (short.nodes name x)
  pub posts : (cell x : ℕ) → Ahead (steps x) (long.posts cell x) (short.posts cell x)
  pub takes : (cell x : ℕ) → Ahead (steps x) (long.takes cell x) (short.takes cell x)

module _ (steps : Clock) (long short : Clocks) (shifted : Shifted steps long short) where
  -- no steps are such numbers
  none : (x : ℕ) → Ahead (steps x) 0 0
  none x = record { upper = zero-le; lower = λ some. absurd (omega arith) }

  -- the clock of a move's cause has such numbers
  cause : (asked : Asks) (x : ℕ) → Ahead (steps x) (cause_of asked long x) (cause_of asked short x)
  cause (Take side cell) x = shifted.posts cell x
  cause (Check side cell) x = shifted.takes cell x
  cause (Nothing outcome) x = none x
  cause Own x = none x
  cause (Feed word) x = none x
  cause (Post side cell word) x = none x

  -- the clock of a move has such numbers
  its_clock : (m : Move) (x : ℕ) → Ahead (steps x) (clock_of m long x) (clock_of m short x)
  its_clock m x = by (x == m.node) refl
    where
      own : x ≡ m.node → steps x + short.nodes m.node x ≤ long.nodes m.node x
      own e = subst (λ n. steps n + short.nodes m.node n ≤ long.nodes m.node n) (sym e)
          (shifted.own m.node)

      by : (b : Bool) → (x == m.node) ≡ b
          → Ahead (steps x)
          (if b then max (long.nodes m.node x) (cause_of m.asked long x)
          + 1 else max (long.nodes m.node x) (cause_of m.asked long x))
          (if b then max (short.nodes m.node x) (cause_of m.asked short x)
          + 1 else max (short.nodes m.node x) (cause_of m.asked short x))
      by true e = ahead_more (steps x) _ _ _ _ (own (eqb-true x m.node e)) (shifted.nodes m.node x)
          (cause m.asked x)
      by false e = ahead_max (steps x) _ _ _ _ (shifted.nodes m.node x) (cause m.asked x)

  -- a clock that is set has such numbers, if the new one has
  with_ahead : (place at x : ℕ) (a b : Clock) (cs ds : ℕ → Clock) → Ahead (steps x) (a x) (b x)
      → Ahead (steps x) (cs at x) (ds at x)
      → Ahead (steps x) (with_clock place a cs at x) (with_clock place b ds at x)
  with_ahead place at x a b cs ds new old = by (at == place)
    where
      by : (t : Bool) → Ahead (steps x) ((if t then a else cs at) x) ((if t then b else ds at) x)
      by true = new
      by false = old

  -- the clocks of posts have such numbers behind a move
  post_ahead : (asked : Asks) (cell x : ℕ) (a b : Clock) → Ahead (steps x) (a x) (b x)
      → Ahead (steps x) (post_clocks asked a long.posts cell x)
      (post_clocks asked b short.posts cell x)
  post_ahead (Post side at word) cell x a b new =
      with_ahead at cell x a b long.posts short.posts new (shifted.posts cell x)
  post_ahead (Nothing outcome) cell x a b new = shifted.posts cell x
  post_ahead Own cell x a b new = shifted.posts cell x
  post_ahead (Feed word) cell x a b new = shifted.posts cell x
  post_ahead (Take side at) cell x a b new = shifted.posts cell x
  post_ahead (Check side at) cell x a b new = shifted.posts cell x

  -- the clocks of takes have such numbers behind a move
  take_ahead : (asked : Asks) (cell x : ℕ) (a b : Clock) → Ahead (steps x) (a x) (b x)
      → Ahead (steps x) (take_clocks asked a long.takes cell x)
      (take_clocks asked b short.takes cell x)
  take_ahead (Take side at) cell x a b new =
      with_ahead at cell x a b long.takes short.takes new (shifted.takes cell x)
  take_ahead (Nothing outcome) cell x a b new = shifted.takes cell x
  take_ahead Own cell x a b new = shifted.takes cell x
  take_ahead (Feed word) cell x a b new = shifted.takes cell x
  take_ahead (Post side at word) cell x a b new = shifted.takes cell x
  take_ahead (Check side at) cell x a b new = shifted.takes cell x

  -- a node's own steps are counted behind a move
  own_ahead : (m : Move) (name : ℕ)
      → steps name + (clocks_by m short).nodes name name ≤ (clocks_by m long).nodes name name
  own_ahead m name = by (name == m.node) refl
    where
      here : (n : ℕ) → n ≡ m.node → steps n + clock_of m short n ≤ clock_of m long n
      here n e = subst (λ k. steps k + clock_of m short k ≤ clock_of m long k) (sym e)
          (go (m.node == m.node) (eq-eqb m.node m.node refl) (shifted.own m.node)
          (cause m.asked m.node))
        where
          go : (b : Bool) → b ≡ true
              → steps m.node + short.nodes m.node m.node ≤ long.nodes m.node m.node
              → Ahead (steps m.node) (cause_of m.asked long m.node) (cause_of m.asked short m.node)
              → steps m.node
              + (if b then max (short.nodes m.node m.node) (cause_of m.asked short m.node)
              + 1 else max (short.nodes m.node m.node) (cause_of m.asked short m.node))
              ≤ (if b then max (long.nodes m.node m.node) (cause_of m.asked long m.node)
              + 1 else max (long.nodes m.node m.node) (cause_of m.asked long m.node))
          go true e own other = most_own _ _ _ _ _ own (none_or_more _ _ _ other)
          go false e own other = cc

      by : (b : Bool) → (name == m.node) ≡ b
          → steps name + (if b then clock_of m short else short.nodes name) name
          ≤ (if b then clock_of m long else long.nodes name) name
      by true e = here name (eqb-true name m.node e)
      by false e = shifted.own name

  -- all clocks have such numbers behind a move
  shifted_by : (m : Move) → Shifted steps (clocks_by m long) (clocks_by m short)
  shifted_by m = record {
    own = own_ahead m;
    nodes = λ name x. with_ahead m.node name x (clock_of m long) (clock_of m short) long.nodes
        short.nodes (its_clock m x) (shifted.nodes name x);
    posts = λ cell x. post_ahead m.asked cell x (clock_of m long) (clock_of m short)
        (its_clock m x);
    takes = λ cell x. take_ahead m.asked cell x (clock_of m long) (clock_of m short)
        (its_clock m x);
  }

-- and behind more moves
shifted_on : (steps : Clock) (long short : Clocks) (ms : List Move) → Shifted steps long short
    → Shifted steps (clocks_on long ms) (clocks_on short ms)
shifted_on steps long short [] shifted = shifted
shifted_on steps long short (m ∷ ms) shifted =
    shifted_on steps (clocks_by m long) (clocks_by m short) ms
    (shifted_by steps long short shifted m)

-- The clocks of moves behind a run have such numbers, by the steps of the run.
pub shifted_from : (chip : Chip) (done : List Event) (ms : List Move) → IsLegal chip
    → Shifted (steps_in chip done) (clocks_on (clocks chip done) ms) (clocks_on no_clocks ms)
shifted_from chip done ms legal =
    let behind = is_behind chip done legal in
    shifted_on (steps_in chip done) (clocks chip done) no_clocks ms (record {
      own = λ name. own_on' name;
      nodes = λ name x. at_first _ _ (behind.nodes name x);
      posts = λ cell x. at_first _ _ (behind.posts cell x);
      takes = λ cell x. at_first _ _ (behind.takes cell x);
    })
  where
    at_first : (s a : ℕ) → a ≤ s → Ahead s a 0
    at_first s a h = record { upper = omega arith; lower = λ some. absurd (omega arith) }

    own_on' : (name : ℕ) → steps_in chip done name + 0 ≤ (clocks chip done).nodes name name
    own_on' name = let h = own_on no_clocks (moves chip done) name in omega arith
