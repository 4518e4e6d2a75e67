-- Two answers to one replay text are equal.
use Rattle.std.proofs.Common.{◌≡◌, ◌∙◌, ◌+◌, inl, inr, ℕ, List, Result, Ok, Err, ap, subst, sym}
use Rattle.std.specs.Result.{result_map_both}
use Rattle.ga_asm.specs.Text.{AtMostOne, HasImages}
use Rattle.ga_asm.proofs.OneAnswer.{one_answer}
use Rattle.ga_chip.specs.Chip.{Chip}
use Rattle.ga_debug.specs.Beginning.{IsBeginning, IsBegun, IsChipOf, IsLoaded, Start, chip_of}
use Rattle.ga_path.specs.Stream.{Images}
use Rattle.ga_debug.specs.Head.{Head, head_in}
use Rattle.ga_debug.specs.Replaying.{IsReplayed, IsReplayedAs, IsReplayedFrom, fault_of_line, lines_on}
use Rattle.ga_debug.specs.Profile.{profile_in}
use Rattle.ga_debug.specs.declared.profile.Profile.{Profile}
use Rattle.ga_debug.specs.declared.profile.Profile.TheVariants.{Two}
use Rattle.ga_debug.specs.declared.replay_error.ReplayError.{ReplayError}

one_chip_of : (head : Head) → AtMostOne (IsChipOf head)
one_chip_of head (Ok one) (Ok other) (images, p, made) (images', q, made') =
    cc (one_answer head.source (Ok images) (Ok images') p q)
one_chip_of head (Ok one) (Err other) (images, p, made) (inl (error, q, told)) =
    absurd (cc (one_answer head.source (Ok images) (Err error) p q))
one_chip_of head (Ok one) (Err other) (images, p, made) (inr (images', q, made')) =
    cc (one_answer head.source (Ok images) (Ok images') p q)
one_chip_of head (Err one) (Ok other) (inl (error, p, told)) (images, q, made) =
    absurd (cc (one_answer head.source (Err error) (Ok images) p q))
one_chip_of head (Err one) (Ok other) (inr (images, p, made)) (images', q, made') =
    cc (one_answer head.source (Ok images) (Ok images') p q)
one_chip_of head (Err one) (Err other) (inl (error, p, told)) (inl (error', q, told')) =
    cc (one_answer head.source (Err error) (Err error') p q)
one_chip_of head (Err one) (Err other) (inl (error, p, told)) (inr (images, q, made)) =
    absurd (cc (one_answer head.source (Err error) (Ok images) p q))
one_chip_of head (Err one) (Err other) (inr (images, p, made)) (inl (error, q, told)) =
    absurd (cc (one_answer head.source (Ok images) (Err error) p q))
one_chip_of head (Err one) (Err other) (inr (images, p, made)) (inr (images', q, made')) =
    cc (one_answer head.source (Ok images) (Ok images') p q)

-- a text has one head
one_head : (profile : Profile) (text : List ℕ) (one other : Head) → head_in profile text ≡ Ok one
    → head_in profile text ≡ Ok other → one ≡ other
one_head profile text one other p q = cc

one_begun : (profile : Profile) (text : List ℕ) → AtMostOne (IsBegun profile text)
one_begun profile text (Ok (chip, head)) (Ok (chip', head')) (p, made) (q, made') =
    let same = one_head profile text head head' p q in
    cc (
      same,
      one_chip_of head' (Ok chip) (Ok chip')
          (subst (λ (h : Head). IsChipOf h (Ok chip)) same made) made',
    )
one_begun profile text (Ok (chip, head)) (Err other) (p, made) (inl q) = cc
one_begun profile text (Ok (chip, head)) (Err other) (p, made) (inr (head', q, made')) =
    let same = one_head profile text head head' p q in
    absurd (cc (one_chip_of head' (Ok chip) (Err other)
    (subst (λ (h : Head). IsChipOf h (Ok chip)) same made) made'))
one_begun profile text (Err one) (Ok (chip, head)) (inl p) (q, made) = cc
one_begun profile text (Err one) (Ok (chip, head)) (inr (head', p, made')) (q, made) =
    let same = one_head profile text head' head p q in
    absurd (cc (one_chip_of head (Err one) (Ok chip)
    (subst (λ (h : Head). IsChipOf h (Err one)) same made') made))
one_begun profile text (Err one) (Err other) (inl p) (inl q) = cc
one_begun profile text (Err one) (Err other) (inl p) (inr (head, q, made)) = cc
one_begun profile text (Err one) (Err other) (inr (head, p, made)) (inl q) = cc
one_begun profile text (Err one) (Err other) (inr (head, p, made)) (inr (head', q, made')) =
    let same = one_head profile text head head' p q in
    cc (one_chip_of head' (Err one) (Err other)
    (subst (λ (h : Head). IsChipOf h (Err one)) same made) made')

same_start : (one other : Start) → one.images ≡ other.images → one.chip ≡ other.chip
    → one.line ≡ other.line → one.commands ≡ other.commands → one ≡ other
same_start one other images chips lines behind =
    ap (λ (is : Images). record one { images = is }) images
    ∙ ap (λ (c : Chip). record one { images = other.images; chip = c }) chips
    ∙ ap (λ (l : ℕ). record one { images = other.images; chip = other.chip; line = l }) lines
    ∙ ap (λ (cs : List (List ℕ)). record other { commands = cs }) behind

pub one_loaded : (text : List ℕ) → AtMostOne (IsLoaded text)
one_loaded text (Ok one) (Ok other)
    (head, p, has, made, line, commands) (head', q, has', made', line', commands') =
    let heads : head ≡ head' = one_head Two text head head' p q in
    let images : one.images ≡ other.images =
    cc (one_answer head'.source (Ok one.images) (Ok other.images)
    (subst (λ (h : Head). HasImages h.source one.images) heads has) has') in
    let chips : one.chip ≡ other.chip =
    cc (sym made ∙ ap (λ (h : Head). chip_of h.loading one.images) heads
    ∙ ap (chip_of head'.loading) images ∙ made') in
    let lines : one.line ≡ other.line = sym line ∙ ap (λ (h : Head). h.line) heads ∙ line' in
    let behind : one.commands ≡ other.commands =
    sym commands ∙ ap (λ (h : Head). h.commands) heads ∙ commands' in
    ap Ok (same_start one other images chips lines behind)
one_loaded text (Ok one) (Err other) (head, p, has, made, line, commands) q =
    absurd
    (cc (one_begun Two text (Ok (one.chip, head)) (Err other) (p, (one.images, has, made)) q))
one_loaded text (Err one) (Ok other) p (head, q, has, made, line, commands) =
    absurd
    (cc (one_begun Two text (Err one) (Ok (other.chip, head)) p (q, (other.images, has, made))))
one_loaded text (Err one) (Err other) p q = cc (one_begun Two text (Err one) (Err other) p q)

pub one_beginning : (text : List ℕ) → AtMostOne (IsBeginning text)
one_beginning text (Ok (chip, line)) (Ok (chip', line')) (head, p, is) (head', q, is') =
    let same : (chip, head) ≡ (chip', head') =
    cc (one_begun Two text (Ok (chip, head)) (Ok (chip', head')) p q) in
    ap (λ (begun : Chip × Head). Ok (begun.0, line)) same
    ∙ ap (λ (l : ℕ). Ok (chip', l)) (sym is ∙ ap (λ (begun : Chip × Head). begun.1.line) same ∙ is')
one_beginning text (Ok (chip, line)) (Err other) (head, p, is) q =
    absurd (cc (one_begun Two text (Ok (chip, head)) (Err other) p q))
one_beginning text (Err one) (Ok (chip, line)) p (head, q, is) =
    absurd (cc (one_begun Two text (Err one) (Ok (chip, head)) p q))
one_beginning text (Err one) (Err other) p q = cc (one_begun Two text (Err one) (Err other) p q)

one_from : (profile : Profile) (text : List ℕ) → AtMostOne (IsReplayedFrom profile text)
one_from profile text one other (chip, head, p, is) (chip', head', q, is') =
    let same : (chip, head) ≡ (chip', head') =
    cc (one_begun profile text (Ok (chip, head)) (Ok (chip', head')) p q) in
    sym is ∙ ap (λ (begun : Chip × Head).
    result_map_both (λ (count : ℕ). count) fault_of_line
    (lines_on profile (begun.1.line + 1) 0 begun.0 begun.1.commands)) same ∙ is'

-- a text that begins has no fault of its beginning
begins : (profile : Profile) (text : List ℕ) (answer : Result ℕ ReplayError) (fault : ReplayError)
    → IsReplayedFrom profile text answer → IsBegun profile text (Err fault) → ⊥
begins profile text answer fault (chip, head, p, is) q =
    cc (one_begun profile text (Ok (chip, head)) (Err fault) p q)

replayed_as : (profile : Profile) (text : List ℕ) → AtMostOne (IsReplayedAs profile text)
replayed_as profile text (Ok one) (Ok other) p q = one_from profile text (Ok one) (Ok other) p q
replayed_as profile text (Ok one) (Err other) p (inl q) =
    absurd (begins profile text (Ok one) other p q)
replayed_as profile text (Ok one) (Err other) p (inr q) =
    one_from profile text (Ok one) (Err other) p q
replayed_as profile text (Err one) (Ok other) (inl p) q =
    absurd (begins profile text (Ok other) one q p)
replayed_as profile text (Err one) (Ok other) (inr p) q =
    one_from profile text (Err one) (Ok other) p q
replayed_as profile text (Err one) (Err other) (inl p) (inl q) =
    cc (one_begun profile text (Err one) (Err other) p q)
replayed_as profile text (Err one) (Err other) (inl p) (inr q) =
    absurd (begins profile text (Err other) one q p)
replayed_as profile text (Err one) (Err other) (inr p) (inl q) =
    absurd (begins profile text (Err one) other p q)
replayed_as profile text (Err one) (Err other) (inr p) (inr q) =
    one_from profile text (Err one) (Err other) p q

pub one_replayed : (text : List ℕ) → AtMostOne (IsReplayed text)
one_replayed text = replayed_as (profile_in text) text
