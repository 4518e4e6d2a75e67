-- The head of a text, line by line.
use Rattle.std.proofs.Common.{◌≡◌, ℕ, List, ◌∷◌, length, Option, Some, None, Result, Ok, Err, refl, subst, sym}
use Rattle.std.specs.Prelude.{ok_or}
use Rattle.std.specs.Result.{IsErrAnd}
use Rattle.ga_debug.specs.declared.profile.Profile.{Profile}
use Rattle.ga_debug.specs.declared.profile.Profile.TheVariants.{One, Two}
use Rattle.ga_debug.specs.declared.replay_error.ReplayError.{ReplayError}
use Rattle.ga_debug.specs.declared.replay_error.ReplayError.TheVariants.{BadRoute, Memory}
use Rattle.ga_debug.specs.ReplayError.{FailsRightly}
use Rattle.ga_debug.specs.inner.ReplayError.{Gives}
use Rattle.ga_debug.specs.Head.{Loading, head_in, loaded_by, loading_by, up_to_go}
use Rattle.ga_debug.specs.Command.{words_of}
use Rattle.ga_debug.specs.Pieces.{pieces}
use Rattle.ga_debug.specs.Profile.{profile_line}

-- the line of each profile has nine characters
pub nine : (profile : Profile) → length (profile_line profile) ≡ 9
nine One = refl
nine Two = refl

-- behind the profile is the line of how the chip is loaded
pub behind_two_lines : (profile : Profile) (text first line : List ℕ)
    (all others rest : List (List ℕ)) → all ≡ pieces 10 text → all ≡ first ∷ others
    → others ≡ line ∷ rest → first ≡ profile_line profile
    → head_in profile text ≡ loaded_by (loading_by (words_of line)) rest
unfolding head_in
behind_two_lines One text first line all others rest whole one two is =
    rw (sym whole, one, two, is) refl
behind_two_lines Two text first line all others rest whole one two is =
    rw (sym whole, one, two, is) refl

-- a fault of one is a fault of the other
pub fails_as : {A B : Type 0} (one : Result A ReplayError) (other : Result B ReplayError)
    (fault : ReplayError) → ((e : ReplayError) → one ≡ Err e → other ≡ Err e)
    → FailsRightly (λ right. one ≡ right) fault → FailsRightly (λ right. other ≡ right) fault
fails_as one other Memory h g = tt
fails_as one other fault h g = h fault g

pub bad_loading : (loading : Option Loading) (rest : List (List ℕ)) (e : ReplayError)
    → ok_or loading BadRoute ≡ Err e → loaded_by loading rest ≡ Err e
bad_loading None rest e h = cc
bad_loading (Some loading) rest e h = cc

pub good_loading : (found : Option Loading) (loading : Loading) (rest : List (List ℕ))
    → ok_or found BadRoute ≡ Ok loading → loaded_by found rest ≡ up_to_go loading 3 rest
good_loading None loading rest h = cc
good_loading (Some found) loading rest h = cc

-- a fault that was handed on
pub hands_on : {A B : Type 0} (view : A → B) (result : Result A ReplayError)
    (expected : Result B ReplayError) (fault : ReplayError)
    → IsErrAnd result (λ error. error ≡ fault) → FailsRightly (λ right. expected ≡ right) fault
    → Gives view result expected
hands_on view (Ok value) expected fault h g = absurd h
hands_on view (Err error) expected fault h g =
    subst (λ e. FailsRightly (λ right. expected ≡ right) e) (sym h) g
