use Rattle.std.proofs.Common.{◌≡◌, ◌∙◌, inr, ℕ, List, Result, Ok, Err, subst}
use Rattle.ga_transcript.specs.Live.{LiveView}
use Rattle.ga_input.specs.declared.fault.ServeError.{ServeError}
use Rattle.ga_input.specs.declared.loading.Loading.{Loading}
use Rattle.ga_input.specs.Session.{IsOpenedAs, IsSession, head_text}
use Rattle.ga_input.specs.Text.{text_in}
use Rattle.ga_input.proofs.Faults.{answers}
use Rattle.ga_input.proofs.session.open_session.Goals as goal

-- the session of the head of a text is the session of the text
session_of : (loading : Loading) (input text head : List ℕ) (answer : Result LiveView ServeError)
    → text_in input ≡ Ok text → head ≡ head_text loading text → IsOpenedAs head answer
    → IsSession loading input answer
session_of loading input text head (Ok live) text_is head_is is =
    (text, text_is, subst (λ h. IsOpenedAs h (Ok live)) head_is is)
session_of loading input text head (Err fault) text_is head_is is =
    inr (text, text_is, inr (subst (λ h. IsOpenedAs h (Err fault)) head_is is))

pub returns : goal.returns
returns c =
    answers (λ live. live) (IsOpenedAs c.as_str.result.now)
    (IsSession c.args.loading.now c.args.input.now) c.opened.result
    (λ answer is. session_of c.args.loading.now c.args.input.now c.in_ok-text.text.now
    c.as_str.result.now answer c.in_ok-text.ensures
    (c.as_str.ensures.value ∙ c.in_ok-head.ensures) is) c.opened.ensures
