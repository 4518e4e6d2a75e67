-- The requests, as the code returns them.
use Rattle.std.specs.Prelude.{◌≡◌, ℕ, List}
use Rattle.ga_prompt.specs.declared.request.Request.{Request}
use Rattle.ga_prompt.specs.declared.request.Request.TheVariants as code
use Rattle.ga_prompt.specs.Request as spec

abbrev pub request : Request → spec.Request
request code.Nothing = spec.Nothing
request (code.Say text) = spec.Say text.now
request (code.Help name) = spec.Help name.now
request (code.Back count) = spec.Back count
request (code.Save replaces name) = spec.Save replaces name.now
request code.Quit = spec.Quit
request (code.Unknown text) = spec.Unknown text.now
request (code.Refused refusal) = spec.Refused refusal

-- a command is the whole line
abbrev pub IsSaidWhole : List ℕ → Request → Type 0
IsSaidWhole line (code.Say text) = text.now ≡ line
IsSaidWhole line request = Unit {0}
