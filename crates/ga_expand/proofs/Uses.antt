-- What a `use` stands for is added to the body that is being defined, or else to the text.
use Rattle.std.proofs.Common.{◌≡◌, ◌∙◌, ◌++◌, true, false, List, Option, Some, None, Result, Ok, Err, map, refl, ap}
use Rattle.std.specs.Prelude.{IfOk, OnOk, option_map}
use Rattle.std.specs.Option.{is_some}
use Rattle.ga_expand.specs.Bodies.{Draft, behind_all, used}
use Rattle.ga_expand.specs.Expanding.{Body}
use Rattle.ga_expand.specs.declared.bodies.Part as part
use Rattle.ga_expand.specs.declared.role.Role.{Role}
use Rattle.ga_expand.specs.declared.unfolder.Draft as here
use Rattle.ga_expand.specs.declared.unfolder.Reading.TheVariants as at
use Rattle.ga_expand.specs.declared.unfolder.Unfolder.{Unfolder}
use Rattle.ga_expand.specs.inner.Bodies.{Used, draft_in, filled_in, part_in, state_of}
use Rattle.ga_expand.specs.inner.Role.{role_stage}
use Rattle.ga_expand.proofs.Lists.{used_parts, used_pieces}

-- the body that is being defined, as the code has it
abbrev IsDraft : Option here.Draft → Type 0
IsDraft o = (draft : Draft) × (option_map draft_in o ≡ Some draft)

a_draft : (o : Option here.Draft) → is_some o ≡ true → IsDraft o
a_draft None e = absurd (cc)
a_draft (Some draft) e = (draft_in draft, refl)

no_draft : (o : Option here.Draft) → is_some o ≡ false → option_map draft_in o ≡ None
no_draft None e = refl
no_draft (Some draft) e = absurd (cc)

module _ {E : Type 0} (before after : Unfolder) (body arguments : List part.Part)
    (its_body : body ≡ before.used.items) (its_arguments : arguments ≡ before.arguments.items) where
  pub in_body : (result : Result Role E) → is_some before.draft ≡ true
      → after ≡ record before { parts = after.parts }
      → OnOk result (after.parts.items ≡ before.parts.items ++ map (filled_in arguments) body)
      → IfOk result (λ role. role_stage role
      ≡ behind_all Body (map part_in (map (filled_in arguments) body)))
      → Used before after result
  in_body (Err refused) some same parts stage = tt
  in_body (Ok role) some same parts stage =
      let one = a_draft before.draft some in
      ap (λ u. state_of (record u { reading = at.Tokens role })) same
      ∙ used_parts (state_of before) one.0 before.parts.items after.parts.items body arguments
      (role_stage role) one.1 refl parts stage
      ∙ ap (λ ps. used (state_of before) (map part_in ps) (map part_in arguments)) its_body
      ∙ ap (λ ps. used (state_of before) (map part_in before.used.items) (map part_in ps))
      its_arguments

  pub in_text : (result : Result Role E) → is_some before.draft ≡ false
      → after ≡ record before { text = after.text }
      → OnOk result (after.text.items ≡ before.text.items
      ++ map (λ part. part.piece) (map (filled_in arguments) body))
      → IfOk result (λ role. role_stage role
      ≡ behind_all Body (map part_in (map (filled_in arguments) body)))
      → Used before after result
  in_text (Err refused) none same pieces stage = tt
  in_text (Ok role) none same pieces stage =
      ap (λ u. state_of (record u { reading = at.Tokens role })) same
      ∙ used_pieces (state_of before) before.text.items after.text.items body arguments
      (role_stage role) (no_draft before.draft none) refl pieces stage
      ∙ ap (λ ps. used (state_of before) (map part_in ps) (map part_in arguments)) its_body
      ∙ ap (λ ps. used (state_of before) (map part_in before.used.items) (map part_in ps))
      its_arguments
