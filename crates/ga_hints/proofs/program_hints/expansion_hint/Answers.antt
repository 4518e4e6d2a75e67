use denote.Enum.Bare.{sameb}
use Rattle.std.proofs.Common.{◌∙◌, None, Some, ap, subst, sym}
use Rattle.std.proofs.lemmas.Bool.{false≢true}
use Rattle.std.proofs.lemmas.Result.{IfOk-weaker}
use Rattle.std.specs.Option.{option_and_then, option_map}
use Rattle.ga_pack.specs.Model.Program.{IsProgram}
use Rattle.ga_pack.specs.contracts.error_kind.SourceErrorKind.{the_type}
use Rattle.ga_pack.specs.declared.error_kind.SourceErrorKind.TheVariants.{Memory}
use Rattle.ga_source.specs.Program.{HasNoProgram}
use Rattle.ga_expand.specs.Texts.{IsExpansion}
use Rattle.ga_faults.specs.Sections.{part_of}
use Rattle.ga_hints.specs.Hints as hints
use Rattle.ga_hints.specs.Hints.{hint_of}
use Rattle.ga_hints.proofs.Programs.{no_program}
use Rattle.ga_hints.proofs.program_hints.expansion_hint.Goals as goal

pub returns-in-Ok-parse : goal.returns-in-Ok-parse
returns-in-Ok-parse c =
    IfOk-weaker c.program_hint.result _ _
    (λ hint e. (
      Some c.in-Ok-parse.program,
      (
        c.in-Ok.made,
        subst (λ t. IsExpansion t c.in-Ok.made) (c.as_str.ensures.value ∙ c.in_ok-part.ensures)
            c.in-Ok.ensures.expansion,
        subst (λ t. IsProgram t c.in-Ok-parse.program) c.as_str-2.ensures.value
            c.in-Ok-parse.ensures.program,
      ),
      e ∙ ap (λ part. option_and_then
          (hints.program_hint c.args.text.now part c.args.error) (Some c.in-Ok-parse.program))
          (c.as_str-in-Ok-parse.ensures.value ∙ c.in_ok-part.ensures),
    )) c.program_hint.ensures

pub returns : goal.returns
returns c =
    IfOk-weaker c.no_hint-in-Err-parse.result _ _
    (λ hint e. (
      None,
      no_program (part_of c.args.text.now c.args.error.line c.args.error.node) c.in-Ok.made
          (subst (λ t. IsExpansion t c.in-Ok.made) (c.as_str.ensures.value ∙ c.in_ok-part.ensures)
          c.in-Ok.ensures.expansion)
          (subst HasNoProgram c.as_str-2.ensures.value (c.in-Err-parse.ensures.none
          (λ same. false≢true (sym e.0 ∙ c.eq-in-Err-parse.ensures
          ∙ ap (λ kind. sameb the_type kind Memory) same)))),
      ap (option_map hint_of) e.1,
    )) c.no_hint-in-Err-parse.ensures
