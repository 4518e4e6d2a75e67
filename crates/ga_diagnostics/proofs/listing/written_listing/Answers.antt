use Rattle.std.proofs.Common.{◌≡◌, ◌∙◌, ap, string_bytes, subst, sym}
use Rattle.ga_asm.specs.Text.{IsTextFault}
use Rattle.ga_faults.specs.Origin.{at_origin}
use Rattle.ga_input.specs.Fault.{FailsRightly}
use Rattle.ga_input.specs.TextFault.{shown_fault}
use Rattle.ga_list.specs.Listing.{HasNamedListing}
use Rattle.ga_diagnostics.specs.Lines.{name_of, origins_of}
use Rattle.ga_diagnostics.specs.Listing.{IsWrittenListing, written_names}
use Rattle.ga_diagnostics.proofs.ExpansionFaults.{expansion_fails}
use Rattle.ga_diagnostics.proofs.listing.written_listing.Goals as goal

pub returns-in-Ok : goal.returns-in-Ok
returns-in-Ok c =
    let lines = c.args.lines.now in
    let input = c.args.input.now in
    let made = c.in_ok-text.made in
    let written = c.in_ok-names.names in
    let listing = string_bytes c.in-Ok.listing in
    let shown = written_names (name_of lines) (origins_of lines) input made in
    let same : written_names (name_of written.lines.now) (origins_of written.lines.now)
    written.text.now written.made.now ≡ shown =
    ap (λ own. written_names (name_of own) (origins_of own) written.text.now written.made.now)
    c.in_ok-names.ensures.lines
    ∙ ap (λ text. written_names (name_of lines) (origins_of lines) text written.made.now)
    (c.in_ok-names.ensures.text ∙ c.in_ok-text.ensures.text)
    ∙ ap (written_names (name_of lines) (origins_of lines) input) c.in_ok-names.ensures.made in (
      made,
      c.in_ok-text.ensures.made,
      subst (λ text. HasNamedListing shown text listing) c.as_str.ensures.value
          (subst (λ names. HasNamedListing names c.as_str.result.now listing) same
          c.in-Ok.ensures.listing),
    )

pub returns : goal.returns
returns c =
    let lines = c.args.lines.now in
    let input = c.args.input.now in
    let made = c.in_ok-text.made in
    let error = c.in-Err.error in
    let IsRight = IsWrittenListing (name_of lines) (origins_of lines) input in
    let shown : c.in_ok-shown_fault-in-Err.field-0
    ≡ shown_fault input (at_origin input made error) =
    cc (
      c.in_ok-shown_fault-in-Err.ensures,
      c.in_ok-at_origin-in-Err.ensures,
      c.in_ok-text.ensures.text,
    ) in
    subst (FailsRightly IsRight) (sym shown)
    (expansion_fails IsRight input made (λ fault is. is) c.in_ok-text.ensures.made error
    (λ some. subst (λ text. IsTextFault text error) c.as_str.ensures.value
    (c.in-Err.ensures.fault some)))
