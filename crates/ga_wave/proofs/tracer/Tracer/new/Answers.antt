use Rattle.std.proofs.Common.{◌∙◌, ◌++◌, ap, string_bytes}
use Rattle.ga_wave.specs.Tracer.{traced_by}
use Rattle.ga_wave.specs.Wave.{shown_names}
use Rattle.ga_wave.specs.inner.Traced.{header_of}
use Rattle.ga_wave.proofs.Turning.{declared}
use Rattle.ga_wave.proofs.tracer.Tracer.new.Goals as goal

pub returns-clause-header : goal.returns-clause-header
returns-clause-header c =
    let names = shown_names c.args.nodes.now in
    let old = string_bytes c.args.text.now in
    c.in_ok-push_header.ensures
    ∙ ap (λ t. old ++ header_of t)
    (c.deref-2.ensures.value ∙ c.in_ok-traced.ensures
    ∙ ap (traced_by c.args.chip 0) (c.deref.ensures.value ∙ c.in_ok-shown.ensures.names))
    ∙ ap (λ t. old ++ t) (declared names c.args.chip 0)
