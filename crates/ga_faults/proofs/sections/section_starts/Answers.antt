use Rattle.std.proofs.Common.{rules, ◌≡◌, ◌∙◌, ◌++◌, ap, map}
use Rattle.std.specs.Prelude.{slice_range}
use Rattle.ga_faults.specs.Sections.{starts_from}
use Rattle.ga_faults.specs.declared.reading.Reading.TheVariants.{Definition}
use Rattle.ga_faults.proofs.Starting.{starts_all, starts_more}
use Rattle.ga_faults.proofs.TokensRead.{pieces_are, token_piece}
use Rattle.ga_faults.proofs.sections.section_starts.Goals as goal

pub loop-token-init : goal.loop-token-init
loop-token-init c =
    let text = c.args.text.now in
    let tokens = c.deref-token-items.result.now in
    let same : tokens ≡ c.in_ok-tokens.tokens.items = search rules in
    let pieces = pieces_are text tokens (same ∙ c.in_ok-tokens.ensures.tokens)
    (ap (map (λ t. slice_range text t.start t.end)) same ∙ c.in_ok-tokens.ensures.slices) in
    ap (λ starts. starts ++ starts_from Definition 0 (map (token_piece text) tokens))
    c.new-starts.ensures.items ∙ ap (starts_from Definition 0) pieces

pub loop-token-preserved : goal.loop-token-preserved
loop-token-preserved c =
    starts_more c.args.text.now c.deref-token-items.result.now c.loop-token.token-index _
    c.loop-token.reading c.behind-reading.result c.loop-token.before
    c.token_text-written.result.now c.loop-token.starts.items c.push_start.new.starts.items _
    c.loop-token-test.true c.loop-token.invariant c.token_text-written.ensures
    c.behind-reading.ensures c.in_ok-push_start.ensures

pub returns : goal.returns
returns c =
    starts_all c.args.text.now c.deref-token-items.result.now c.loop-token.token-index
    c.loop-token.reading c.loop-token.before c.loop-token.starts.items _ c.loop-token-test.false
    c.loop-token.invariant
