use Rattle.std.proofs.Common.{◌≡◌, ◌∙◌, ap, map, rules, sym}
use Rattle.std.specs.Prelude.{slice_get, string_bytes}
use Rattle.std.specs.Option.{option_map}
use Rattle.ga_pack.specs.Model.Text.{lexemes}
use Rattle.ga_source.specs.Token.{place_of, token_of}
use Rattle.ga_expand.specs.Texts.{origin_of}
use Rattle.ga_expand.proofs.Origins.{no_origin, origin_found}
use Rattle.ga_expand.proofs.expansion.Expansion.origin.Goals as goal

pub returns-in-Some : goal.returns-in-Some
returns-in-Some c =
    let text = c.as_str.result.now in
    let same : string_bytes c.args.self.now.text ≡ text = search rules in
    let tokens : c.deref.result.now ≡ map token_of (lexemes text) =
    c.deref.ensures.value ∙ c.in_ok-tokens.ensures.tokens in
    let origins = c.args.self.now.origins.items in
    ap (option_map place_of) c.place_at.ensures
    ∙ ap (λ xs. option_map place_of (slice_get xs c.in-Some.index)) c.deref-in-Some.ensures.value
    ∙ origin_found text c.deref.result.now origins c.args.place c.in-Some.index tokens
    c.in-Some.ensures
    ∙ ap (λ t. origin_of t (map place_of origins) (place_of c.args.place)) (sym same)

pub returns : goal.returns
returns c =
    let text = c.as_str.result.now in
    let same : string_bytes c.args.self.now.text ≡ text = search rules in
    let tokens : c.deref.result.now ≡ map token_of (lexemes text) =
    c.deref.ensures.value ∙ c.in_ok-tokens.ensures.tokens in
    let origins = c.args.self.now.origins.items in
    no_origin text c.deref.result.now origins c.args.place tokens c.in-None.ensures
    ∙ ap (λ t. origin_of t (map place_of origins) (place_of c.args.place)) (sym same)
