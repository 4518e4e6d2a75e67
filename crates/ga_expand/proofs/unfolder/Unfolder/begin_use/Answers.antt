use Rattle.std.proofs.Common.{◌≡◌, ◌∙◌, ◌++◌, ◌-◌, Bor, Err, None, Ok, Result, Some, ap, arith, length, map, subst, sym}
use Rattle.std.specs.Prelude.{option_map}
use Rattle.std.specs.List.{find}
use Rattle.std.specs.Str.{bytes_eq}
use Rattle.ga_source.specs.Token.{place_of}
use Rattle.ga_expand.specs.declared.bodies.SharedBody.{SharedBody}
use Rattle.ga_expand.specs.Bodies.{Unfolding, body_named, use_of}
use Rattle.ga_expand.specs.Error.{Fault}
use Rattle.ga_expand.specs.inner.Bodies.{Read, body_in, reading_in, state_of}
use Rattle.ga_expand.proofs.Lists.{begun_by, not_too_large, the_found, too_large}
use Rattle.ga_expand.proofs.unfolder.Unfolder.begin_use.Goals as goal

pub returns-in_default : goal.returns-in_default
returns-in_default c some =
    let now = c.args.self.now in
    let text = c.args.name.text.now in
    let named : body_named (map body_in now.bodies.items) text ≡ None =
    sym (ap (option_map (λ (b : Bor SharedBody). body_in b.now)) (sym c.in_default.is)
    ∙ the_found now.bodies.items text c.body_named.result (c.body_named.ensures
    ∙ ap (find (λ body. bytes_eq body.name.now text)) c.deref.ensures.value)) in
    ap (use_of (state_of now) (place_of c.args.start) (place_of c.args.name.place)) named
    ∙ ap {B = Result Unfolding Fault} Err (sym c.error_at.ensures.fault)

pub returns-then-self-len : goal.returns-then-self-len
returns-then-self-len c some =
    let now = c.args.self.now in
    let text = c.args.name.text.now in
    let one = c.in-Some.body.now in
    let named : body_named (map body_in now.bodies.items) text ≡ Some (body_in one) =
    sym (ap (option_map (λ (b : Bor SharedBody). body_in b.now)) (sym c.in-Some.is)
    ∙ the_found now.bodies.items text c.body_named.result (c.body_named.ensures
    ∙ ap (find (λ body. bytes_eq body.name.now text)) c.deref.ensures.value)) in
    ap (use_of (state_of now) (place_of c.args.start) (place_of c.args.name.place)) named
    ∙ too_large (state_of now) (place_of c.args.start) (place_of c.args.name.place) one
    (omega (arith, c.len.ensures, c.if-self-len.true))
    ∙ ap {B = Result Unfolding Fault} Err (sym c.error_at-then-self-len.ensures.fault)

pub returns : goal.returns
returns c =
    let now = c.args.self.now in
    let text = c.args.name.text.now in
    let one = c.in-Some.body.now in
    let start = place_of c.args.start in
    let used = c.extend_from_slice.new.self.items in
    let arguments = c.clear-2.new.self.items in
    let left = now.left - c.len-2.result in
    let named : body_named (map body_in now.bodies.items) text ≡ Some (body_in one) =
    sym (ap (option_map (λ (b : Bor SharedBody). body_in b.now)) (sym c.in-Some.is)
    ∙ the_found now.bodies.items text c.body_named.result (c.body_named.ensures
    ∙ ap (find (λ body. bytes_eq body.name.now text)) c.deref.ensures.value)) in
    let all : c.len-2.result ≡ length one.parts.items = omega (arith, c.len-2.ensures) in
    let less : left ≡ now.left - length one.parts.items = ap (λ n. now.left - n) all in
    subst (λ answer. Read c.await_arguments.new.self answer c.await_arguments.result)
    (sym (ap (use_of (state_of now) start (place_of c.args.name.place)) named
    ∙ not_too_large (state_of now) start (place_of c.args.name.place) one
    (omega (arith, c.len.ensures, c.if-self-len.false))
    ∙ ap {B = Result Unfolding Fault} Ok (sym (begun_by (state_of now)
    (reading_in used arguments now.reading) start one used arguments left less
    (c.in_ok-extend_from_slice.ensures.items
    ∙ ap (λ xs. xs ++ c.deref-2.result.now) c.clear.ensures.items ∙ c.deref-2.ensures.value)
    c.clear-2.ensures.items)))) c.await_arguments.ensures
