use Rattle.std.proofs.Common.{◌≡◌, ◌∙◌, ℕ, List, [], ◌∷◌, ◌++◌, ap, append-nil, codes, string_bytes, sym}
use Rattle.std.specs.List.{concat}
use Rattle.ga_dump.proofs.Lines.{parts}
use Rattle.ga_report.specs.Escape.{escaped}
use Rattle.ga_report.specs.Listing.{begin_text, same_text, section_part}
use Rattle.ga_report.proofs.listing.push_section.Goals as goal

six : (old a b c d e new p q r s t u : List ℕ) → a ≡ old ++ p → b ≡ a ++ q → c ≡ b ++ r
    → d ≡ c ++ s → e ≡ d ++ t → new ≡ e ++ u
    → new ≡ old ++ concat (p ∷ q ∷ r ∷ s ∷ t ∷ u ∷ [])
six old a b c d e new p q r s t u a_is b_is c_is d_is e_is new_is =
    parts old a new p (q ++ (r ++ (s ++ (t ++ (u ++ []))))) a_is
    (parts a b new q (r ++ (s ++ (t ++ (u ++ [])))) b_is
    (parts b c new r (s ++ (t ++ (u ++ []))) c_is
    (parts c d new s (t ++ (u ++ [])) d_is
    (parts d e new t (u ++ []) e_is (new_is ∙ ap (λ end. e ++ end) (sym (append-nil u)))))))

pub returns : goal.returns
unfolding section_part
returns c =
    let section = c.args.section.now in
    let old = string_bytes c.args.text.now in
    let begun = string_bytes c.push_str.new.self in
    let behind = string_bytes c.push_str-2.new.self in
    six old begun (string_bytes c.push_escaped.new.text) (string_bytes c.push_same.new.text)
    behind (string_bytes c.push_escaped-2.new.text) (string_bytes c.push_str-3.new.self)
    (begin_text section.same_as) (escaped (string_bytes section.line))
    (same_text section.same_as) (codes "</summary>\n<pre tabindex='0'>")
    (escaped (string_bytes section.rows)) (codes "</pre></details>\n")
    (c.in_ok-push_str.ensures.bytes ∙ ap (λ begin. old ++ begin) c.begin_text.ensures)
    (c.in_ok-push_escaped.ensures ∙ ap (λ line. begun ++ escaped line) c.as_str.ensures.value)
    c.in_ok-push_same.ensures c.in_ok-push_str-2.ensures.bytes
    (c.in_ok-push_escaped-2.ensures
    ∙ ap (λ rows. behind ++ escaped rows) c.as_str-2.ensures.value)
    c.in_ok-push_str-3.ensures.bytes
