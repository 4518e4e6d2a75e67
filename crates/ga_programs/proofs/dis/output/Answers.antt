use Rattle.std.proofs.Common.{◌≡◌, ◌∙◌, ◌≤◌, ◌++◌, ℕ, List, Option, Result, Ok, Err, length, map, refl, sym, ap, subst, string_bytes, unwrap_or, arith}
use Rattle.std.proofs.lemmas.Bool.{le-ltb}
use Rattle.std.proofs.lemmas.Str.{IsUtf8-string_bytes}
use Rattle.ga_disasm.specs.Disassembling.{item_view, items_of}
use Rattle.ga_disasm.specs.Printing.{node_line, text_of}
use Rattle.ga_disasm.specs.declared.item.Item.{Item}
use Rattle.ga_disasm.specs.Source.{IsSourceOf}
use Rattle.ga_programs.specs.Dis.{dis_text}
use Rattle.ga_input.specs.Text.{and_then}
use Rattle.std.specs.Prelude.{nat_lt, if◌then◌else◌}
use Rattle.ga_input.specs.declared.fault.ServeError.{ServeError}
use Rattle.ga_input.specs.declared.fault.ServeError.TheVariants.{Words}
use Rattle.ga_input.specs.declared.fault.WordsFault.TheVariants.{BadCode}
use Rattle.ga_programs.proofs.Again.{again}
use Rattle.ga_programs.proofs.dis.output.Goals as goal
use Rattle.ga_programs.proofs.dis.output.Goals.{in-Some, in-None}

-- the text of words, at least `code_len` of them
is_text : (code : Option ℕ) (found : Result (List ℕ) ServeError) (words : List ℕ) (code_len : ℕ)
    (text : List ℕ) → found ≡ Ok words → code_len ≡ unwrap_or code (length words)
    → code_len ≤ length words → text ≡ node_line ++ text_of (items_of code_len words)
    → and_then (λ ws. if nat_lt (length ws) (unwrap_or code (length ws)) then Err (Words BadCode)
    else Ok (dis_text (unwrap_or code (length ws)) ws)) found ≡ Ok text
unfolding dis_text
is_text code found words code_len text e same within is =
    rw (e, ← same, le-ltb (length words) code_len within, is) refl

pub returns : goal.returns
returns c =
    let words = c.in_ok-words.words.items in
    let code_len = c.match-code.code_len in
    let same : code_len ≡ unwrap_or c.args.code (length words) =
    elim c.match-code.branch [
      | in-Some w ↦ rw w.in-Some.is w.code_len-is
      | in-None w ↦ rw w.in-None.is (omega (arith, w.code_len-is, w.len-code_len.ensures))
    ] in
    let items = c.in_ok-items.ensures.items ∙ ap (items_of code_len) c.deref.ensures.value in
    let printed = c.in_ok-print.ensures.text
    ∙ ap (λ (items : List Item). text_of (map item_view items)) c.deref-2.ensures.value
    ∙ ap text_of items in
    let within : code_len ≤ length words = omega (arith, c.len.ensures) in
    let text =
    c.in_ok-push_str.ensures.bytes
    ∙ ap (λ (front : List ℕ). front ++ c.deref-3.result.now) c.in_ok-text.ensures.ok
    ∙ ap (λ (lines : List ℕ). node_line ++ lines) c.deref-3.ensures in
    let items_are =
    ap (λ (items : List Item). map item_view items) c.deref-2.ensures.value ∙ items in
    record {
      output = is_text c.args.code _ words code_len _ c.in_ok-words.ensures.words same within
          (text ∙ ap (λ (lines : List ℕ). node_line ++ lines) printed);
      again = λ words' is.
          again c.args.input.now words words' (string_bytes c.push_str.new.self) c.args.code
          code_len c.in_ok-words.ensures.words is same within
          (IsUtf8-string_bytes c.push_str.new.self)
          (λ fit. subst (λ (t : List ℕ). IsSourceOf t words code_len) (sym text)
          (c.in_ok-print.ensures.source words code_len fit items_are));
    }
