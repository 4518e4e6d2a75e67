-- The job `dis`: what it writes.
use Rattle.std.specs.Prelude.{ℕ, ◌≡◌, List, [], ◌∷◌, ◌++◌, length, nat_lt, Option, Result, Ok, Err, unwrap_or, if◌then◌else◌}
use Rattle.ga_asm.specs.Image.{ImageView}
use Rattle.ga_disasm.specs.Disassembling.{items_of}
use Rattle.ga_disasm.specs.Printing.{node_line, text_of}
use Rattle.ga_programs.specs.Asm.{IsAsmOutput, images_text}
use Rattle.ga_input.specs.declared.fault.ServeError.{ServeError}
use Rattle.ga_input.specs.declared.fault.ServeError.TheVariants.{Words}
use Rattle.ga_input.specs.declared.fault.WordsFault.TheVariants.{BadCode}
use Rattle.ga_input.specs.Text.{and_then, words_in}

-- the source text of words, of which the first n are code
unfoldable pub dis_text : ℕ → List ℕ → List ℕ
dis_text code_len words = node_line ++ text_of (items_of code_len words)

-- What `dis` writes for an input, or its first fault. Without a number, all words are code.
abbrev pub dis_output : Option ℕ → List ℕ → Result (List ℕ) ServeError
dis_output code input =
    and_then (λ words. let code_len = unwrap_or code (length words) in
    if nat_lt (length words) code_len then Err (Words BadCode) else Ok (dis_text code_len words))
    (words_in input)

-- the image of words, of which the first `code_len` are code, without labels; the groups of items
-- that it was made of aren't written
abbrev pub plain_image : List ℕ → ℕ → ImageView
plain_image words code_len =
    record { words = words; code_len = code_len; entry = 0; labels = []; item_counts = [] }

-- What `asm` writes for a text is the image of these words, in node 000, and it may write nothing
-- else.
pub record AssemblesTo (text words : List ℕ) (code_len : ℕ) : Type 0 where
  pub written : IsAsmOutput text (Ok (images_text ((0, plain_image words code_len) ∷ [])))
  pub only : (answer : Result (List ℕ) ServeError) → IsAsmOutput text answer
      → answer ≡ Ok (images_text ((0, plain_image words code_len) ∷ []))
