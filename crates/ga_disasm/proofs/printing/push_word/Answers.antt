use Rattle.std.proofs.Common.{◌∙◌, ◌++◌, ◌≡◌, List, ap, map, string_bytes}
use Rattle.ga_word.specs.Op.{name_of}
use Rattle.ga_word.specs.declared.op.Op.{Op}
use Rattle.ga_disasm.specs.Printing.{behind_spaces, field_texts}
use Rattle.ga_disasm.proofs.Writing.{no_field, some_field, word_line}
use Rattle.ga_disasm.proofs.printing.push_word.Goals as goal
use Rattle.ga_disasm.proofs.printing.push_word.Goals.{in-Some+in_ok-push_field, in_default}

pub returns : goal.returns
returns c =
    let packed = c.args.packed.now in
    let named = c.in_ok-push_ops.ensures ∙ ap (λ (ops : List Op). string_bytes c.push_str.new.self
    ++ behind_spaces (map name_of ops)) c.as_slice.ensures.value in
    let fielded : string_bytes c.match-packed.text ≡ string_bytes c.push_ops.new.text
    ++ behind_spaces (field_texts packed.dest packed.spare) =
    elim c.match-packed.branch [
      | in-Some+in_ok-push_field w ↦ some_field _ _ packed.dest w.in-Some.dest packed.spare
          w.in-Some.is (ap string_bytes w.text-is ∙ w.in_ok-push_field.ensures)
      | in_default w ↦
          no_field _ _ packed.dest packed.spare w.in_default.is (ap string_bytes w.text-is)
    ] in
    word_line _ _ _ _ _ packed.ops.items (field_texts packed.dest packed.spare)
    c.in_ok-push_str.ensures.bytes named fielded c.in_ok-push_str-2.ensures.bytes
