use Rattle.std.proofs.Common.{◌∙◌, ◌++◌, ◌≡◌, List, ap, map, string_bytes}
use Rattle.ga_word.specs.Op.{name_of}
use Rattle.ga_word.specs.declared.op.Op.{Op}
use Rattle.ga_asm.specs.Image.{labels_of}
use Rattle.ga_disasm.specs.Printing.{behind_spaces}
use Rattle.ga_disasm.proofs.Writing.{word_line}
use Rattle.ga_list.specs.Reading.{dest_texts}
use Rattle.ga_list.proofs.Writing.{no_dest, some_dest}
use Rattle.ga_list.proofs.reading.push_code.Goals as goal
use Rattle.ga_list.proofs.reading.push_code.Goals.{in-Some+in_ok-push_dest+in_ok-push_spare, in_default}

pub returns : goal.returns
returns c =
    let packed = c.args.packed.now in
    let ops = packed.ops.items in
    let labels = labels_of c.args.labels.now.entries in
    let named = c.in_ok-push_ops.ensures ∙ ap (λ (ops : List Op). string_bytes c.push_str.new.self
    ++ behind_spaces (map name_of ops)) c.as_slice.ensures.value in
    let told : string_bytes c.match-packed.text ≡ string_bytes c.push_ops.new.text
    ++ behind_spaces (dest_texts labels c.args.address ops packed.dest packed.spare) =
    elim c.match-packed.branch [
      | in-Some+in_ok-push_dest+in_ok-push_spare w ↦
          some_dest labels c.args.address w.target-target.result ops packed.dest w.in-Some.dest
          packed.spare _ _ _ w.in-Some.is w.target-target.ensures
          w.in_ok-push_dest.ensures (ap string_bytes w.text-is ∙ w.in_ok-push_spare.ensures)
      | in_default w ↦ no_dest labels c.args.address ops packed.dest packed.spare _ _
          w.in_default.is (ap string_bytes w.text-is)
    ] in
    word_line _ _ _ _ _ ops (dest_texts labels c.args.address ops packed.dest packed.spare)
    c.in_ok-push_str.ensures.bytes named told c.in_ok-push_str-2.ensures.bytes
