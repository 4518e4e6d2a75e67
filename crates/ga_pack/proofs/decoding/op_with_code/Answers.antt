use Rattle.std.proofs.Common.{rules, ◌≡◌, sym, ap, ◌∙◌}
use Rattle.ga_word.specs.Op.{code_of, op_with}
use Rattle.ga_word.proofs.OpCodes.{op_with-code_of}
use Rattle.ga_pack.proofs.decoding.op_with_code.Goals as goal

pub returns-clause-op : goal.returns-clause-op
returns-clause-op c =
    let code : code_of c.unwrap.result ≡ c.args.code = search rules in
    sym (op_with-code_of c.unwrap.result) ∙ ap op_with code
