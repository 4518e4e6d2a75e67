use Rattle.std.proofs.Common.{◌≡◌, ◌∙◌, ◌++◌, ◌-◌, ◌*◌, ◌+◌, ◌∷◌, Err, None, Result, Some, ap, arith, length, map, nat_lt, sym}
use Rattle.std.specs.Prelude.{option_map}
use Rattle.std.specs.List.{find, flat_map}
use Rattle.ga_expand.specs.declared.piece.Piece as here
use Rattle.ga_expand.specs.Error.{Fault}
use Rattle.ga_expand.specs.NodeLists.{Spreading, is_long}
use Rattle.ga_expand.specs.inner.NodeLists.{spreading_of}
use Rattle.ga_expand.specs.inner.Piece.{piece_in}
use Rattle.ga_expand.proofs.Copies.{fits, fits_not, how_many, list_done, list_ends, list_too_large, list_too_long, long_found, with_all}
use Rattle.ga_expand.proofs.node_lists.Spreader.end_list.Goals as goal

pub returns-in_default : goal.returns-in_default
returns-in_default c some =
    let now = c.args.self.now in
    let tokens = now.tokens.items in
    let names = c.in_ok-names.names.items in
    let one : length names ≡ c.len.result = omega (arith, c.len.ensures) in
    let other : length tokens ≡ c.len-2.result = omega (arith, c.len-2.ensures) in
    let all = how_many c.args.list tokens names c.in_ok-names.ensures
    ∙ ap (λ n. n * (length tokens + 2)) one ∙ ap (λ n. c.len.result * (n + 2)) other in
    let large = fits_not now.left _ (sym c.in_default.is ∙ c.left_behind.ensures) in
    list_too_large (spreading_of now) (piece_in c.args.node) (piece_in c.args.list)
    (map piece_in tokens) (sym c.are_nodes.ensures ∙ c.if-not-are_nodes.false)
    (ap (nat_lt now.left) all ∙ large)
    ∙ ap {B = Result Spreading Fault} Err (sym c.error_at-in_default.ensures.fault)

pub returns-in-Some-first_long : goal.returns-in-Some-first_long
returns-in-Some-first_long c some =
    let now = c.args.self.now in
    let tokens = now.tokens.items in
    let long = c.in-Some-first_long.long.now in
    let names = c.in_ok-names.names.items in
    let one : length names ≡ c.len.result = omega (arith, c.len.ensures) in
    let other : length tokens ≡ c.len-2.result = omega (arith, c.len-2.ensures) in
    let all = how_many c.args.list tokens names c.in_ok-names.ensures
    ∙ ap (λ n. n * (length tokens + 2)) one ∙ ap (λ n. c.len.result * (n + 2)) other in
    let fit = fits now.left _ c.in-Some.left (sym c.in-Some.is ∙ c.left_behind.ensures) in
    let found : find is_long (map piece_in tokens) ≡ Some (piece_in long) =
    sym (long_found tokens)
    ∙ ap (λ ps. option_map piece_in
    (find (λ (piece : here.Piece). nat_lt 64 (length piece.text.now)) ps))
    (sym c.deref.ensures.value)
    ∙ ap (option_map piece_in) (sym c.first_long.ensures
    ∙ ap (option_map (λ piece. piece.now)) c.in-Some-first_long.is) in
    list_too_long (spreading_of now) (piece_in c.args.node) (piece_in c.args.list)
    (piece_in long) (map piece_in tokens)
    (sym c.are_nodes.ensures ∙ c.if-not-are_nodes.false) (ap (nat_lt now.left) all ∙ fit.0)
    found
    ∙ ap {B = Result Spreading Fault} Err
    (sym c.error_at-in-Some-first_long.ensures.fault)

pub returns : goal.returns
returns c =
    let now = c.args.self.now in
    let tokens = now.tokens.items in
    let names = c.in_ok-names.names.items in
    let node = c.args.node in
    let one : length names ≡ c.len.result = omega (arith, c.len.ensures) in
    let other : length tokens ≡ c.len-2.result = omega (arith, c.len-2.ensures) in
    let all = how_many c.args.list tokens names c.in_ok-names.ensures
    ∙ ap (λ n. n * (length tokens + 2)) one ∙ ap (λ n. c.len.result * (n + 2)) other in
    let fit = fits now.left _ c.in-Some.left (sym c.in-Some.is ∙ c.left_behind.ensures) in
    let found : find is_long (map piece_in tokens) ≡ None =
    sym (long_found tokens)
    ∙ ap (λ ps. option_map piece_in
    (find (λ (piece : here.Piece). nat_lt 64 (length piece.text.now)) ps))
    (sym c.deref.ensures.value)
    ∙ ap (option_map piece_in) (sym c.first_long.ensures
    ∙ ap (option_map (λ piece. piece.now)) c.in_default-first_long.is) in
    list_ends (spreading_of now) (piece_in node) (piece_in c.args.list) (map piece_in tokens)
    (sym c.are_nodes.ensures ∙ c.if-not-are_nodes.false) (ap (nat_lt now.left) all ∙ fit.0)
    found
    ∙ list_done (spreading_of now) (piece_in node) (piece_in c.args.list) (map piece_in tokens)
    (map piece_in c.push_copies.new.pieces.items) c.in-Some.left
    (with_all node c.args.list now.done.items c.push_copies.new.pieces.items tokens names
    c.in_ok-names.ensures (c.in_ok-push_copies.ensures
    ∙ ap (λ ps. now.done.items ++ flat_map (λ name. node ∷ name ∷ c.deref-3.result.now) ps)
    c.deref-2.ensures.value
    ∙ ap (λ ps. now.done.items ++ flat_map (λ name. node ∷ name ∷ ps) names)
    c.deref-3.ensures.value))
    (ap (λ n. now.left - n) all ∙ fit.1)
