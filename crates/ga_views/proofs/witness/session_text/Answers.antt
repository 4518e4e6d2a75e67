use Rattle.std.proofs.Common.{◌∙◌, ◌++◌, ap, codes, string_bytes}
use Rattle.ga_views.specs.Witness.{first_comment, head_before_go, try_lines, turn_line, witness_session, words_shown}
use Rattle.ga_views.proofs.Parts.{six_parts}
use Rattle.ga_views.proofs.witness.session_text.Goals as goal

pub returns : goal.returns
unfolding witness_session
returns c =
    let race = c.args.race.now in
    let tries = c.in_ok-push_way.ensures
    ∙ ap (λ way. string_bytes c.push_turns.new.text ++ try_lines way) c.as_slice.ensures.value in
    λ shown. (
      c.in_ok-way.way.items,
      c.in_ok-way.ensures shown,
      six_parts _ (head_before_go c.args.loading.now c.args.input.now) (codes "go\n")
          (first_comment race) (turn_line race.take.turn) (try_lines c.in_ok-way.way.items)
          (words_shown race) _ _ _ _ _ c.new-text.ensures.bytes c.in_ok-push_head.ensures
          c.in_ok-push_first_comment.ensures c.in_ok-push_turns.ensures tries
          c.in_ok-push_both_words.ensures,
    )
