use Rattle.std.proofs.Common.{◌≡◌, ◌∙◌, ◌++◌, OnOk, ap, string_bytes, subst}
use Rattle.ga_profile.specs.Bottleneck.{most_on_path, sentence, sentence_at}
use Rattle.ga_profile.proofs.bottleneck.push_sentence.Goals as goal

pub returns : goal.returns
unfolding sentence
returns c =
    let nodes = c.args.profile.now.nodes.items in
    let paths = c.args.profile.now.path.items in
    let turns = c.length-turns.result in
    let shorter = c.args.profile.now.shorter in
    let most = c.most_on_path-most.result in
    subst (λ text. OnOk c.push_node.result (string_bytes c.push_node.new.text
    ≡ string_bytes c.args.text.now ++ text))
    (ap (λ l. sentence_at l c.as_slice-paths.result.now shorter turns most)
    c.as_slice-nodes.ensures.value
    ∙ ap (λ l. sentence_at nodes l shorter turns most) c.as_slice-paths.ensures.value
    ∙ ap (sentence_at nodes paths shorter turns) (c.most_on_path-most.ensures.value
    ∙ ap (λ l. most_on_path l 144) c.as_slice-paths.ensures.value)
    ∙ ap (λ n. sentence_at nodes paths shorter n (most_on_path paths 144)) c.length-turns.ensures)
    c.push_node.ensures
