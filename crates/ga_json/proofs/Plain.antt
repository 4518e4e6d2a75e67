-- No number of a profile is a float.
use Rattle.std.proofs.Common.{◌≡◌, ◌∙◌, ◌||◌, ℕ, Bool, false, true, List, [], ◌∷◌, ◌++◌, None, Option, Some, ap, get_or, map, refl}
use Rattle.std.specs.List.{flat_map, range_with_len}
use Rattle.serde_json.specs.Data.{Data}
use Rattle.serde_json.specs.View.{items_of}
use Rattle.serde_json.specs.Written.{has_float, items_have_float}
use Rattle.ga_place.specs.Cell.{name_at}
use Rattle.ga_trace.specs.Depth.{BOTH_EMPTY}
use Rattle.ga_trace.specs.declared.depth.StackDepths.{StackDepths}
use Rattle.ga_profile.specs.declared.lines.PathLine.{PathLine}
use Rattle.ga_profile.specs.declared.node_pass.NodePass.{NodePass}
use Rattle.ga_profile.specs.declared.node_turns.NodeTurns.{NodeTurns}
use Rattle.ga_profile.specs.declared.profile.Profile.{Profile}
use Rattle.ga_profile.specs.Lines.{path_lines}
use Rattle.ga_profile.specs.NodeTurns.{NO_TURNS}
use Rattle.ga_profile.specs.Unread.{unread_nodes}
use Rattle.ga_json.specs.Profile.{line_data, lines_data, name_data, node_at, node_data, node_if, nodes_data, pass_data, passed_data, profile_data, stacks_data, stuck_data, turns_data, window_data, word_data, words_data}

pass_plain : (pass : Option NodePass) → has_float (pass_data pass) ≡ false
unfolding pass_data
pass_plain None = refl
pass_plain (Some pass) = refl

passed_plain : (passed : Option ℕ) → has_float (passed_data passed) ≡ false
passed_plain None = refl
passed_plain (Some address) = refl

node_plain : (name : ℕ) (turns : NodeTurns) (pass : Option NodePass) (path : ℕ)
    (depths : StackDepths) → has_float (node_data name turns pass path depths) ≡ false
unfolding node_data stacks_data turns_data words_data
node_plain name turns pass path depths =
    rw (
      pass_plain pass,
      passed_plain depths.data_stack.passed,
      passed_plain depths.return_stack.passed,
    ) refl

either : (b c d : Bool) → b || c ≡ false → (c ≡ false → d ≡ false) → b || d ≡ false
either true c d none rest = none
either false c d none rest = rest none

-- nodes, one behind the other
both : (front back : List Data) → items_have_float (items_of front) ≡ false
    → items_have_float (items_of back) ≡ false
    → items_have_float (items_of (front ++ back)) ≡ false
both [] back few more = more
both (one ∷ front) back few more =
    either (has_float one) (items_have_float (items_of front))
    (items_have_float (items_of (front ++ back))) few
    (λ rest. both front back rest more)

one_plain : (began : Option ℕ) (node : Data) → has_float node ≡ false
    → items_have_float (items_of (node_if began node)) ≡ false
one_plain None node plain = refl
one_plain (Some turn) node plain = ap (λ b. b || false) plain

node_at_plain : (profile : Profile) (index : ℕ)
    → items_have_float (items_of (node_at profile index)) ≡ false
node_at_plain profile index =
    let turns = get_or profile.nodes.items index NO_TURNS in
    let pass = get_or profile.passes.items index None in
    let path = get_or profile.path.items index 0 in
    let depths = get_or profile.depths.items index BOTH_EMPTY in
    one_plain turns.began (node_data (name_at index) turns pass path depths)
    (node_plain (name_at index) turns pass path depths)

all_plain : (f : ℕ → List Data) → ((index : ℕ) → items_have_float (items_of (f index)) ≡ false)
    → (indices : List ℕ) → items_have_float (items_of (flat_map f indices)) ≡ false
all_plain f each [] = refl
all_plain f each (index ∷ indices) =
    both (f index) (flat_map f indices) (each index) (all_plain f each indices)

nodes_plain : (profile : Profile) → has_float (nodes_data profile) ≡ false
unfolding nodes_data
nodes_plain profile =
    all_plain (node_at profile) (node_at_plain profile) (range_with_len 0 144)

word_plain : (word : Option ℕ) → has_float (word_data word) ≡ false
word_plain None = refl
word_plain (Some word) = refl

line_plain : (line : PathLine) → has_float (line_data line) ≡ false
unfolding line_data
line_plain line = ap (λ b. b || false) (word_plain line.word)

mapped_plain : {A : Type 0} (f : A → Data) → ((one : A) → has_float (f one) ≡ false)
    → (all : List A) → items_have_float (items_of (map f all)) ≡ false
mapped_plain f each [] = refl
mapped_plain f each (one ∷ all) =
    ap (λ b. b || items_have_float (items_of (map f all))) (each one) ∙ mapped_plain f each all

lines_plain : (profile : Profile) → has_float (lines_data profile) ≡ false
unfolding lines_data
lines_plain profile =
    mapped_plain line_data line_plain (path_lines profile.path.items profile.lines.items)

stuck_plain : (profile : Profile) → has_float (stuck_data profile) ≡ false
unfolding stuck_data
stuck_plain profile = mapped_plain name_data (λ name. refl) (unread_nodes profile.chip)

none : (lines nodes stuck : Bool) → lines ≡ false → nodes ≡ false → stuck ≡ false
    → lines || (nodes || (stuck || false)) ≡ false
none lines nodes stuck a b c =
    ap (λ one. one || (nodes || (stuck || false))) a ∙ ap (λ one. one || (stuck || false)) b
    ∙ ap (λ one. one || false) c

pub profile_plain : (profile : Profile) → has_float (profile_data profile) ≡ false
unfolding profile_data window_data
profile_plain profile =
    none (has_float (lines_data profile)) (has_float (nodes_data profile))
    (has_float (stuck_data profile)) (lines_plain profile) (nodes_plain profile)
    (stuck_plain profile)
