-- The label that a refused line may have meant.
use Rattle.std.specs.Prelude.{ℕ, ◌||◌, List, [], ◌∷◌, ◌++◌, codes, is_some, Option, None, Some, if◌then◌else◌}
use Rattle.std.specs.Option.{option_and_then, option_map_or}
use Rattle.std.specs.Str.{bytes_eq}
use Rattle.ga_asm.specs.Image.{image_of}
use Rattle.ga_pack.specs.Model.Layout.{Labels}
use Rattle.ga_path.specs.Stream.{Images}
use Rattle.ga_place.specs.Node.{node_named}
use Rattle.ga_debug.specs.declared.beginning.Program.{Program}
use Rattle.ga_debug.specs.declared.error.DebugError.{DebugError}
use Rattle.ga_debug.specs.declared.error.DebugError.TheVariants.{BadAddress, BadValue}
use Rattle.ga_debug.specs.Command.{Words, words_of}
use Rattle.ga_debug.specs.Label.{label_in}
use Rattle.ga_nearest.specs.Nearest.{Found, nearer, nothing_near}
use Rattle.ga_debug.specs.Pieces.{pieces}
use Rattle.ga_debug.specs.Values.{plain_what, side_named}
use Rattle.ga_debug.specs.Word.{address_of}

abbrev pub first_of : Words → Option (List ℕ)
first_of [] = None
first_of (word ∷ words) = Some word

-- the first of some words, or the one behind `=`
abbrev pub behind_equals : Words → Option (List ℕ)
behind_equals [] = None
behind_equals (word ∷ words) = if bytes_eq word (codes "=") then first_of words else Some word

-- the first of some words, or the value behind `at`
abbrev pub behind_at : Words → Option (List ℕ)
behind_at [] = None
behind_at (word ∷ words) = if bytes_eq word (codes "at") then behind_equals words else Some word

-- no label is three hex digits, or names what a node shows
abbrev pub unless_address : List ℕ → Option (List ℕ)
unless_address word = if is_some (address_of word) then None else Some word

abbrev pub unless_what : Images → ℕ → List ℕ → Option (List ℕ)
unless_what images node word =
    if is_some (side_named word) || is_some (plain_what images node word) then None else Some word

-- the word behind a node that is refused so, if it may be meant as a label
abbrev pub refused_word : Images → ℕ → DebugError → Words → Option (List ℕ)
refused_word images node BadAddress words = option_and_then unless_address (first_of words)
refused_word images node BadValue words =
    option_and_then (unless_what images node) (behind_at words)
refused_word images node fault words = None

-- the nearest one of some labels, among those found already
abbrev pub nearest_from : Found → Labels → Found
nearest_from found [] = found
nearest_from found (label ∷ labels) = nearest_from (nearer found label.0) labels

abbrev pub nearest_of : List ℕ → Labels → Option (List ℕ)
nearest_of word labels = (nearest_from (nothing_near word) labels).name

-- the label of a node that is nearest to a word which is no label
abbrev pub near_label : Images → ℕ → List ℕ → Option (List ℕ)
near_label images node word =
    if is_some (label_in images node word) then None
    else option_and_then (λ image. nearest_of word image.labels) (image_of images node)

-- the label that the words of a line may have meant which are refused so: what is in front of `+`
abbrev pub label_meant : Images → DebugError → Words → Option (List ℕ)
label_meant images fault (verb ∷ name ∷ words) =
    option_and_then (λ node. option_and_then (near_label images node)
    (option_and_then (λ word. first_of (pieces 43 word)) (refused_word images node fault words)))
    (node_named name)
label_meant images fault words = None

-- what a refusal says of a label, which only a transcript has
abbrev pub hint_of : Option Program → List ℕ → DebugError → List ℕ
hint_of None line fault = []
hint_of (Some program) line fault =
    option_map_or (λ label. codes ", the nearest label is " ++ label)
    (label_meant program.images fault (words_of line)) []
