-- The job `boot`: what it writes.
use Rattle.std.specs.Prelude.{ℕ, ◌≡◌, List, ◌∷◌, ◌++◌, codes, length, Result, Ok, Err}
use Rattle.std.specs.Option.{option_map_or}
use Rattle.std.specs.Fmt.{decimal}
use Rattle.ga_word.specs.Text.{text_of_words}
use Rattle.ga_path.specs.Stream.{Images, tree_load, tree_start, unreached}
use Rattle.ga_path.specs.Tree.{TreeView}
use Rattle.ga_path.specs.declared.error.BootError.TheVariants.{Unreached}
use Rattle.ga_input.specs.declared.fault.ServeError.{ServeError}
use Rattle.ga_input.specs.declared.fault.ServeError.TheVariants.{Boot}
use Rattle.ga_input.specs.Source.{IsOfImages}
use Rattle.ga_input.specs.Text.{and_then}
use Rattle.ga_input.specs.Tree.{tree_in}

-- a line with the name of a part and the number of its words, and the words
unfoldable pub part_text : List ℕ → List ℕ → List ℕ
part_text name words = name ++ codes " " ++ decimal (length words) ++ 10 ∷ text_of_words words

-- both parts, if there is a tree and each node with an image is in it
abbrev pub text_by : Images → Result TreeView ServeError → Result (List ℕ) ServeError
text_by images tree =
    and_then
    (λ found. option_map_or (λ node. Err (Boot (Unreached node))) (unreached images found.nodes)
    (Ok (part_text (codes "load") (tree_load images found)
    ++ part_text (codes "start") (tree_start images found))))
    tree

-- what `boot` may write for an input, or its first fault: of the source, of the assembly, of the
-- routes, of the tree, of the boot
abbrev pub IsBootOutput : List ℕ → List ℕ → Result (List ℕ) ServeError → Type 0
IsBootOutput routes input answer =
    IsOfImages (λ images right. text_by images (tree_in routes) ≡ right) input answer
