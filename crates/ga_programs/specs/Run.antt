-- The job `run`: what it may write.
use Rattle.std.specs.Prelude.{ℕ, ◌≡◌, ◌+◌, ◌%◌, ◌==◌, List, [], ◌∷◌, ◌++◌, map, MatchOption, None, Result, Ok, Err, if◌then◌else◌}
use Rattle.std.specs.List.{flat_map, range_with_len}
use Rattle.std.specs.Option.{option_map_or}
use Rattle.ga_chip.specs.Chip.{Chip, state_of}
use Rattle.ga_chip.specs.Run as run
use Rattle.ga_dump.specs.Ledger.{ledger_dump}
use Rattle.ga_dump.specs.Node.{node_dump}
use Rattle.ga_group.specs.Plan.{Groups, plan_fault}
use Rattle.ga_group.specs.Workers.{IsWorkersRun, rounds_of}
use Rattle.ga_asm.specs.Text.{AtMostOne}
use Rattle.ga_path.specs.Stream.{Images, unreached}
use Rattle.ga_path.specs.Tree.{TreeView}
use Rattle.ga_path.specs.declared.error.BootError.TheVariants.{Unreached}
use Rattle.ga_debug.specs.Beginning.{booted_tree}
use Rattle.ga_input.specs.declared.fault.ServeError.{ServeError}
use Rattle.ga_input.specs.declared.fault.ServeError.TheVariants.{Boot, Plan}
use Rattle.ga_input.specs.Source.{IsOfImages}
use Rattle.ga_input.specs.Tree.{tree_in}

-- the nodes of one of some workers: the i-th node goes to worker i modulo their number; the first
-- node here is the one with this i
abbrev pub nodes_for : ℕ → ℕ → ℕ → List ℕ → List ℕ
nodes_for workers worker at [] = []
nodes_for workers worker at (name ∷ names) =
    if at % workers == worker then name ∷ nodes_for workers worker (at + 1) names
    else nodes_for workers worker (at + 1) names

-- the nodes of each of n workers
abbrev pub dealt : ℕ → List ℕ → Groups
dealt workers nodes = map (λ worker. nodes_for workers worker 0 nodes) (range_with_len 0 workers)

-- a plan of groups, or their fault
abbrev pub plan_by : Groups → Result Groups ServeError
plan_by groups = option_map_or (λ fault. Err (Plan fault)) (plan_fault groups) (Ok groups)

-- of each node its registers and stacks, and the numbers of the cells that it writes
abbrev pub node_reports : Chip → List ℕ → List ℕ
node_reports chip names =
    flat_map (λ name. option_map_or node_dump (state_of chip name) [] ++ ledger_dump chip name)
    names

-- The text has the nodes at the end of a run of a chip, in which `workers` workers share the nodes
-- and make `turns` turns. A single worker tries all nodes in their order, one round after another.
pub record IsRunText (chip : Chip) (nodes : List ℕ) (workers turns : ℕ)
    (text : List ℕ) : Type 0 where
  pub next : Chip
  pub ran : IsWorkersRun chip (dealt workers nodes) turns next
  pub alone : workers ≡ 1 → next ≡ run.ran chip (run.tries_of (rounds_of nodes turns))
  pub text_is : text ≡ node_reports next nodes

-- the result of a chip and nodes, or the fault of these as a plan
abbrev pub IsRunFrom : Chip → List ℕ → ℕ → ℕ → Result (List ℕ) ServeError → Type 0
IsRunFrom chip nodes workers turns (Ok text) =
    (plan_fault (dealt workers nodes) ≡ None) × IsRunText chip nodes workers turns text
IsRunFrom chip nodes workers turns (Err fault) = plan_by (dealt workers nodes) ≡ Err fault

-- the result of images and a tree, or of a fault of the routes: the chip boots the tree, if each
-- node with an image is in it
abbrev pub IsRunOf : Images → ℕ → ℕ → Result TreeView ServeError → Result (List ℕ) ServeError
    → Type 0
IsRunOf images workers turns (Ok tree) answer =
    MatchOption (unreached images tree.nodes)
    (IsRunFrom (booted_tree images tree) tree.nodes workers turns answer)
    (λ node. Err (Boot (Unreached node)) ≡ answer)
IsRunOf images workers turns (Err fault) answer = Err fault ≡ answer

-- what `run` may write for an input, or its first fault: of the source, of the assembly, of the
-- routes, of the tree, of the boot, of the plan
abbrev pub IsRunOutput : List ℕ → ℕ → ℕ → List ℕ → Result (List ℕ) ServeError → Type 0
IsRunOutput routes workers turns input answer =
    IsOfImages (λ images. IsRunOf images workers turns (tree_in routes)) input answer

-- two answers are both texts, or they are equal
abbrev pub AreTextsOrEqual : Result (List ℕ) ServeError → Result (List ℕ) ServeError → Type 0
AreTextsOrEqual (Ok text) (Ok other) = Unit {0}
AreTextsOrEqual answer other = answer ≡ other

-- Two answers to one input, with the same number of workers: both are texts, or they are equal.
-- Those of a single worker are equal.
pub record HasRuns (workers : ℕ) (Is : Result (List ℕ) ServeError → Type 0) : Type 0 where
  pub texts : (answer other : Result (List ℕ) ServeError) → Is answer → Is other
      → AreTextsOrEqual answer other
  pub alone : workers ≡ 1 → AtMostOne Is
