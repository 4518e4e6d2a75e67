-- Code that never runs: no step of the node fetches it, whatever its neighbours do.
use Rattle.std.specs.Prelude.{◌&&◌, ◌||◌, ℕ, Bool, not}
use Rattle.ga_lint.specs.Acting.{does}
use Rattle.ga_lint.specs.CodeWrites.{writes_code}
use Rattle.ga_lint.specs.LeafReturns.{strays}
use Rattle.ga_lint.specs.NodeView.{NodeView}
use Rattle.ga_lint.specs.Reaching.{comes_on, is_code_at, is_start}
use Rattle.ga_lint.specs.declared.acting.Act.TheVariants.{TakesWords, LeavesCode, SetsR}

-- A `;` that doesn't surely go back to the `call` of its routine goes behind another `call`; or to
-- 000, since R is 0 after reset; or anywhere, if R gets other words too.
abbrev pub returns_anywhere : NodeView → Bool
returns_anywhere node = strays node && (does node SetsR || not (is_start node 0))

-- the node begins where it has no code, or goes on behind its code
abbrev pub runs_off_code : NodeView → Bool
runs_off_code node =
    not (is_code_at node node.image.entry) || comes_on node node.image.code_len

-- The node runs words that aren't in its text, or may do so: those that its neighbours give, those
-- that it writes, and any that a `;` or an `ex` leads to.
abbrev pub takes_words : NodeView → Bool
takes_words node = does node TakesWords || returns_anywhere node || writes_code node

-- the text doesn't show to which words of the node execution comes
abbrev pub is_open : NodeView → Bool
is_open node =
    runs_off_code node || does node LeavesCode || takes_words node

-- the word at an address is code to which no execution comes
unfoldable pub is_dead : NodeView → ℕ → Bool
is_dead node address =
    is_code_at node address && not (is_start node address) && not (comes_on node address)
    && not (is_open node)
