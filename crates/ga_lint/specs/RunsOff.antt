-- The code of a node can be left behind its last word.
use Rattle.std.specs.Prelude.{◌&&◌, ℕ, ◌+◌, Bool, not, drop, nat_lt}
use Rattle.std.specs.List.{list_any}
use Rattle.ga_lint.specs.NodeView.{NodeView}
use Rattle.ga_lint.specs.Reaching.{comes_on, is_code, is_code_at}

-- the word at an address is code, and none behind it is
abbrev pub is_last_code : NodeView → ℕ → Bool
is_last_code node address =
    is_code_at node address && not (list_any is_code (drop (address + 1) node.words))

-- Execution goes on behind the last word of code and its followers, to data or to words that the
-- node doesn't have. Behind 64 words it comes to the first one again.
abbrev pub runs_off : NodeView → ℕ → Bool
runs_off node address =
    nat_lt node.image.code_len 64 && is_last_code node address
    && comes_on node node.image.code_len
