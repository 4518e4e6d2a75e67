use Rattle.std.proofs.Common.{◌≡◌, ◌++◌, drop, string_bytes}
use Rattle.ga_programs.specs.Run.{node_reports}
use Rattle.ga_programs.proofs.run.node_reports.Given as goal

-- the text of the nodes that are left comes to that of all
abbrev pub invariant-loop-node : goal.invariant-loop-node
invariant-loop-node l =
    string_bytes l.text ++ node_reports l.fn.chip (drop l.node-index l.fn.nodes)
    ≡ node_reports l.fn.chip l.fn.nodes
