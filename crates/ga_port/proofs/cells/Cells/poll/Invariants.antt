use Rattle.ga_port.proofs.cells.Cells.poll.Given as goal

abbrev pub ghosts-poll_as : goal.ghosts-poll_as
ghosts-poll_as a = record { what = a._what }
