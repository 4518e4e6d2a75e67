use Rattle.ga_port.proofs.cells.Cells.check.Given as goal

abbrev pub ghosts-check_as : goal.ghosts-check_as
ghosts-check_as a = record { what = a._what }
