use Rattle.ga_port.proofs.cells.Cells.take.Given as goal

abbrev pub ghosts-take_as : goal.ghosts-take_as
ghosts-take_as a = record { what = a._what }
