use Rattle.ga_port.proofs.cells.Cells.own.Given as goal

abbrev pub ghosts-own_as : goal.ghosts-own_as
ghosts-own_as a = record { what = a._what }
