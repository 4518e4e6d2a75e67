use Rattle.ga_port.proofs.cells.Cells.share.Given as goal

abbrev pub ghosts-share_as : goal.ghosts-share_as
ghosts-share_as a = record { names = a._names.now }
