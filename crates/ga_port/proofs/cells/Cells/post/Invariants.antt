use Rattle.ga_port.proofs.cells.Cells.post.Given as goal

abbrev pub ghosts-post_as : goal.ghosts-post_as
ghosts-post_as a = record { what = a._what }
