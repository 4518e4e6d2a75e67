mod Judged
mod Parts
mod Reported
mod WithWaits
mod Traced
mod Pieces
mod Waving
