-- The columns of a window.
use Rattle.std.specs.Prelude.{ℕ, ◌+◌, ◌-◌, ◌*◌, ◌/◌, max, min}
use Rattle.ga_profile.specs.declared.window.Window.{Window}
use Rattle.ga_profile.specs.Window.{length_of}

-- how many turns a column has: as few as give at most 600 columns
abbrev pub stride_of : Window → ℕ
stride_of window = max ((length_of window + 599) / 600) 1

-- how many columns a window has; the last one may have fewer turns
abbrev pub columns_of : Window → ℕ
columns_of window = (length_of window + (stride_of window - 1)) / stride_of window

-- the turn with which a column begins, or the end of the window
abbrev pub bound : Window → ℕ → ℕ
bound window column = min (window.first + column * stride_of window) window.end

-- how many turns all columns have, with those behind the end of the window in the last one
abbrev pub turns_drawn : Window → ℕ
turns_drawn window = columns_of window * stride_of window
