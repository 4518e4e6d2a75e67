-- The definitions at worked values.
use Rattle.std.proofs.Common.{◌≡◌, ℕ, ◌++◌, List, [], ◌∷◌, Some, get_or, refl}
use Rattle.std.specs.Prelude.{codes, None, Option}
use Rattle.std.specs.Fmt.{digits}
use lib.Utf8.{encode}
use Rattle.std.specs.Str.{chars}
use Rattle.ga_word.specs.Hex.{hex_digits}
use Rattle.ga_place.specs.Side.{sides_with}
use Rattle.ga_place.specs.declared.side.Side.TheVariants.{Right}
use Rattle.ga_node.specs.declared.need.Need.TheVariants as need
use Rattle.ga_node.specs.declared.place.Place.TheVariants.{Fetch, Slot0}
use Rattle.ga_counts.specs.Listing.{SectionView}
use Rattle.ga_profile.specs.declared.node_pass.NodePass.{NodePass}
use Rattle.ga_profile.specs.declared.node_turns.TurnCounts.{TurnCounts}
use Rattle.ga_profile.specs.declared.window.Window.{Window}
use Rattle.ga_profile.specs.NodeTurns.{NO_COUNTS}
use Rattle.ga_report.specs.declared.kind.Kind.{Kind}
use Rattle.ga_report.specs.declared.kind.Kind.TheVariants.{Works, AwaitsWord, Spins, Idle}
use Rattle.ga_report.specs.CloseUp.{close_up_window}
use Rattle.ga_report.specs.Columns.{bound, columns_of, stride_of}
use Rattle.ga_report.specs.Ending.{kind_by, kind_since}
use Rattle.ga_report.specs.Escape.{escaped}
use Rattle.ga_report.specs.Holder.{column_at, held}
use Rattle.ga_report.specs.Line.{line_of, line_with, path_data}
use Rattle.ga_report.specs.Listing.{section_part}
use Rattle.ga_report.specs.Most.{between, most_of}
use Rattle.ga_report.specs.PathLine.{path_edges}
use Rattle.ga_report.specs.Picture.{arrow, group}
use Rattle.ga_report.specs.Rows.{summary, works_text, word_waits_text, reader_waits_text}
use Rattle.ga_report.specs.Source.{numbered}
use Rattle.ga_report.specs.Scale.{LABEL, OPENING, scale, share, tick, tick_at, ticks}
use Rattle.ga_report.specs.Timeline.{row_of}
use Rattle.ga_report.specs.declared.transfers.Transfer.{Transfer}
use Rattle.ga_report.specs.TransferLines.{line_end, middle, offset, title, turns_text, word_text}

-- the signs of XML go by name
signs : escaped (codes "a < \"b\" & c > d") ≡ codes "a &lt; &quot;b&quot; &amp; c &gt; d"
unfolding escaped chars encode
signs = refl

-- a control character (27) and one that sets the direction of writing (U+202E) are blanks, and
-- U+FFFF is replaced
undrawn : (escaped (27 ∷ []) ≡ 32 ∷ []) × (escaped (0xE2 ∷ 0x80 ∷ 0xAE ∷ []) ≡ 32 ∷ [])
    × (escaped (0xEF ∷ 0xBF ∷ 0xBF ∷ []) ≡ 0xEF ∷ 0xBF ∷ 0xBD ∷ [])
unfolding escaped chars encode
undrawn = (refl, refl, refl)

-- a line behind another one
second_line : numbered 1 (codes "<b") ≡ codes "2\t&lt;b\n"
unfolding numbered escaped chars encode digits
second_line = refl

-- 1300 turns from turn 100 on: 434 columns of 3 turns, the last of which has one
abbrev long : Window
long = record { first = 100; end = 1400 }

three_turns : stride_of long ≡ 3
three_turns = refl

all_columns : columns_of long ≡ 434
all_columns = refl

second_column : bound long 1 ≡ 103
second_column = refl

last_column : bound long 433 ≡ 1399
last_column = refl

behind_last : bound long 434 ≡ 1400
behind_last = refl

-- 600 turns: each has its column
short_columns : columns_of (record { first = 7; end = 607 }) ≡ 600
short_columns = refl

no_columns : columns_of (record { first = 7; end = 7 }) ≡ 0
no_columns = refl

-- of 9 turns a node works in 4 and waits for a word in 5
abbrev before : TurnCounts
before = record NO_COUNTS { works = 10; word_waits = 20 }

abbrev after : TurnCounts
after = record NO_COUNTS { works = 14; word_waits = 25 }

mostly_waits : most_of (between before after) 9 ≡ AwaitsWord
unfolding most_of between
mostly_waits = refl

-- as many of each: a move comes first
evenly : most_of (record NO_COUNTS { works = 4; reader_waits = 4 }) 9 ≡ Works
unfolding most_of
evenly = refl

mostly_idle : most_of (record NO_COUNTS { works = 4 }) 9 ≡ Idle
unfolding most_of
mostly_idle = refl

-- the row of the second of 144 nodes in two columns, of which it works in one
abbrev two_columns : List Kind
two_columns = Idle ∷ Works ∷ []

short_row : row_of 1 two_columns 1 ≡ Works ∷ []
unfolding row_of
short_row = refl

-- parts begin and end where the kind changes, and at the end of the row
abbrev a_row : List Kind
a_row = Works ∷ Works ∷ AwaitsWord ∷ Works ∷ []

parts_of_work : path_data a_row Works ≡ codes "M0 12H2M3 12H4"
unfolding path_data digits
parts_of_work = refl

part_at_foot : line_of a_row AwaitsWord ≡ codes "<path class='word' d='M2 21H3'/>"
unfolding path_data line_with digits
part_at_foot = refl

no_part : line_of a_row Spins ≡ []
unfolding path_data
no_part = refl

in_words : summary 708 (record NO_COUNTS { works = 30; word_waits = 9 })
    ≡ codes "708 works in 30 turns, waits for a word in 9, and for a reader in 0"
unfolding summary works_text word_waits_text reader_waits_text digits
in_words = refl

-- 434 columns of 3 turns are 1302: a quarter of the 1300 is 325 of these from the left
quarter : tick_at long 1 ≡ codes "<span style='left:calc(100%*325/1302)'>425</span>"
unfolding tick LABEL share digits
quarter = refl

quarters : scale (record { first = 7; end = 15 })
    ≡ codes "<div class='scale'><span style='left:calc(100%*0/8)'>7</span>"
    ++ codes "<span style='left:calc(100%*2/8)'>9</span>"
    ++ codes "<span style='left:calc(100%*4/8)'>11</span>"
    ++ codes "<span style='left:calc(100%*6/8)'>13</span>"
    ++ codes "<span style='left:calc(100%*8/8)'>15</span></div>\n"
unfolding scale OPENING ticks tick LABEL share digits
quarters = refl

-- turn 104 is in the second column of three turns, and turn 99 is before the first one
in_column : column_at long 104 ≡ Some 1
in_column = refl

before_columns : column_at long 99 ≡ None
before_columns = refl

-- a node has the path until another one has a step on it
abbrev last_steps : List (Option ℕ)
last_steps = Some 2 ∷ None ∷ Some 5 ∷ []

second_holder : held (λ at. get_or last_steps at None) 2 ≡ Some 2
second_holder = refl

third_holder : held (λ at. get_or last_steps at None) 3 ≡ Some 5
third_holder = refl

parts_of_path : path_edges (Some 2 ∷ Some 2 ∷ Some 5 ∷ []) 2 ≡ codes "M0 23H2"
unfolding path_edges digits
parts_of_path = refl

-- 708 posts three turns before the first one, 10, what 709 takes two turns behind it
abbrev a_transfer : Transfer
a_transfer = record { poster = 708; posted = 7; reader = 709; taken = 12; word = 18 }

early_end : line_end 10 a_transfer.posted 0 ≡ codes "-3 0.5"
unfolding line_end offset middle digits
early_end = refl

late_end : line_end 10 a_transfer.taken 1 ≡ codes "2 1.5"
unfolding line_end offset middle digits
late_end = refl

word_in_words : title a_transfer
    ≡ codes "'><title>708 to 709: 00012, turn 7 to turn 12</title></path>\n"
unfolding title word_text turns_text hex_digits digits
word_in_words = refl

-- a node that has started waits for a word at a slot, and for code before a fetch
at_slot : kind_by Slot0 (need.Take (sides_with 0x80)) ≡ AwaitsWord
at_slot = refl

at_fetch : kind_by Fetch (need.Take (sides_with 0x80)) ≡ Idle
at_fetch = refl

not_begun : kind_since None Slot0 (need.Take (sides_with 0x80)) ≡ Idle
not_begun = refl

-- the place of 708, in the row at the top
top_row : group 352 0 ≡ codes "<g transform='translate(352 0)'>"
unfolding group digits
top_row = refl

-- 708 is in an even column: its right is east
eastward : arrow 708 Right 18 709
    ≡ codes "<path class='arrow' d='M37 11H42M39 8L42 11L39 14'>"
    ++ codes "<title>708 to 709: 00012</title></path>"
unfolding arrow hex_digits
eastward = refl

-- three passes of 101 turns in the middle of 2300, and one of 700
abbrev a_pass : ℕ → ℕ → NodePass
a_pass turns works = record { turns = turns; works = works }

abbrev wide : Window
wide = record { first = 1000; end = 3300 }

three_passes : close_up_window wide (None ∷ Some (a_pass 50 10) ∷ Some (a_pass 101 100) ∷ [])
    ≡ Some (record { first = 1998; end = 2301 })
three_passes = refl

one_pass : close_up_window wide (Some (a_pass 700 95) ∷ [])
    ≡ Some (record { first = 1800; end = 2500 })
one_pass = refl

all_of_it : close_up_window (record { first = 0; end = 300 }) (Some (a_pass 101 100) ∷ []) ≡ None
all_of_it = refl

-- 710 has the program of 708, so its listing is folded; that of 708 isn't
abbrev section : ℕ → Option ℕ → SectionView
section name same_as = record {
  node = name;
  same_as = same_as;
  line = codes "node 710\n";
  rows = codes "a < b\n";
}

folded : section_part (section 710 (Some 708))
    ≡ codes "<details><summary>node 710\n(the same program as 708)</summary>\n"
    ++ codes "<pre tabindex='0'>a &lt; b\n</pre></details>\n"
unfolding section_part escaped chars encode
folded = refl

shown : section_part (section 710 None)
    ≡ codes "<details open=''><summary>node 710\n</summary>\n"
    ++ codes "<pre tabindex='0'>a &lt; b\n</pre></details>\n"
unfolding section_part escaped chars encode
shown = refl
