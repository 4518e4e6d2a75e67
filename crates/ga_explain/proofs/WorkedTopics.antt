-- Lookups and outputs for names worked out by hand.
use Rattle.std.proofs.Common.{◌≡◌, None, Some, refl, take, true}
use Rattle.std.specs.Prelude.{◌==◌, bytes_eq, codes, count_by, option_map}
use Rattle.std.specs.List.{list_all}
use Rattle.ga_explain.specs.Output.{entry_in, explain_output, meaning_of}
use Rattle.ga_explain.specs.Table.{entries, includes_entries, input_entries, language_entries, larger_entries, layout_entries, needs_entries, routes_entries, sessions_entries, source_entries, terms_entries, warnings_entries}

first_names : take 21 (explain_output None) ≡ codes "BadToken\nNumberRange\n"
unfolding source_entries layout_entries larger_entries includes_entries warnings_entries
    routes_entries sessions_entries input_entries needs_entries terms_entries language_entries
first_names = refl

its_own_text : option_map (λ entry. take 7 entry.2) (entry_in entries (codes "held"))
    ≡ Some (codes "held: t")
unfolding source_entries layout_entries larger_entries includes_entries warnings_entries
    routes_entries sessions_entries input_entries needs_entries terms_entries language_entries
its_own_text = refl

its_own_meaning : meaning_of (codes "Empty") ≡ codes "a section that makes no word"
unfolding meaning_of source_entries layout_entries larger_entries includes_entries warnings_entries
    routes_entries sessions_entries input_entries needs_entries terms_entries language_entries
its_own_meaning = refl

no_such_name : entry_in entries (codes "badtoken") ≡ None
unfolding source_entries layout_entries larger_entries includes_entries warnings_entries
    routes_entries sessions_entries input_entries needs_entries terms_entries language_entries
no_such_name = refl

each_name_once : list_all
    (λ entry. count_by (λ other. bytes_eq other.0 entry.0) entries == 1) entries ≡ true
unfolding source_entries layout_entries larger_entries includes_entries warnings_entries
    routes_entries sessions_entries input_entries needs_entries terms_entries language_entries
each_name_once = refl
