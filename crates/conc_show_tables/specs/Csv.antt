-- The table of a chart as comma-separated fields.
use Rattle.std.specs.Prelude.{ℕ, ◌||◌, ◌==◌, if◌then◌else◌, List, [], ◌∷◌, ◌++◌, codes, flat_map, Option}
use Rattle.std.specs.Fmt.{decimal}
use Rattle.std.specs.List.{list_any}
use Rattle.std.specs.Option.{option_map_or}
use Rattle.conc_types.specs.declared.event.Extent.{Extent}
use Rattle.conc_types.specs.declared.event.Moment.{Moment}
use Rattle.conc_types.specs.declared.event.RequestId.{RequestId}
use Rattle.conc_base_law.specs.Moments.{moment_text}
use Rattle.conc_base_law.specs.Text.{phase_word, status_word}
use Rattle.conc_show_model.specs.declared.model.Chart.{Chart}
use Rattle.conc_show_model.specs.declared.model.Place.{Place}
use Rattle.conc_show_model.specs.declared.model.Row.{Row}
use Rattle.conc_show_tables.specs.declared.facts.Facts.{Facts}
use Rattle.conc_show_tables.specs.Facts.{rows_text, seconds_between}
use Rattle.conc_show_model.specs.Words.{place_text}

-- ---- fields

-- a byte in quotes: a quote is doubled
abbrev pub doubled : ℕ → List ℕ
doubled byte = if byte == 34 then 34 ∷ 34 ∷ [] else byte ∷ []

-- a field, in quotes where it has a comma or a quote
unfoldable pub csv_field : List ℕ → List ℕ
csv_field text =
    if list_any (λ byte. byte == 44 || byte == 34) text then codes "\"" ++ flat_map doubled text ++ codes "\"" else text

-- a value behind a comma; what is not known is empty
abbrev pub csv_value : {A : Type 0} → (A → List ℕ) → Option A → List ℕ
csv_value text value = codes "," ++ option_map_or text value []

abbrev pub csv_number : Option ℕ → List ℕ
csv_number n = csv_value decimal n

abbrev pub csv_moment : Option Moment → List ℕ
csv_moment t = csv_value moment_text t

abbrev pub csv_place : Option Place → List ℕ
csv_place p = csv_value place_text p

abbrev pub csv_request : Option RequestId → List ℕ
csv_request r = csv_value (λ x. decimal x.number) r

abbrev pub csv_extent : Option Extent → List ℕ
csv_extent x = codes "," ++ option_map_or (λ e. decimal e.offset ++ codes "," ++ decimal e.length) x (codes ",")

-- ---- lines

abbrev pub csv_head : List ℕ
csv_head = codes "request,program,set,phase,status,place,do,let,start,end,waited,ran,offset,length\n"

-- request,program,set,phase,status
abbrev pub csv_names : Row → Facts → List ℕ
csv_names row f =
    decimal row.request.number ++ codes "," ++ csv_field row.name ++ csv_request f.set ++ codes "," ++ phase_word row.phase
    ++ codes "," ++ status_word row.status

-- place,do,let,start,end,waited,ran,offset,length
abbrev pub csv_facts : Facts → List ℕ
csv_facts f =
    csv_place f.place ++ csv_moment f.done_at ++ csv_moment f.let_at ++ csv_moment f.start_at ++ csv_moment f.end_at
    ++ csv_number (seconds_between f.let_at f.start_at) ++ csv_number (seconds_between f.start_at f.end_at) ++ csv_extent f.extent

abbrev pub csv_with : Row → Facts → List ℕ
csv_with row f = csv_names row f ++ csv_facts f ++ codes "\n"

-- the head, and a line for each row
unfoldable pub csv_text : Chart → List ℕ
csv_text chart = csv_head ++ rows_text csv_with chart
