-- The rows of the requests, without their bars.
use Rattle.std.specs.Prelude.{ℕ, ◌+◌, ◌%◌, ◌==◌, if◌then◌else◌, List, [], ◌++◌, codes, length}
use Rattle.std.specs.Fmt.{decimal}
use Rattle.conc_show_model.specs.declared.model.Planned.{Planned}
use Rattle.conc_show_model.specs.declared.model.Row.{Row}
use Rattle.conc_show_model.specs.Words.{state_text}
use Rattle.conc_show_svg.specs.Bars.{View}
use Rattle.conc_show_svg.specs.Escaped.{escaped}
use Rattle.conc_show_svg.specs.Geometry.{end_of, row_top, x_of}
use Rattle.conc_show_svg.specs.Labels.{is_member, row_of}
use Rattle.conc_show_svg.specs.Marks.{across_text, box_text, down_text, label_text}
use Rattle.conc_show_svg.specs.declared.geometry.Bar.{Bar}
use Rattle.conc_show_svg.specs.declared.spans.Kind.{Kind}
use Rattle.conc_show_svg.specs.declared.spans.Kind.TheVariants as kind
use Rattle.conc_show_svg.specs.declared.spans.Span.{Span}

-- a band behind a row, of one of two classes in turn
abbrev pub band_of : ℕ → Bar
band_of index = record { lane = index; left = 0; width = 120000 }

unfoldable pub band_text : ℕ → ℕ → List ℕ
band_text lanes index =
    box_text (if index % 2 == 0 then codes "even" else codes "odd") (band_of index) (row_top lanes index) 18 ++ codes "/>\n"

-- a piece of the line at the left of the members of a set
unfoldable pub member_text : ℕ → ℕ → List ℕ
member_text lanes index = down_text (codes "member") 300 (row_top lanes index) (row_top lanes index + 18) ++ codes "/>\n"

unfoldable pub member_part : List Planned → ℕ → ℕ → Row → List ℕ
member_part planned lanes index row = if is_member planned row.request then member_text lanes index else []

unfoldable pub number_text : Row → ℕ → List ℕ
number_text row y = label_text (codes "end") 4400 y ++ decimal row.request.number ++ codes "</text>\n"

unfoldable pub name_text : Row → ℕ → List ℕ
name_text row y = label_text (codes "name") 5200 y ++ escaped row.name ++ codes "</text>\n"

unfoldable pub status_text : Row → ℕ → List ℕ
status_text row y = label_text (codes "soft") 105200 y ++ state_text row.phase row.status ++ codes "</text>\n"

-- the beginning of a row: a program finds the request in it
unfoldable pub group_text : Row → List ℕ
group_text row = codes "<g class=\"row\" data-request=\"" ++ decimal row.request.number ++ codes "\">\n"

-- what the row tells: number, name, phase and status
unfoldable pub labels_text : Row → ℕ → List ℕ
labels_text row y = number_text row y ++ name_text row y ++ status_text row y

-- the frame of the row with this index, below so many lanes
unfoldable pub row_frame : List Planned → ℕ → ℕ → Row → List ℕ
row_frame planned lanes index row =
    group_text row ++ band_text lanes index ++ member_part planned lanes index row ++ labels_text row (row_top lanes index + 13)
    ++ codes "</g>\n"

-- the thin line of a wait
unfoldable pub wait_text : View → Span → List ℕ
wait_text v s =
    across_text (codes "wait") (x_of (length v.events) s.from) (end_of (length v.events) s.to)
    (row_top (length v.places) (row_of v.rows s.request) + 9) ++ codes "/>\n"

-- an end of a bracket
unfoldable pub hook_text : ℕ → ℕ → ℕ → List ℕ
hook_text x top bottom = down_text (codes "set") x top bottom ++ codes "/>\n"

-- the bracket of an open set
unfoldable pub set_text : View → Span → List ℕ
set_text v s =
    let left = x_of (length v.events) s.from in
    let right = end_of (length v.events) s.to in
    let top = row_top (length v.places) (row_of v.rows s.request) in
    across_text (codes "set") left right (top + 9) ++ codes "/>\n" ++ hook_text left (top + 5) (top + 13) ++ hook_text right (top + 5) (top + 13)

-- the line of a wait, or the bracket of an open set
abbrev pub kind_text : Kind → View → Span → List ℕ
kind_text kind.Waits v s = wait_text v s
kind_text kind.Sets v s = set_text v s

abbrev pub span_text : View → Span → List ℕ
span_text v s = kind_text s.kind v s
