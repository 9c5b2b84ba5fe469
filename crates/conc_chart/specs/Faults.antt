-- The line that tells why a file is refused, and what is made of a chart.
use Rattle.std.specs.Prelude.{ℕ, Bool, List, [], ◌++◌, codes, Option}
use Rattle.std.specs.Fmt.{decimal}
use Rattle.std.specs.Option.{option_map_or}
use Rattle.conc_show_model.specs.declared.model.Chart.{Chart}
use Rattle.conc_show_svg.specs.Picture.{picture}
use Rattle.conc_show_tables.specs.Csv.{csv_text}
use Rattle.conc_show_tables.specs.Json.{json_text}
use Rattle.conc_show_timeline.specs.Timeline.{timeline_text}
use Rattle.conc_show_model.specs.declared.command.Form.{Form}
use Rattle.conc_show_model.specs.declared.command.Form.TheVariants as form

-- ` line N:`, where a line is meant
abbrev pub line_part : Option ℕ → List ℕ
line_part line = option_map_or (λ n. codes " line " ++ decimal n ++ codes ":") line []

-- the file, the line and the cause
abbrev pub fault_line : List ℕ → Option ℕ → List ℕ → List ℕ
fault_line file line cause = codes "conc_chart: " ++ file ++ codes ":" ++ line_part line ++ codes " " ++ cause ++ codes "\n"

-- the bytes of a form of a chart, with or without colours where it is for a terminal
abbrev pub form_text : Form → Bool → Chart → List ℕ
form_text form.Timeline colours chart = timeline_text colours chart
form_text form.Svg colours chart = picture chart
form_text form.Csv colours chart = csv_text chart
form_text form.Json colours chart = json_text chart
