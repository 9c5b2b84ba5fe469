-- The lines of the readings.
use Rattle.std.specs.Prelude.{ℕ, ◌+◌, nat_le, if◌then◌else◌, List, [], ◌∷◌, ◌++◌, codes}
use Rattle.conc_types.specs.declared.event.Event.{Event}
use Rattle.conc_types.specs.declared.event.Event.TheVariants as event
use Rattle.conc_types.specs.declared.event.Moment.{Moment}
use Rattle.conc_base_law.specs.Moments.{moment_text}
use Rattle.conc_show_svg.specs.Geometry.{x_of}
use Rattle.conc_show_svg.specs.Marks.{down_text, label_text}

-- the line of a reading, with the reading in its title
unfoldable pub line_text : ℕ → ℕ → Moment → List ℕ
line_text x bottom t = down_text (codes "reading") x 92 bottom ++ codes "><title>" ++ moment_text t ++ codes "</title></path>\n"

-- the words of a reading
unfoldable pub words_text : ℕ → Moment → List ℕ
words_text x t = label_text (codes "soft") x 88 ++ moment_text t ++ codes "</text>\n"

-- the line, and the words where there is room from here on
unfoldable pub reading_text : ℕ → ℕ → ℕ → Moment → List ℕ
reading_text free x bottom t = line_text x bottom t ++ (if nat_le free x then words_text x t else [])

-- from where there is room behind a reading
abbrev pub free_after : ℕ → ℕ → ℕ
free_after free x = if nat_le free x then x + 12400 else free

-- the readings among these events, the first of which has index i of so many
abbrev pub readings_from : ℕ → ℕ → ℕ → ℕ → List Event → List ℕ
readings_from count bottom free i [] = []
readings_from count bottom free i (event.Tick t ∷ later) =
    reading_text free (x_of count i) bottom t ++ readings_from count bottom (free_after free (x_of count i)) (i + 1) later
readings_from count bottom free i (e ∷ later) = readings_from count bottom free (i + 1) later
