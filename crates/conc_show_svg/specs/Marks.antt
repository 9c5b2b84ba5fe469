-- Numbers, and the heads of the elements of the picture.
use Rattle.std.specs.Prelude.{ℕ, ◌+◌, ◌/◌, ◌%◌, List, [], ◌∷◌, ◌++◌, codes}
use Rattle.std.specs.Fmt.{decimal}
use Rattle.conc_show_svg.specs.declared.geometry.Bar.{Bar}
use Rattle.conc_show_svg.specs.declared.marks.Path.{Path}
use Rattle.conc_show_svg.specs.declared.marks.Path.TheVariants as path

-- a length that is told in hundredths: 260.05
unfoldable pub hundredths : ℕ → List ℕ
hundredths n = decimal (n / 100) ++ 46 ∷ (48 + n / 10 % 10) ∷ (48 + n % 10) ∷ []

-- the end of the value in front, and from where to where a rectangle lies
unfoldable pub sides_text : Bar → List ℕ
sides_text bar = codes "\" x=\"" ++ hundredths bar.left ++ codes "\" width=\"" ++ hundredths bar.width

unfoldable pub heights_text : ℕ → ℕ → List ℕ
heights_text top height = codes "\" y=\"" ++ decimal top ++ codes "\" height=\"" ++ decimal height ++ codes "\""

-- a rectangle
unfoldable pub box_text : List ℕ → Bar → ℕ → ℕ → List ℕ
box_text class bar top height = codes "<rect class=\"" ++ class ++ sides_text bar ++ heights_text top height

-- where a line begins
unfoldable pub start_text : List ℕ → ℕ → ℕ → List ℕ
start_text class x y = codes "<path class=\"" ++ class ++ codes "\" d=\"M" ++ hundredths x ++ codes " " ++ decimal y

-- a line from left to right
unfoldable pub across_text : List ℕ → ℕ → ℕ → ℕ → List ℕ
across_text class left right y = start_text class left y ++ codes "H" ++ hundredths right ++ codes "\""

-- a line from top to bottom
unfoldable pub down_text : List ℕ → ℕ → ℕ → ℕ → List ℕ
down_text class x top bottom = start_text class x top ++ codes "V" ++ decimal bottom ++ codes "\""

-- a line of either kind
abbrev pub path_text : List ℕ → Path → List ℕ
path_text class (path.Across left right y) = across_text class left right y
path_text class (path.Down x top bottom) = down_text class x top bottom

-- a text
unfoldable pub label_text : List ℕ → ℕ → ℕ → List ℕ
label_text class x y = codes "<text class=\"" ++ class ++ codes "\" x=\"" ++ hundredths x ++ codes "\" y=\"" ++ decimal y ++ codes "\">"
