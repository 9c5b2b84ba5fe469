-- What stands in the picture.
use Rattle.std.proofs.Common.{◌≡◌, ◌∙◌, ◌+◌, ◌<◌, ℕ, zero, suc, List, [], ◌∷◌, ◌++◌, All, flat_map, get_or, length, refl, sym, ap, subst, add-zero, zero-add, append_assoc, arith}
use Rattle.std.specs.Prelude.{codes}
use Rattle.std.proofs.lemmas.List.{append-nil}
use Rattle.std.proofs.lemmas.List.Elements.{All-cons, All-nil, All-weaker}
use Rattle.conc_show_model.specs.declared.model.Chart.{Chart}
use Rattle.conc_show_model.specs.declared.model.Row.{Row}
use Rattle.conc_show_model.specs.declared.model.Run.{Run}
use Rattle.conc_show_svg.specs.Bars.{lane_bar, row_bar}
use Rattle.conc_show_svg.specs.Frame.{bottom_of, head_text}
use Rattle.conc_show_svg.specs.Parts.{HasPart}
use Rattle.conc_show_svg.specs.Picture.{HasFrames, bands_text, each_from, lane_frames, picture, row_frames, view}
use Rattle.conc_show_svg.specs.Readings.{readings_from}
use Rattle.conc_show_svg.specs.Rows.{row_frame, span_text}
use Rattle.conc_show_svg.specs.Spans.{sets_of, waits_of}

around : (a u p w b : List ℕ) → a ++ (((u ++ p) ++ w) ++ b) ≡ ((a ++ u) ++ p) ++ (w ++ b)
around a u p w b = simp append_assoc

-- what stands in a piece of a text stands in the text
part_in : (text a piece b part : List ℕ) → text ≡ a ++ (piece ++ b) → HasPart piece part → HasPart text part
part_in text a piece b part is has = record {
  before = a ++ has.before;
  after = has.after ++ b;
  is = is ∙ ap (λ (xs : List ℕ). a ++ (xs ++ b)) has.is ∙ around a has.before part has.after b;
}

behind : (a b part : List ℕ) → HasPart b part → HasPart (a ++ b) part
behind a b part has = part_in (a ++ b) a b [] part (ap (λ (xs : List ℕ). a ++ xs) (sym (append-nil b))) has

-- the element of each stands among the elements of all
part_of_each : {X : Type 0} (f : X → List ℕ) (xs : List X) → All (λ x. HasPart (flat_map f xs) (f x)) xs
part_of_each f [] = All-nil (λ x. HasPart (flat_map f []) (f x))
part_of_each f (x ∷ xs) =
    All-cons (λ y. HasPart (flat_map f (x ∷ xs)) (f y)) x xs (record { before = []; after = flat_map f xs; is = refl })
    (All-weaker (λ y. HasPart (flat_map f xs) (f y)) (λ y. HasPart (flat_map f (x ∷ xs)) (f y)) (λ y has. behind (f x) (flat_map f xs) (f y) has) xs (part_of_each f xs))

-- the same with indices
part_at : {X : Type 0} (f : ℕ → X → List ℕ) (from : ℕ) (xs : List X) (i : ℕ) (d : X) → i < length xs → HasPart (each_from f from xs) (f (from + i) (get_or xs i d))
part_at f from [] i d inside = absurd (omega (arith, inside))
part_at f from (x ∷ xs) zero d inside = record { before = []; after = each_from f (from + 1) xs; is = ap (λ (k : ℕ). f k x ++ each_from f (from + 1) xs) (sym (add-zero from)) }
part_at f from (x ∷ xs) (suc i) d inside =
    let number : from + 1 + i ≡ from + suc i = omega arith in
    let there : HasPart (each_from f (from + 1) xs) (f (from + 1 + i) (get_or xs i d)) = part_at f (from + 1) xs i d (omega (arith, inside)) in
    behind (f from x) (each_from f (from + 1) xs) (f (from + suc i) (get_or xs i d)) (subst (λ (k : ℕ). HasPart (each_from f (from + 1) xs) (f k (get_or xs i d))) number there)

-- ---- the pieces of the picture

last_of_bands : (old head a b c d e f l tail : List ℕ)
    → old ++ ((head ++ ((((((a ++ b) ++ c) ++ d) ++ e) ++ f) ++ l)) ++ tail) ≡ ((old ++ head) ++ (((((a ++ b) ++ c) ++ d) ++ e) ++ f)) ++ (l ++ tail)
last_of_bands old head a b c d e f l tail = simp append_assoc

next_to_last : (old head a b c d e f l tail : List ℕ)
    → old ++ ((head ++ ((((((a ++ b) ++ c) ++ d) ++ e) ++ f) ++ l)) ++ tail) ≡ ((old ++ head) ++ ((((a ++ b) ++ c) ++ d) ++ e)) ++ (f ++ (l ++ tail))
next_to_last old head a b c d e f l tail = simp append_assoc

second_of_bands : (old head a b c d e f l tail : List ℕ)
    → old ++ ((head ++ ((((((a ++ b) ++ c) ++ d) ++ e) ++ f) ++ l)) ++ tail) ≡ ((old ++ head) ++ a) ++ (b ++ (c ++ (d ++ (e ++ (f ++ (l ++ tail))))))
second_of_bands old head a b c d e f l tail = simp append_assoc

-- each run has its bar in its lane
pub lane_bars_in : (chart : Chart) (old text : List ℕ) → text ≡ old ++ picture chart → All (λ r. HasPart text (lane_bar (view chart) r)) chart.runs
unfolding picture bands_text
lane_bars_in chart old text is =
    let v = view chart in
    let f : Run → List ℕ = lane_bar v in
    All-weaker (λ r. HasPart (flat_map f chart.runs) (f r)) (λ r. HasPart text (f r))
    (λ r has. part_in text _ (flat_map f chart.runs) _ (f r)
    (is ∙ last_of_bands old (head_text v (length chart.runs)) (lane_frames v.places) (row_frames chart.planned (length v.places) v.rows)
    (readings_from (length v.events) (bottom_of v) 0 0 v.events) (flat_map (span_text v) (waits_of v.events)) (flat_map (span_text v) (sets_of v.events))
    (flat_map (row_bar v) chart.runs) (flat_map f chart.runs) (codes "</svg>\n")) has) chart.runs (part_of_each f chart.runs)

-- each run has its bar in the row of its request
pub row_bars_in : (chart : Chart) (old text : List ℕ) → text ≡ old ++ picture chart → All (λ r. HasPart text (row_bar (view chart) r)) chart.runs
unfolding picture bands_text
row_bars_in chart old text is =
    let v = view chart in
    let f : Run → List ℕ = row_bar v in
    All-weaker (λ r. HasPart (flat_map f chart.runs) (f r)) (λ r. HasPart text (f r))
    (λ r has. part_in text _ (flat_map f chart.runs) _ (f r)
    (is ∙ next_to_last old (head_text v (length chart.runs)) (lane_frames v.places) (row_frames chart.planned (length v.places) v.rows)
    (readings_from (length v.events) (bottom_of v) 0 0 v.events) (flat_map (span_text v) (waits_of v.events)) (flat_map (span_text v) (sets_of v.events))
    (flat_map f chart.runs) (flat_map (lane_bar v) chart.runs) (codes "</svg>\n")) has) chart.runs (part_of_each f chart.runs)

-- each request of the table has its row
pub frames_in : (chart : Chart) (old text : List ℕ) → text ≡ old ++ picture chart → HasFrames text chart.planned (length (view chart).places) chart.rows
unfolding picture bands_text row_frames
frames_in chart old text is = λ i d inside.
    let v = view chart in
    let f : ℕ → Row → List ℕ = row_frame chart.planned (length v.places) in
    part_in text _ (each_from f 0 chart.rows) _ (f i (get_or chart.rows i d))
    (is ∙ second_of_bands old (head_text v (length chart.runs)) (lane_frames v.places) (each_from f 0 chart.rows)
    (readings_from (length v.events) (bottom_of v) 0 0 v.events) (flat_map (span_text v) (waits_of v.events)) (flat_map (span_text v) (sets_of v.events))
    (flat_map (row_bar v) chart.runs) (flat_map (lane_bar v) chart.runs) (codes "</svg>\n"))
    (subst (λ (k : ℕ). HasPart (each_from f 0 chart.rows) (f k (get_or chart.rows i d))) (zero-add i) (part_at f 0 chart.rows i d inside))
