-- What stands in a text.
use Rattle.std.proofs.Common.{◌≡◌, ◌∙◌, ℕ, List, [], ◌∷◌, ◌++◌, All, Contains, flat_map, refl, sym, ap, append_assoc}
use Rattle.std.proofs.lemmas.List.{append-nil}
use Rattle.std.proofs.lemmas.List.Elements.{All-cons, All-contains, All-nil, All-weaker}
use Rattle.conc_show_model.specs.declared.model.Chart.{Chart}
use Rattle.conc_show_model.specs.declared.model.Place.{Place}
use Rattle.conc_show_model.specs.declared.model.Row.{Row}
use Rattle.conc_show_model.proofs.Ordered.{places_all}
use Rattle.conc_show_model.specs.Places.{places_of}
use Rattle.conc_show_timeline.specs.Lanes.{lane_text}
use Rattle.conc_show_timeline.specs.Parts.{HasPart}
use Rattle.conc_show_timeline.specs.Rows.{row_text}
use Rattle.conc_show_timeline.specs.Timeline.{ruler_text, timeline_text}
use Rattle.std.specs.Prelude.{Bool, codes}

around : (a u p w b : List ℕ) → a ++ (((u ++ p) ++ w) ++ b) ≡ ((a ++ u) ++ p) ++ (w ++ b)
around a u p w b = simp append_assoc

-- what stands in a piece of a text stands in the text
pub part_in : (text a piece b part : List ℕ) → text ≡ a ++ (piece ++ b) → HasPart piece part → HasPart text part
part_in text a piece b part is has = record {
  before = a ++ has.before;
  after = has.after ++ b;
  is = is ∙ ap (λ (xs : List ℕ). a ++ (xs ++ b)) has.is ∙ around a has.before part has.after b;
}

-- the text of each element stands in the text of all
pub part_of_each : {X : Type 0} (f : X → List ℕ) (xs : List X) → All (λ x. HasPart (flat_map f xs) (f x)) xs
part_of_each f [] = All-nil (λ x. HasPart (flat_map f []) (f x))
part_of_each f (x ∷ xs) =
    All-cons (λ y. HasPart (flat_map f (x ∷ xs)) (f y)) x xs (record { before = []; after = flat_map f xs; is = refl })
    (All-weaker (λ y. HasPart (flat_map f xs) (f y)) (λ y. HasPart (flat_map f (x ∷ xs)) (f y))
    (λ y has. part_in (flat_map f (x ∷ xs)) (f x) (flat_map f xs) [] (f y) (ap (λ (ys : List ℕ). f x ++ ys) (sym (append-nil (flat_map f xs)))) has) xs (part_of_each f xs))

last_piece : (old a t : List ℕ) → old ++ (a ++ t) ≡ (old ++ a) ++ (t ++ [])
last_piece old a t = sym (append_assoc old a t) ∙ ap (λ (xs : List ℕ). (old ++ a) ++ xs) (sym (append-nil t))

first_piece : (old t a b c : List ℕ) → old ++ (((t ++ a) ++ b) ++ c) ≡ old ++ (t ++ (a ++ (b ++ c)))
first_piece old t a b c = simp append_assoc

-- each row has its line
pub rows_in : (colours : Bool) (chart : Chart) (old text : List ℕ) → text ≡ old ++ timeline_text colours chart
    → All (λ row. HasPart text (row_text colours chart.events row)) chart.rows
unfolding timeline_text
rows_in colours chart old text is =
    let f : Row → List ℕ = row_text colours chart.events in
    let front = flat_map (lane_text chart.events) (places_of chart.runs) ++ codes "\n" ++ ruler_text chart.events in
    All-weaker (λ row. HasPart (flat_map f chart.rows) (f row)) (λ row. HasPart text (f row))
    (λ row has. part_in text (old ++ front) (flat_map f chart.rows) [] (f row) (is ∙ last_piece old front (flat_map f chart.rows)) has) chart.rows (part_of_each f chart.rows)

-- the place of each run has its lines
pub lanes_in : (colours : Bool) (chart : Chart) (old text : List ℕ) → text ≡ old ++ timeline_text colours chart
    → All (λ r. HasPart text (lane_text chart.events r.place)) chart.runs
unfolding timeline_text
lanes_in colours chart old text is =
    let f : Place → List ℕ = lane_text chart.events in
    let all = places_of chart.runs in
    let rows = flat_map (row_text colours chart.events) chart.rows in
    All-weaker (λ r. Contains all r.place) (λ r. HasPart text (f r.place))
    (λ r has. part_in text old (flat_map f all) (codes "\n" ++ (ruler_text chart.events ++ rows)) (f r.place)
    (is ∙ first_piece old (flat_map f all) (codes "\n") (ruler_text chart.events) rows)
    (All-contains (λ p. HasPart (flat_map f all) (f p)) all r.place (part_of_each f all) has)) chart.runs (places_all chart.runs)
