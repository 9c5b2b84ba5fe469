-- An event line has one spelling.
use Rattle.std.proofs.Common.{◌≡◌, refl, sym, ◌∙◌, ap, ℕ, true, false, cond, List, [], ◌∷◌}
use Rattle.std.specs.Prelude.{codes, Option, None, Some}
use Rattle.std.specs.Bool.{then_some}
use Rattle.std.specs.Fmt.{decimal}
use Rattle.std.specs.Option.{option_and_then, option_map}
use Rattle.std.specs.Str.{bytes_eq}
use Rattle.std.proofs.lemmas.List.Splits.{join_with_byte-slice_split}
use Rattle.std.proofs.lemmas.Slice.Eq.{bytes_eq-Decides}
use Rattle.conc_types.specs.declared.event.Event.{Event}
use Rattle.conc_types.specs.declared.event.Event.TheVariants as event
use Rattle.conc_types.specs.declared.event.Extent.{Extent}
use Rattle.conc_types.specs.declared.event.Outcome.{Outcome}
use Rattle.conc_types.specs.declared.event.Outcome.TheVariants as outcome
use Rattle.conc_types.specs.declared.event.RequestId.{RequestId}
use Rattle.conc_types.specs.declared.plan.Plan.{Plan}
use Rattle.conc_types.specs.Decimals.{decimal_value}
use Rattle.conc_base_law.specs.Calendar.{moment_of}
use Rattle.conc_base_law.specs.Text.{event_words, extent_words, id_word, outcome_word, spaced}
use Rattle.conc_base_law.proofs.Options.{and_then-some, map-some, then_some-some}
use Rattle.conc_history_lines.specs.EventLines.{bare_event, event_about, event_of_line, event_of_words, long_event, report_event, short_event, words_of}
use Rattle.conc_history_lines.specs.Numbers.{extent_of, id_of, number_of, outcome_of, stage_of}
use Rattle.conc_history_lines.specs.Places.{place_of, starts_of}
use Rattle.conc_history_lines.proofs.Decimals.{decimal_spelled, id_spelled, number_spelled, stage_spelled}
use Rattle.conc_history_lines.proofs.Instants.{moment_spelled}
use Rattle.conc_history_lines.proofs.PlaceNumbers.{place_spelled}

-- what a test of a word chooses
either : {A P : Type 0} (word x : List ℕ) (a b : Option A) (y : A) → cond (bytes_eq word x) a b ≡ Some y → (word ≡ x → a ≡ Some y → P) → (b ≡ Some y → P) → P
either {A} {P} word x a b y h first other =
    elim (bytes_eq word x) as (λ t. bytes_eq word x ≡ t → cond t a b ≡ Some y → P) [
      | true ↦ (λ e k. first ((bytes_eq-Decides word x).0 e) k)
      | false ↦ (λ e k. other k)
    ] refl h

none_some : {A P : Type 0} (y : A) → None ≡ Some y → P
none_some y h = absurd cc

-- ---- the parts

outcome_spelled : (word : List ℕ) (o : Outcome) → outcome_of word ≡ Some o → word ≡ outcome_word o
unfolding outcome_of
outcome_spelled word o h =
    either word (codes "Normal") (Some outcome.Normal) _ o h (λ w k. let same : outcome.Normal ≡ o = cc in w ∙ ap outcome_word same) (λ h.
    either word (codes "Warning") (Some outcome.Warning) _ o h (λ w k. let same : outcome.Warning ≡ o = cc in w ∙ ap outcome_word same) (λ h.
    either word (codes "Error") (Some outcome.Error) None o h (λ w k. let same : outcome.Error ≡ o = cc in w ∙ ap outcome_word same) (λ h. none_some o h)))

extent_spelled : (offset length : List ℕ) (x : Extent) → extent_of offset length ≡ Some x → offset ∷ length ∷ [] ≡ extent_words (Some x)
unfolding extent_of
extent_spelled offset length x h =
    let one = and_then-some (λ at. option_map (λ n. record { offset = at; length = n }) (number_of length)) (decimal_value offset) x h in
    let two = map-some (λ (n : ℕ). record { offset = one.0; length = n }) (number_of length) x one.2 in
    let first = decimal_spelled offset one.0 one.1 in
    let second = number_spelled length two.0 two.1 in
    let same : offset ∷ length ∷ [] ≡ decimal one.0 ∷ decimal two.0 ∷ [] = cc in
    same ∙ ap (λ (y : Extent). decimal y.offset ∷ decimal y.length ∷ []) two.2

-- ---- the words

two_words : (plan : Plan) (d e : Event) (word what x y : List ℕ) → word ≡ x → what ≡ y → d ≡ e → event_words plan d ≡ x ∷ y ∷ [] → word ∷ what ∷ [] ≡ event_words plan e
two_words plan d e word what x y p q r s = let t : event_words plan d ≡ event_words plan e = ap (event_words plan) r in cc

three_words : (plan : Plan) (d e : Event) (word what how x y z : List ℕ) → word ≡ x → what ≡ y → how ≡ z → d ≡ e → event_words plan d ≡ x ∷ y ∷ z ∷ [] → word ∷ what ∷ how ∷ [] ≡ event_words plan e
three_words plan d e word what how x y z p q o r s = let t : event_words plan d ≡ event_words plan e = ap (event_words plan) r in cc

bare_spelled : (plan : Plan) (word : List ℕ) (e : Event) → bare_event word ≡ Some e → word ∷ [] ≡ event_words plan e
unfolding bare_event event_words
bare_spelled plan word e h =
    let p = then_some-some (bytes_eq word (codes "resume")) event.Resume e h in
    ap (λ (w : List ℕ). w ∷ []) ((bytes_eq-Decides word (codes "resume")).0 p.0) ∙ ap (event_words plan) p.1

about_spelled : (plan : Plan) (word what : List ℕ) (r : RequestId) (e : Event) → what ≡ id_word r → event_about word r ≡ Some e → word ∷ what ∷ [] ≡ event_words plan e
unfolding event_words
about_spelled plan word what r e same h =
    either word (codes "open") (Some (event.OpenSet r)) _ e h (λ w k. let is : event.OpenSet r ≡ e = cc in two_words plan (event.OpenSet r) e word what _ _ w same is refl) (λ h.
    either word (codes "let") (Some (event.LetOut r)) _ e h (λ w k. let is : event.LetOut r ≡ e = cc in two_words plan (event.LetOut r) e word what _ _ w same is refl) (λ h.
    either word (codes "interrupt") (Some (event.Interrupt r)) None e h (λ w k. let is : event.Interrupt r ≡ e = cc in two_words plan (event.Interrupt r) e word what _ _ w same is refl)
    (λ h. none_some e h)))

short_spelled : (plan : Plan) (word what : List ℕ) (e : Event) → short_event word what ≡ Some e → word ∷ what ∷ [] ≡ event_words plan e
unfolding short_event event_words
short_spelled plan word what e h =
    either word (codes "tick") (option_map (λ t. event.Tick t) (moment_of what)) _ e h
    (λ w k. let p = map-some (λ t. event.Tick t) (moment_of what) e k in two_words plan (event.Tick p.0) e word what _ _ w (moment_spelled what p.0 p.1) p.2 refl) (λ h.
    either word (codes "do") (option_map (λ n. event.Command n) (number_of what)) _ e h
    (λ w k. let p = map-some (λ n. event.Command n) (number_of what) e k in two_words plan (event.Command p.0) e word what _ _ w (number_spelled what p.0 p.1) p.2 refl) (λ h.
    let p = and_then-some (event_about word) (id_of what) e h in
    about_spelled plan word what p.0 e (id_spelled what p.0 p.1) p.2))

long_spelled : (plan : Plan) (word what how : List ℕ) (e : Event) → long_event (starts_of plan) word what how ≡ Some e → word ∷ what ∷ how ∷ [] ≡ event_words plan e
unfolding long_event event_words
long_spelled plan word what how e h =
    let starts = starts_of plan in
    either word (codes "stage") (option_and_then (λ s. option_map (λ k. event.Stage s k) (stage_of how)) (id_of what)) _ e h (λ w k.
    let p = and_then-some (λ s. option_map (λ k. event.Stage s k) (stage_of how)) (id_of what) e k in
    let q = map-some (λ k. event.Stage p.0 k) (stage_of how) e p.2 in
    three_words plan (event.Stage p.0 q.0) e word what how _ _ _ w (id_spelled what p.0 p.1) (stage_spelled how q.0 q.1) q.2 refl) (λ h.
    either word (codes "close") (option_and_then (λ s. option_map (λ o. event.CloseSet s o) (outcome_of how)) (id_of what)) _ e h (λ w k.
    let p = and_then-some (λ s. option_map (λ o. event.CloseSet s o) (outcome_of how)) (id_of what) e k in
    let q = map-some (λ o. event.CloseSet p.0 o) (outcome_of how) e p.2 in
    three_words plan (event.CloseSet p.0 q.0) e word what how _ _ _ w (id_spelled what p.0 p.1) (outcome_spelled how q.0 q.1) q.2 refl) (λ h.
    either word (codes "start") (option_and_then (λ r. option_map (λ p. event.Started r p) (place_of starts how)) (id_of what)) _ e h (λ w k.
    let p = and_then-some (λ r. option_map (λ p. event.Started r p) (place_of starts how)) (id_of what) e k in
    let q = map-some (λ p'. event.Started p.0 p') (place_of starts how) e p.2 in
    three_words plan (event.Started p.0 q.0) e word what how _ _ _ w (id_spelled what p.0 p.1) (place_spelled plan how q.0 q.1) q.2 refl) (λ h.
    either word (codes "end") (option_and_then (λ r. then_some (bytes_eq how (codes "Terminated")) (event.Ended r outcome.Terminated None)) (id_of what)) None e h (λ w k.
    let p = and_then-some (λ r. then_some (bytes_eq how (codes "Terminated")) (event.Ended r outcome.Terminated None)) (id_of what) e k in
    let q = then_some-some (bytes_eq how (codes "Terminated")) (event.Ended p.0 outcome.Terminated None) e p.2 in
    three_words plan (event.Ended p.0 outcome.Terminated None) e word what how _ _ _ w (id_spelled what p.0 p.1) ((bytes_eq-Decides how (codes "Terminated")).0 q.0) q.1 refl)
    (λ h. none_some e h))))

report_spelled : (plan : Plan) (word what how offset length : List ℕ) (e : Event) → report_event word what how offset length ≡ Some e
    → word ∷ what ∷ how ∷ offset ∷ length ∷ [] ≡ event_words plan e
unfolding report_event event_words
report_spelled plan word what how offset length e h =
    either word (codes "end") (option_and_then (λ r. option_and_then (λ o. option_map (λ x. event.Ended r o (Some x)) (extent_of offset length)) (outcome_of how)) (id_of what)) None e h (λ w k.
    let p = and_then-some (λ r. option_and_then (λ o. option_map (λ x. event.Ended r o (Some x)) (extent_of offset length)) (outcome_of how)) (id_of what) e k in
    let q = and_then-some (λ o. option_map (λ x. event.Ended p.0 o (Some x)) (extent_of offset length)) (outcome_of how) e p.2 in
    let r = map-some (λ x. event.Ended p.0 q.0 (Some x)) (extent_of offset length) e q.2 in
    let what_is = id_spelled what p.0 p.1 in
    let how_is = outcome_spelled how q.0 q.1 in
    let rest : offset ∷ length ∷ [] ≡ extent_words (Some r.0) = extent_spelled offset length r.0 r.1 in
    let all : word ∷ what ∷ how ∷ offset ∷ length ∷ [] ≡ codes "end" ∷ id_word p.0 ∷ outcome_word q.0 ∷ extent_words (Some r.0) = cc in
    all ∙ ap (event_words plan) r.2)
    (λ h. none_some e h)

words_spelled : (plan : Plan) (words : List (List ℕ)) (e : Event) → event_of_words (starts_of plan) words ≡ Some e → words ≡ event_words plan e
words_spelled plan [] e h = none_some e h
words_spelled plan (a ∷ []) e h = bare_spelled plan a e h
words_spelled plan (a ∷ b ∷ []) e h = short_spelled plan a b e h
words_spelled plan (a ∷ b ∷ c ∷ []) e h = long_spelled plan a b c e h
words_spelled plan (a ∷ b ∷ c ∷ d ∷ []) e h = none_some e h
words_spelled plan (a ∷ b ∷ c ∷ d ∷ f ∷ []) e h = report_spelled plan a b c d f e h
words_spelled plan (a ∷ b ∷ c ∷ d ∷ f ∷ g ∷ more) e h = none_some e h

-- an event line is the words of its event
pub line_spelled : (plan : Plan) (line : List ℕ) (e : Event) → event_of_line (starts_of plan) line ≡ Some e → line ≡ spaced (event_words plan e)
unfolding event_of_line
line_spelled plan line e h = sym (join_with_byte-slice_split 32 line) ∙ ap spaced (words_spelled plan (words_of line) e h)
