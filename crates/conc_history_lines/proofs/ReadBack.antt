-- The line of an event is read back.
use Rattle.std.proofs.Common.{◌≡◌, refl, ◌∙◌, ap, ◌<◌, ◌^◌, ℕ, true, ◌&&◌, List, [], ◌∷◌, arith}
use Rattle.std.specs.Prelude.{codes, nat_le, nat_lt, Option, None, Some, is_some}
use Rattle.std.specs.Fmt.{decimal}
use Rattle.std.specs.List.{list_all}
use Rattle.std.proofs.lemmas.Bool.{and_from, and_parts, ltb-true}
use Rattle.conc_types.specs.declared.event.Event.{Event}
use Rattle.conc_types.specs.declared.event.Event.TheVariants as event
use Rattle.conc_types.specs.declared.event.Extent.{Extent}
use Rattle.conc_types.specs.declared.event.Outcome.{Outcome}
use Rattle.conc_types.specs.declared.event.Outcome.TheVariants as outcome
use Rattle.conc_types.specs.declared.event.RequestId.{RequestId}
use Rattle.conc_types.specs.declared.plan.Plan.{Plan}
use Rattle.conc_base_law.specs.Next.{is_report_outcome}
use Rattle.conc_base_law.specs.Places.{place_of as place_of_plan}
use Rattle.conc_base_law.specs.Text.{event_words, extent_words, id_word, outcome_word, place_word, spaced}
use Rattle.conc_time.proofs.Spellings.{spelled_once, spells_is_read}
use Rattle.conc_base_law.specs.Calendar.{moment_of}
use Rattle.conc_base_law.specs.Moments.{moment_text}
use Rattle.conc_types.specs.declared.event.Moment.{Moment}
use Rattle.conc_history_lines.specs.EventLines.{bare_event, event_of_line, event_of_words, long_event, report_event, short_event, words_of}
use Rattle.conc_history_lines.specs.Lines.{ends_so, has_line, is_small}
use Rattle.conc_history_lines.specs.Numbers.{extent_of, outcome_of}
use Rattle.conc_history_lines.specs.Places.{starts_of}
use Rattle.conc_history_lines.proofs.Clean.{clean_decimal, clean_moment, clean_outcome, is_clean, words_back}
use Rattle.conc_history_lines.proofs.Decimals.{decimal_back, id_back, number_back, stage_back}
use Rattle.conc_history_lines.proofs.PlacesBack.{clean_place, place_back}

-- ---- the words are clean

small : (n : ℕ) → is_small n ≡ true → is_clean (decimal n) ≡ true
small n h = let below : n < 4294967296 = ltb-true n 4294967296 h in clean_decimal n (omega arith)

clean_one : (a : List ℕ) → is_clean a ≡ true → list_all is_clean (a ∷ []) ≡ true
clean_one a h = and_from (is_clean a) true h refl

clean_both : (a b : List ℕ) → is_clean a ≡ true → is_clean b ≡ true → list_all is_clean (a ∷ b ∷ []) ≡ true
clean_both a b h k = and_from (is_clean a) _ h (clean_one b k)

clean_end : (r : RequestId) (o : Outcome) (x : Option Extent) → is_small r.number ≡ true → ends_so o x ≡ true → list_all is_clean (id_word r ∷ outcome_word o ∷ extent_words x) ≡ true
clean_end r o None h k = clean_both (id_word r) (outcome_word o) (small r.number h) (clean_outcome o)
clean_end r o (Some x) h k =
    let p = and_parts (is_report_outcome o) (nat_lt x.offset (2 ^ 64) && is_small x.length) k in
    let q = and_parts (nat_lt x.offset (2 ^ 64)) (is_small x.length) p.1 in
    and_from (is_clean (id_word r)) _ (small r.number h) (and_from (is_clean (outcome_word o)) _ (clean_outcome o)
    (clean_both (decimal x.offset) (decimal x.length) (clean_decimal x.offset (ltb-true x.offset 18446744073709551616 q.0)) (small x.length q.1)))

pub clean_words : (plan : Plan) (e : Event) → has_line plan e ≡ true → list_all is_clean (event_words plan e) ≡ true
unfolding has_line event_words
clean_words plan (event.Tick t) h = clean_one (moment_text t) (clean_moment t)
clean_words plan (event.Command n) h = clean_one (decimal n) (small n h)
clean_words plan (event.OpenSet s) h = clean_one (id_word s) (small s.number h)
clean_words plan (event.Stage s k) h =
    let p = and_parts (is_small s.number) (nat_le 1 k && is_small k) h in
    clean_both (id_word s) (decimal k) (small s.number p.0) (small k (and_parts (nat_le 1 k) (is_small k) p.1).1)
clean_words plan (event.CloseSet s o) h = clean_both (id_word s) (outcome_word o) (small s.number (and_parts (is_small s.number) (is_report_outcome o) h).0) (clean_outcome o)
clean_words plan (event.LetOut r) h = clean_one (id_word r) (small r.number h)
clean_words plan (event.Started r p) h =
    let q = and_parts (is_small r.number) (is_some (place_of_plan plan p)) h in
    clean_both (id_word r) (place_word plan p) (small r.number q.0) (clean_place plan p q.1)
clean_words plan (event.Ended r o x) h =
    let q = and_parts (is_small r.number) (ends_so o x) h in
    clean_end r o x q.0 q.1
clean_words plan event.Resume h = refl
clean_words plan (event.Interrupt r) h = clean_one (id_word r) (small r.number h)

-- ---- and are read back

moment_back : (t : Moment) → moment_of (moment_text t) ≡ Some t
moment_back t = spells_is_read (moment_text t) t ((spelled_once (moment_text t) t).1 refl)

outcome_back : (o : Outcome) → is_report_outcome o ≡ true → outcome_of (outcome_word o) ≡ Some o
unfolding outcome_of
outcome_back outcome.Normal h = refl
outcome_back outcome.Warning h = refl
outcome_back outcome.Error h = refl
outcome_back outcome.Terminated h = cc
outcome_back outcome.Cancelled h = cc

extent_back : (x : Extent) → nat_lt x.offset (2 ^ 64) ≡ true → is_small x.length ≡ true → extent_of (decimal x.offset) (decimal x.length) ≡ Some x
unfolding extent_of
extent_back x h k = rw (decimal_back x.offset (ltb-true x.offset 18446744073709551616 h), number_back x.length k) refl

end_back : (starts : List ℕ) (r : RequestId) (o : Outcome) (x : Option Extent) → is_small r.number ≡ true → ends_so o x ≡ true
    → event_of_words starts (codes "end" ∷ id_word r ∷ outcome_word o ∷ extent_words x) ≡ Some (event.Ended r o x)
unfolding long_event report_event
end_back starts r outcome.Terminated None h k = rw (id_back r h) refl
end_back starts r outcome.Normal None h k = cc
end_back starts r outcome.Warning None h k = cc
end_back starts r outcome.Error None h k = cc
end_back starts r outcome.Cancelled None h k = cc
end_back starts r o (Some x) h k =
    let p = and_parts (is_report_outcome o) (nat_lt x.offset (2 ^ 64) && is_small x.length) k in
    let q = and_parts (nat_lt x.offset (2 ^ 64)) (is_small x.length) p.1 in
    rw (id_back r h, outcome_back o p.0, extent_back x q.0 q.1) refl

event_back : (plan : Plan) (e : Event) → has_line plan e ≡ true → event_of_words (starts_of plan) (event_words plan e) ≡ Some e
unfolding has_line event_words bare_event short_event long_event
event_back plan (event.Tick t) h = rw (moment_back t) refl
event_back plan (event.Command n) h = rw (number_back n h) refl
event_back plan (event.OpenSet s) h = rw (id_back s h) refl
event_back plan (event.Stage s k) h =
    let p = and_parts (is_small s.number) (nat_le 1 k && is_small k) h in
    let q = and_parts (nat_le 1 k) (is_small k) p.1 in
    rw (id_back s p.0, stage_back k q.0 q.1) refl
event_back plan (event.CloseSet s o) h =
    let p = and_parts (is_small s.number) (is_report_outcome o) h in
    rw (id_back s p.0, outcome_back o p.1) refl
event_back plan (event.LetOut r) h = rw (id_back r h) refl
event_back plan (event.Started r p) h =
    let q = and_parts (is_small r.number) (is_some (place_of_plan plan p)) h in
    rw (id_back r q.0, place_back plan p q.1) refl
event_back plan (event.Ended r o x) h =
    let q = and_parts (is_small r.number) (ends_so o x) h in
    end_back (starts_of plan) r o x q.0 q.1
event_back plan event.Resume h = refl
event_back plan (event.Interrupt r) h = rw (id_back r h) refl

split_back : (words : List (List ℕ)) (e : Event) (starts : List ℕ) → list_all is_clean words ≡ true → event_of_words starts words ≡ Some e → words_of (spaced words) ≡ words
split_back [] e starts h k = absurd cc
split_back (word ∷ words) e starts h k = words_back word words h

-- the line of an event that has one is read as the event
pub line_back : (plan : Plan) (e : Event) → has_line plan e ≡ true → event_of_line (starts_of plan) (spaced (event_words plan e)) ≡ Some e
unfolding event_of_line
line_back plan e h =
    let back = event_back plan e h in
    ap (event_of_words (starts_of plan)) (split_back (event_words plan e) e (starts_of plan) (clean_words plan e h) back) ∙ back
