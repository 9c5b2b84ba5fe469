-- Two finished lives of a steady plan have the same table, and so has the run without workers.
use Rattle.std.proofs.Common.{◌≡◌, ℕ, true, false, List, [], ◌∷◌, length, reverse, take, None, Some, refl, sym, ◌∙◌, ap, subst, inl, inr, arith}
use Rattle.std.specs.Prelude.{slice_get}
use Rattle.std.specs.List.{concat}
use Rattle.std.specs.Option.{option_map_or}
use Rattle.std.proofs.lemmas.Bool.{eq-eqb, or_cases}
use Rattle.std.proofs.lemmas.Option.{slice_get_within}
use Rattle.conc_types.specs.declared.event.Event.{Event}
use Rattle.conc_types.specs.declared.event.Event.TheVariants as event
use Rattle.conc_types.specs.declared.event.Extent.{Extent}
use Rattle.conc_types.specs.declared.event.Outcome.{Outcome}
use Rattle.conc_types.specs.declared.event.RequestId.{RequestId}
use Rattle.conc_types.specs.declared.plan.Plan.{Plan}
use Rattle.conc_types.specs.declared.plan.Req.{Req}
use Rattle.conc_types.specs.declared.script.Reading.{Reading}
use Rattle.conc_types.specs.declared.script.Readings.{Readings}
use Rattle.conc_types.specs.Scripts.{are_in_order}
use Rattle.conc_base_law.specs.Alone.{Alone, next_alone, report_of}
use Rattle.conc_base_law.specs.Ends.{IsReported}
use Rattle.conc_base_law.specs.Kinds.{ends, is_resume}
use Rattle.conc_base_law.specs.Law.{is_lawful_so_far, may_follow}
use Rattle.conc_base_law.specs.Next.{may_end}
use Rattle.conc_base_law.specs.Before.{occurs}
use Rattle.conc_base_law.specs.State.{state}
use Rattle.conc_base_law.specs.Text.{id_word, line_of, phase_word, request_line, status_word, table_text, item_name}
use Rattle.conc_base_law.specs.Words.{Has}
use Rattle.conc_base_law.proofs.AloneHistory.{alone_lawful}
use Rattle.conc_base_law.proofs.AloneLawful.{next_alone-follows}
use Rattle.conc_base_law.proofs.EqualEvents.{id_same}
use Rattle.conc_base_law.proofs.FirstBy.{any-some, none_any}
use Rattle.conc_base_law.proofs.LawfulSoFar.{lawful_is_lawful_so_far}
use Rattle.conc_base_law.proofs.Numbering.{found}
use Rattle.conc_base_law.proofs.Reported.{alone_reported}
use Rattle.conc_base_law.proofs.Stops.{end_comes}
use Rattle.conc_base_law.specs.Sameness.{HasEnds, SaySame}
use Rattle.conc_base_law.specs.Steady.{IsWhole, Steady}
use Rattle.conc_base_law.proofs.Calm.{Calm, calm-before, calm-follows}
use Rattle.conc_base_law.proofs.Causes.{end_extent, stopping-not}
use Rattle.conc_base_law.proofs.Endings.{ends-event}
use Rattle.conc_base_law.proofs.Final.{AreFinal, status-same, turned}
use Rattle.conc_base_law.proofs.Follows.{ended-let, Follows, follows, IsFinal}
use Rattle.conc_base_law.proofs.Lists.{has-get, has-reverse, map-same, reverse-has}
use Rattle.conc_base_law.proofs.Settled.{resting}

-- ---- a whole history is a finished life

-- it is one life
whole-calm : (plan : Plan) (readings : List Reading) (history : List Event) → are_in_order readings ≡ true → Steady plan readings → IsWhole plan readings history → Calm plan readings (reverse history)
whole-calm plan readings history order st w = record {
  submits = st.submissions;
  lawful = w.lawful;
  so_far = lawful_is_lawful_so_far plan readings (reverse history) order w.lawful;
  one_life = w.one_life;
  reported = λ id o x h.
      let p : (i : ℕ) × (slice_get history i ≡ Some (event.Ended id o (Some x))) = has-get history (event.Ended id o (Some x)) (has-reverse history _ h) in
      w.reported p.0 id o x (omega arith) p.1;
}

-- it is finished
whole-final : (plan : Plan) (readings : List Reading) (history : List Event) → are_in_order readings ≡ true → Steady plan readings → IsWhole plan readings history → IsFinal plan readings (reverse history)
whole-final plan readings history order st w = record {
  steady = st;
  order = order;
  calm = whole-calm plan readings history order st w;
  rest = resting plan (state plan (reverse history)) w.finished.0;
  done = w.finished.1;
}

-- ---- the table

-- the line of a request is the same
line-same : (plan : Plan) (readings : List Reading) (a b : List Event) (r : Req) → AreFinal plan readings a b → Has plan.requests r → request_line plan a r ≡ request_line plan b r
unfolding request_line
line-same plan readings a b r f hr =
    ap (λ o. option_map_or (λ s. line_of (id_word r.number ∷ phase_word s.0 ∷ status_word s.1 ∷ item_name plan r.item ∷ [])) o []) (status-same plan readings a b r f hr)

-- the table is the same
table-same : (plan : Plan) (readings : List Reading) (a b : List Event) → AreFinal plan readings a b → table_text plan a ≡ table_text plan b
unfolding table_text
table-same plan readings a b f = ap concat (map-same (request_line plan a) (request_line plan b) plan.requests (λ r hr. line-same plan readings a b r f hr))

-- ---- the ends

-- each end has an extent
pub ends-extent : (plan : Plan) (readings : List Reading) (past : List Event) (r : Req) → Has plan.requests r → Calm plan readings past → occurs (ends r.number) past ≡ true
    → (o : Outcome) × (x : Extent) × Has past (event.Ended r.number o (Some x))
ends-extent plan readings [] r hr c h = cc
ends-extent plan readings (e ∷ past) r hr c h = elim (or_cases (ends r.number e) _ h) [
  | inr k ↦
      let p : (o : Outcome) × (x : Extent) × Has past (event.Ended r.number o (Some x)) = ends-extent plan readings past r hr (calm-before plan readings past e c) k in
      (p.0, p.1, inr p.2)
  | inl k ↦
      let p = ends-event r.number e k in
      let m = subst (λ d. may_follow plan None past d ≡ true) p.2 (calm-follows plan readings past e c) in
      let b : Calm plan readings past = calm-before plan readings past e c in
      let may : may_end (state plan past) r p.0 p.1 ≡ true = end_comes plan None past r p.0 p.1 hr m in
      let y : (y : Extent) × (p.1 ≡ Some y) = end_extent (state plan past) r p.0 p.1 (stopping-not plan readings past r hr b) may in
      let same : event.Ended r.number p.0 (Some y.0) ≡ e = ap (λ z. event.Ended r.number p.0 z) (sym y.1) ∙ sym p.2 in
      (p.0, y.0, inl same)
]

-- two reports of a request are one
report-same : (plan : Plan) (id : RequestId) (o p : Outcome) (x y : Extent) → IsReported plan id o x → IsReported plan id p y → (p ≡ o) × (y.length ≡ x.length)
report-same plan id o p x y s t =
    let e : Some s.ended ≡ Some t.ended = sym s.found ∙ t.found in
    let same : s.ended ≡ t.ended = cc in
    let f : Some s.made ≡ Some t.made = sym s.report ∙ (ap (report_of plan) same ∙ t.report) in
    let made : s.made ≡ t.made = cc in
    (t.same_outcome ∙ (ap (λ m. m.outcome) (sym made) ∙ sym s.same_outcome), t.same_length ∙ (ap (λ m. length m.text) (sym made) ∙ sym s.same_length))

-- the ends of the one, the latest first, are those of the other
past-ends : (plan : Plan) (readings : List Reading) (a b : List Event) → AreFinal plan readings a b → HasEnds a b
past-ends plan readings a b f = λ id o x h.
    let s : IsReported plan id o x = f.one.calm.reported id o x h in
    let g : (s.ended.number.number ≡ id.number) × Has plan.requests s.ended = found plan id s.ended s.found in
    let same : s.ended.number ≡ id = id_same s.ended.number id (eq-eqb _ _ g.0) in
    let here : occurs (ends s.ended.number) a ≡ true = any-some (ends s.ended.number) a (event.Ended id o (Some x)) h (eq-eqb _ _ (sym g.0)) in
    let w : Follows plan a b = follows plan readings a b f.another f.one.calm in
    let there : occurs (ends s.ended.number) b ≡ true = w.let_out s.ended g.1 (ended-let plan readings a s.ended g.1 f.one.calm here) in
    let p : (q : Outcome) × (y : Extent) × Has b (event.Ended s.ended.number q (Some y)) = ends-extent plan readings b s.ended g.1 f.another.calm there in
    let k : Has b (event.Ended id p.0 (Some p.1)) = subst (λ z. Has b (event.Ended z p.0 (Some p.1))) same p.2 in
    let l : (p.0 ≡ o) × (p.1.length ≡ x.length) = report-same plan id o p.0 x p.1 s (f.another.calm.reported id p.0 p.1 k) in
    (p.1, subst (λ z. Has b (event.Ended id z (Some p.1))) l.0 k, l.1)

-- the same, in the order in which they came
history-ends : (plan : Plan) (one another : List Event) → HasEnds (reverse one) (reverse another) → HasEnds one another
history-ends plan one another h = λ id o x k.
    let p : (y : Extent) × Has (reverse another) (event.Ended id o (Some y)) × (y.length ≡ x.length) = h id o x (reverse-has one _ k) in
    (p.0, has-reverse another _ p.1, p.2)

-- two whole histories of a steady plan say the same
pub say_same : (plan : Plan) (readings : Readings) (one another : List Event) → Steady plan readings.list → IsWhole plan readings.list one → IsWhole plan readings.list another → SaySame plan one another
say_same plan readings one another st v w =
    let f : AreFinal plan readings.list (reverse one) (reverse another) = record {
      one = whole-final plan readings.list one readings.in_order st v;
      another = whole-final plan readings.list another readings.in_order st w;
    } in
    record {
      table = table-same plan readings.list (reverse one) (reverse another) f;
      ends_of_one = history-ends plan one another (past-ends plan readings.list (reverse one) (reverse another) f);
      ends_of_another = history-ends plan another one (past-ends plan readings.list (reverse another) (reverse one) (turned plan readings.list (reverse one) (reverse another) f));
    }

-- ---- the run without workers

-- it is one life
alone-one_life : (plan : Plan) (readings : List Reading) (history : List Event) → Alone plan readings [] history → occurs is_resume (reverse history) ≡ false
alone-one_life plan readings history h = none_any is_resume (reverse history) (λ e k.
    let p : (i : ℕ) × (slice_get history i ≡ Some e) = has-get history e (has-reverse history e k) in
    let n : slice_get history p.0 ≡ next_alone plan readings (reverse (take p.0 history)) = h.each p.0 (omega arith) (slice_get_within history p.0 e p.1) in
    (next_alone-follows plan readings (reverse (take p.0 history)) e (sym n ∙ p.1)).0)

-- it is whole
pub alone_whole : (plan : Plan) (readings : List Reading) (history : List Event) → Alone plan readings [] history → IsWhole plan readings history
unfolding is_lawful_so_far
alone_whole plan readings history h = record {
  lawful = alone_lawful plan readings [] history refl h;
  finished = h.finished;
  one_life = alone-one_life plan readings history h;
  reported = alone_reported plan readings [] history h;
}
