-- Candidates that are put right.
use Rattle.std.proofs.Common.{◌≡◌, ◌⊎◌, ℕ, zero, suc, ◌+◌, ◌-◌, ◌<◌, ◌≤◌, Bool, true, false, ◌==◌, List, [], ◌∷◌, ◌++◌, length, get_or, map, set, take, drop, Option, None, Some, if◌then◌else◌, refl, sym, ◌∙◌, ap, subst, inl, inr, arith}
use Rattle.std.specs.Prelude.{slice_get, slice_range, unwrap_or}
use Rattle.std.specs.List.{range_with_len}
use Rattle.std.proofs.lemmas.Bool.{cases_eq, cases_lt}
use Rattle.std.proofs.lemmas.List.{length-set}
use Rattle.std.proofs.lemmas.List.FromFn.{length-map-range_with_len}
use Rattle.std.proofs.lemmas.Option.{slice_get_past}
use Rattle.conc_types.specs.declared.facts.Facts.{Facts}
use Rattle.conc_types.specs.declared.facts.State.{State}
use Rattle.conc_types.specs.declared.plan.Plan.{Plan}
use Rattle.conc_types.specs.declared.plan.Req.{Req}
use Rattle.conc_base_law.specs.State.{facts_at, is_live}
use Rattle.conc_base_law.specs.Words.{Has}
use Rattle.conc_event_queue.specs.Least.{least}
use Rattle.conc_event_queue.proofs.Maps.{slice_get-set_other, slice_get-set_same}
use Rattle.conc_event_classes.specs.Classes.{class_at, rivals_at, slot_at}
use Rattle.conc_event_classes.specs.declared.classes.Classes.{Classes}
use Rattle.conc_event_reach.specs.Spans.{span_of_members}
use Rattle.conc_event_reach.specs.declared.span.Span.{Span}
use Rattle.conc_event_reach.specs.declared.spans.Spans.{Spans}
use Rattle.conc_machine_release.specs.Candidates.{candidate, classes_within, HaveQueues, IsCandidate, PutsRight, touched, where_changed}
use Rattle.conc_machine_release.specs.Refresh.{key, refreshed_all, refreshed_at}
use Rattle.conc_machine_release.specs.Renewal.{recounted, recounted_by, renewed, renewed_within}
use Rattle.conc_machine_release.specs.Rivals.{counted, counted_all, counted_at}
use Rattle.conc_machine_release.proofs.Lists.{drop-next, map_range-get, place-some, same_list, take-none}

-- ---- elements

has-append : {T : Type 0} (xs ys : List T) (x : T) → Has (xs ++ ys) x → Has xs x ⊎ Has ys x
has-append [] ys x h = inr h
has-append (y ∷ xs) ys x h = elim h [
  | inl e ↦ inl (inl e)
  | inr later ↦ elim (has-append xs ys x later) [ inl here ↦ inl (inr here) | inr there ↦ inr there ]
]

has-front : {T : Type 0} (xs ys : List T) (x : T) → Has xs x → Has (xs ++ ys) x
has-front [] ys x h = absurd h
has-front (y ∷ xs) ys x h = elim h [ inl e ↦ inl e | inr later ↦ inr (has-front xs ys x later) ]

has-back : {T : Type 0} (xs ys : List T) (x : T) → Has ys x → Has (xs ++ ys) x
has-back [] ys x h = h
has-back (y ∷ xs) ys x h = inr (has-back xs ys x h)

get_or-get : {T : Type 0} (xs : List T) (k : ℕ) (d : T) → get_or xs k d ≡ unwrap_or (slice_get xs k) d
get_or-get [] k d = refl
get_or-get (x ∷ xs) zero d = refl
get_or-get (x ∷ xs) (suc k) d = get_or-get xs k d

get_or-alike : {T : Type 0} (xs ys : List T) (k : ℕ) (d : T) → slice_get xs k ≡ slice_get ys k → get_or xs k d ≡ get_or ys k d
get_or-alike xs ys k d e = get_or-get xs k d ∙ ap (λ o. unwrap_or o d) e ∙ sym (get_or-get ys k d)

-- ---- one class, and several

-- where none is put
pub puts-none : (queues : List (List (Option ℕ))) (counts : List ℕ) (candidates : List (Option ℕ)) → PutsRight queues counts [] candidates candidates
puts-none queues counts candidates = record {
  count = refl;
  own = λ c has. absurd has;
  others = λ c is. is;
}

put-own : (queues : List (List (Option ℕ))) (counts : List ℕ) (candidates : List (Option ℕ)) (c d : ℕ) → c < length candidates → d ≡ c
    → IsCandidate queues counts (set candidates c (candidate queues counts c)) d
put-own queues counts candidates c d within e =
    let was : (x : Option ℕ) × (slice_get candidates c ≡ Some x) = place-some candidates c within in
    ap (slice_get (set candidates c (candidate queues counts c))) e
    ∙ slice_get-set_same candidates c was.0 (candidate queues counts c) was.1
    ∙ ap (λ k. Some (candidate queues counts k)) (sym e)

-- one class
pub puts-one : (queues : List (List (Option ℕ))) (counts : List ℕ) (candidates : List (Option ℕ)) (c : ℕ) → c < length candidates
    → PutsRight queues counts (c ∷ []) candidates (set candidates c (candidate queues counts c))
puts-one queues counts candidates c within = record {
  count = length-set candidates c (candidate queues counts c);
  own = λ d has. elim has [ inl e ↦ put-own queues counts candidates c d within e | inr later ↦ absurd later ];
  others = λ d is. elim (cases_eq d c) [
    | inl e ↦ put-own queues counts candidates c d within e
    | inr ne ↦ slice_get-set_other candidates c d (candidate queues counts c) ne ∙ is
  ];
}

-- these, and then those
pub puts-append : (queues : List (List (Option ℕ))) (counts cs ds : List ℕ) (first second third : List (Option ℕ)) → PutsRight queues counts cs first second
    → PutsRight queues counts ds second third → PutsRight queues counts (cs ++ ds) first third
puts-append queues counts cs ds first second third p q = record {
  count = q.count ∙ p.count;
  own = λ c has. elim (has-append cs ds c has) [ inl here ↦ q.others c (p.own c here) | inr there ↦ q.own c there ];
  others = λ c is. q.others c (p.others c is);
}

-- ---- loops

-- of these classes, those are left
pub record PutsRightBut (queues : List (List (Option ℕ))) (counts cs left : List ℕ) (before after : List (Option ℕ)) : Type 0 where
  pub count : length after ≡ length before
  pub own : (c : ℕ) → Has cs c → Has left c ⊎ IsCandidate queues counts after c
  pub others : (c : ℕ) → IsCandidate queues counts before c → IsCandidate queues counts after c

pub puts-start : (queues : List (List (Option ℕ))) (counts cs : List ℕ) (candidates : List (Option ℕ)) → PutsRightBut queues counts cs cs candidates candidates
puts-start queues counts cs candidates = record {
  count = refl;
  own = λ c has. inl has;
  others = λ c is. is;
}

pub puts-next : (queues : List (List (Option ℕ))) (counts cs left rest : List ℕ) (x : ℕ) (first second third : List (Option ℕ)) → left ≡ x ∷ rest
    → PutsRightBut queues counts cs left first second → PutsRight queues counts (x ∷ []) second third → PutsRightBut queues counts cs rest first third
puts-next queues counts cs left rest x first second third e p q = record {
  count = q.count ∙ p.count;
  own = λ c has. elim (p.own c has) [
    | inl remains ↦ here c (subst (λ l. Has l c) e remains)
    | inr is ↦ inr (q.others c is)
  ];
  others = λ c is. q.others c (p.others c is);
} where
  here : (c : ℕ) → Has (x ∷ rest) c → Has rest c ⊎ IsCandidate queues counts third c
  here c has = elim has [ inl same ↦ inr (q.own c (inl same)) | inr later ↦ inl later ]

-- one more, by its name
pub puts-one_more : (queues : List (List (Option ℕ))) (counts cs left rest : List ℕ) (x y : ℕ) (first second third : List (Option ℕ)) → y ≡ x → left ≡ x ∷ rest
    → PutsRightBut queues counts cs left first second → PutsRight queues counts (y ∷ []) second third → PutsRightBut queues counts cs rest first third
puts-one_more queues counts cs left rest x y first second third n e p q =
    puts-next queues counts cs left rest x first second third e p (subst (λ z. PutsRight queues counts (z ∷ []) second third) n q)

pub puts-end : (queues : List (List (Option ℕ))) (counts cs left : List ℕ) (before after : List (Option ℕ)) → left ≡ [] → PutsRightBut queues counts cs left before after
    → PutsRight queues counts cs before after
puts-end queues counts cs left before after e p = record {
  count = p.count;
  own = λ c has. elim (p.own c has) [ inl remains ↦ absurd (subst (λ l. Has l c) e remains) | inr is ↦ is ];
  others = p.others;
}

-- one more of a list
pub left-next : (xs : List ℕ) (k x : ℕ) → k < length xs → x ≡ get_or xs k 0 → drop k xs ≡ x ∷ drop (k + 1) xs
left-next xs k x h e =
    let there : (y : ℕ) × (slice_get xs k ≡ Some y) = place-some xs k h in
    let same : x ≡ there.0 = e ∙ get_or-get xs k 0 ∙ ap (λ o. unwrap_or o 0) there.1 in
    drop-next xs k x (there.1 ∙ ap (λ y. Some y) (sym same))

pub left-end : (xs : List ℕ) (k : ℕ) → length xs ≤ k → drop k xs ≡ []
left-end [] zero h = refl
left-end [] (suc k) h = refl
left-end (x ∷ xs) zero h = absurd (omega arith)
left-end (x ∷ xs) (suc k) h = left-end xs k (omega arith)

-- one more of the requests from an index on
pub within-next : (plan : Plan) (classes : Classes) (from to : ℕ) (r : Req) → from < to → slice_get plan.requests from ≡ Some r
    → classes_within plan classes (record { from = from; to = to }) ≡ class_at classes r ∷ classes_within plan classes (record { from = from + 1; to = to })
within-next plan classes from to r more at =
    ap (λ rs. map (class_at classes) (take (to - from) rs)) (drop-next plan.requests from r at)
    ∙ ap (λ n. map (class_at classes) (take n (r ∷ drop (from + 1) plan.requests))) count
  where
    count : to - from ≡ suc (to - (from + 1))
    count = omega arith

pub within-end : (plan : Plan) (classes : Classes) (from to : ℕ) → to ≤ from → classes_within plan classes (record { from = from; to = to }) ≡ []
within-end plan classes from to end =
    ap (λ n. map (class_at classes) (take n (drop from plan.requests))) none ∙ ap (map (class_at classes)) (take-none (drop from plan.requests))
  where
    none : to - from ≡ 0
    none = omega arith

-- the classes that a write touches, by their names
pub puts-touched : (plan : Plan) (classes : Classes) (spans : Spans) (s : State) (old : Facts) (r : Req) (queues : List (List (Option ℕ))) (counts : List ℕ)
    (first second third fourth : List (Option ℕ)) (class : ℕ) (facts : Facts) (span : Span) (live was : Bool) (rivals : List ℕ)
    → class ≡ class_at classes r → facts ≡ facts_at s r → span ≡ span_of_members spans r.number → live ≡ is_live facts → was ≡ is_live old → rivals ≡ rivals_at classes class
    → PutsRight queues counts (class ∷ []) first second
    → PutsRight queues counts (if facts.begun.bits == old.begun.bits then [] else classes_within plan classes span) second third
    → PutsRight queues counts (where_changed live was rivals) third fourth
    → PutsRight queues counts (touched plan classes spans s old r) first fourth
puts-touched plan classes spans s old r queues counts first second third fourth class facts span live was rivals class-is facts-is span-is live-is was-is rivals-is p q w =
    subst (λ l. PutsRight queues counts l first fourth) whole
    (puts-append queues counts (class ∷ []) (members facts span ++ where_changed live was rivals) first second fourth p
    (puts-append queues counts (members facts span) (where_changed live was rivals) second third fourth q w))
  where
    members : Facts → Span → List ℕ
    members f w = if f.begun.bits == old.begun.bits then [] else classes_within plan classes w

    others : where_changed live was rivals ≡ where_changed (is_live (facts_at s r)) (is_live old) (rivals_at classes (class_at classes r))
    others =
        ap (λ b. where_changed b was rivals) (live-is ∙ ap (λ f. is_live f) facts-is)
        ∙ ap (λ b. where_changed (is_live (facts_at s r)) b rivals) was-is
        ∙ ap (where_changed (is_live (facts_at s r)) (is_live old)) (rivals-is ∙ ap (rivals_at classes) class-is)

    whole : (class ∷ []) ++ (members facts span ++ where_changed live was rivals) ≡ touched plan classes spans s old r
    whole =
        ap (λ n. n ∷ (members facts span ++ where_changed live was rivals)) class-is
        ∙ ap (λ l. class_at classes r ∷ (l ++ where_changed live was rivals)) (ap (λ f. members f span) facts-is ∙ ap (members (facts_at s r)) span-is)
        ∙ ap (λ l. class_at classes r ∷ (members (facts_at s r) (span_of_members spans r.number) ++ l)) others

-- ---- what a write leaves as it was

refreshed-other : (plan : Plan) (classes : Classes) (s : State) (queues : List (List (Option ℕ))) (r : Req) (c : ℕ) → (c ≡ class_at classes r → ⊥)
    → slice_get (refreshed_at plan classes s queues r) c ≡ slice_get queues c
refreshed-other plan classes s queues r c ne =
    slice_get-set_other queues (class_at classes r) c (set (get_or queues (class_at classes r) []) (slot_at classes r) (key plan s r)) ne

-- a class keeps its keys, or is one of those whose requests are renewed
pub refreshed-touched : (plan : Plan) (classes : Classes) (s : State) (rs : List Req) (queues : List (List (Option ℕ))) (c : ℕ)
    → (slice_get (refreshed_all plan classes s rs queues) c ≡ slice_get queues c) ⊎ Has (map (class_at classes) rs) c
unfolding refreshed_all
refreshed-touched plan classes s [] queues c = inl refl
refreshed-touched plan classes s (r ∷ rs) queues c = elim (cases_eq c (class_at classes r)) [
  | inl e ↦ inr (inl e)
  | inr ne ↦ elim (refreshed-touched plan classes s rs (refreshed_at plan classes s queues r) c) [
    | inl same ↦ inl (same ∙ refreshed-other plan classes s queues r c ne)
    | inr later ↦ inr (inr later)
  ]
]

counted-touched : (more : Bool) (cs counts : List ℕ) (c : ℕ) → (slice_get (counted_all more cs counts) c ≡ slice_get counts c) ⊎ Has cs c
unfolding counted_all
counted-touched more [] counts c = inl refl
counted-touched more (x ∷ cs) counts c = elim (cases_eq c x) [
  | inl e ↦ inr (inl e)
  | inr ne ↦ elim (counted-touched more cs (counted_at more counts x) c) [
    | inl same ↦ inl (same ∙ slice_get-set_other counts x c (counted more (get_or counts x 0)) ne)
    | inr later ↦ inr (inr later)
  ]
]

-- so of those of one write
within-touched : (plan : Plan) (classes : Classes) (s : State) (span : Span) (same : Bool) (queues : List (List (Option ℕ))) (c : ℕ)
    → (slice_get (renewed_within plan classes s span same queues) c ≡ slice_get queues c) ⊎ Has (if same then [] else classes_within plan classes span) c
within-touched plan classes s span true queues c = inl refl
within-touched plan classes s span false queues c = refreshed-touched plan classes s (slice_range plan.requests span.from span.to) queues c

recounted-touched : (live was : Bool) (cs counts : List ℕ) (c : ℕ) → (slice_get (recounted_by live was cs counts) c ≡ slice_get counts c) ⊎ Has (where_changed live was cs) c
recounted-touched true false cs counts c = counted-touched true cs counts c
recounted-touched false true cs counts c = counted-touched false cs counts c
recounted-touched true true cs counts c = inl refl
recounted-touched false false cs counts c = inl refl

candidate-alike : (queues after : List (List (Option ℕ))) (counts recount : List ℕ) (c : ℕ) → slice_get after c ≡ slice_get queues c → slice_get recount c ≡ slice_get counts c
    → candidate after recount c ≡ candidate queues counts c
candidate-alike queues after counts recount c q n =
    ap (λ m. if m == 0 then least (get_or after c []) else None) (get_or-alike recount counts c 0 n)
    ∙ ap (λ l. if get_or counts c 0 == 0 then least l else None) (get_or-alike after queues c [] q)

-- a class keeps its candidate, or is one of those that the write touches
pub candidate-touched : (plan : Plan) (classes : Classes) (spans : Spans) (s : State) (old : Facts) (r : Req) (queues : List (List (Option ℕ))) (counts : List ℕ) (c : ℕ)
    → (candidate (renewed plan classes spans s old queues r) (recounted classes s old counts r) c ≡ candidate queues counts c) ⊎ Has (touched plan classes spans s old r) c
candidate-touched plan classes spans s old r queues counts c = elim (cases_eq c (class_at classes r)) [
  | inl e ↦ inr (inl e)
  | inr ne ↦ elim (within-touched plan classes s (span_of_members spans r.number) ((facts_at s r).begun.bits == old.begun.bits) (refreshed_at plan classes s queues r) c) [
    | inr member ↦ inr (inr (has-front members others c member))
    | inl keys ↦ elim (recounted-touched (is_live (facts_at s r)) (is_live old) (rivals_at classes (class_at classes r)) counts c) [
      | inr rival ↦ inr (inr (has-back members others c rival))
      | inl count ↦ inl (candidate-alike queues (renewed plan classes spans s old queues r) counts (recounted classes s old counts r) c
          (keys ∙ refreshed-other plan classes s queues r c ne) count)
    ]
  ]
] where
  members : List ℕ
  members = if (facts_at s r).begun.bits == old.begun.bits then [] else classes_within plan classes (span_of_members spans r.number)

  others : List ℕ
  others = where_changed (is_live (facts_at s r)) (is_live old) (rivals_at classes (class_at classes r))

-- a class keeps its candidate where all keys are renewed and its requests are not among those
pub candidate-refreshed : (plan : Plan) (classes : Classes) (s : State) (span : Span) (queues : List (List (Option ℕ))) (counts : List ℕ) (c : ℕ)
    → (candidate (refreshed_all plan classes s (slice_range plan.requests span.from span.to) queues) counts c ≡ candidate queues counts c) ⊎ Has (classes_within plan classes span) c
candidate-refreshed plan classes s span queues counts c =
    elim (refreshed-touched plan classes s (slice_range plan.requests span.from span.to) queues c) [
      | inl same ↦ inl (candidate-alike queues (refreshed_all plan classes s (slice_range plan.requests span.from span.to) queues) counts counts c same refl)
      | inr has ↦ inr has
    ]

-- ---- all of them

-- once those are put right of which the candidate changed, all are right
pub candidates-right : (n : ℕ) (queues after : List (List (Option ℕ))) (counts recount cs : List ℕ) (was is : List (Option ℕ))
    → was ≡ map (candidate queues counts) (range_with_len 0 n) → PutsRight after recount cs was is
    → ((c : ℕ) → (candidate after recount c ≡ candidate queues counts c) ⊎ Has cs c) → is ≡ map (candidate after recount) (range_with_len 0 n)
candidates-right n queues after counts recount cs was is before puts either = same_list _ _ (λ k. elim (cases_lt k n) [
  | inr past ↦
      slice_get_past is k (omega (arith, past, puts.count, ap length before, length-map-range_with_len (candidate queues counts) 0 n))
      ∙ sym (slice_get_past (map (candidate after recount) (range_with_len 0 n)) k (omega (arith, past, length-map-range_with_len (candidate after recount) 0 n)))
  | inl inside ↦ right k inside (either k) ∙ sym (map_range-get (candidate after recount) 0 n k k (omega arith) inside)
]) where
  right : (k : ℕ) → k < n → (candidate after recount k ≡ candidate queues counts k) ⊎ Has cs k → IsCandidate after recount is k
  right k inside h = elim h [
    | inl same ↦ puts.others k (ap (λ l. slice_get l k) before ∙ map_range-get (candidate queues counts) 0 n k k (omega arith) inside ∙ ap (λ o. Some o) (sym same))
    | inr has ↦ puts.own k has
  ]

-- so after a write
pub candidates-written : (plan : Plan) (classes : Classes) (spans : Spans) (s : State) (old : Facts) (r : Req) (n : ℕ) (queues after read : List (List (Option ℕ))) (counts recount : List ℕ)
    (was is : List (Option ℕ)) → after ≡ renewed plan classes spans s old queues r → read ≡ after → recount ≡ recounted classes s old counts r
    → was ≡ map (candidate queues counts) (range_with_len 0 n) → PutsRight read recount (touched plan classes spans s old r) was is
    → is ≡ map (candidate after recount) (range_with_len 0 n)
candidates-written plan classes spans s old r n queues after read counts recount was is after-is read-is recount-is was-is puts =
    candidates-right n queues after counts recount (touched plan classes spans s old r) was is was-is
    (subst (λ l. PutsRight l recount (touched plan classes spans s old r) was is) read-is puts)
    (λ c. elim (candidate-touched plan classes spans s old r queues counts c) [
      | inl same ↦ inl (ap (λ l. candidate l recount c) after-is ∙ ap (λ l. candidate (renewed plan classes spans s old queues r) l c) recount-is ∙ same)
      | inr has ↦ inr has
    ])

-- and after the keys within a span are renewed
pub candidates-refreshed : (plan : Plan) (classes : Classes) (s : State) (span : Span) (n : ℕ) (queues after read : List (List (Option ℕ))) (counts : List ℕ) (was is : List (Option ℕ))
    → after ≡ refreshed_all plan classes s (slice_range plan.requests span.from span.to) queues → read ≡ after
    → was ≡ map (candidate queues counts) (range_with_len 0 n) → PutsRight read counts (classes_within plan classes span) was is
    → is ≡ map (candidate after counts) (range_with_len 0 n)
candidates-refreshed plan classes s span n queues after read counts was is after-is read-is was-is puts =
    candidates-right n queues after counts counts (classes_within plan classes span) was is was-is
    (subst (λ l. PutsRight l counts (classes_within plan classes span) was is) read-is puts)
    (λ c. elim (candidate-refreshed plan classes s span queues counts c) [
      | inl same ↦ inl (ap (λ l. candidate l counts c) after-is ∙ same)
      | inr has ↦ inr has
    ])

-- there are as many queues and counts as candidates
pub have-queues : (n : ℕ) (queues : List (List (Option ℕ))) (counts : List ℕ) (candidates : List (Option ℕ)) → length queues ≡ n → length counts ≡ n → length candidates ≡ n
    → HaveQueues queues counts candidates
have-queues n queues counts candidates q c k = record { each_queue = q ∙ sym k; each_count = c ∙ sym k }

-- and so still where some are put right
pub have-still : (queues : List (List (Option ℕ))) (counts : List ℕ) (before after : List (Option ℕ)) → HaveQueues queues counts before → length after ≡ length before
    → HaveQueues queues counts after
have-still queues counts before after have same = record { each_queue = have.each_queue ∙ sym same; each_count = have.each_count ∙ sym same }
