-- What is kept with one more look.
use Rattle.std.proofs.Common.{◌≡◌, ◌<◌, ◌≤◌, ◌+◌, ◌-◌, ◌++◌, ◌∷◌, [], ℕ, Bool, true, false, if◌then◌else◌, List, length, get_or, take, refl, sym, ◌∙◌, ap, subst, arith, length-append}
use Rattle.std.specs.Prelude.{nat_lt}
use Rattle.std.specs.Option.{option_map_or}
use Rattle.std.proofs.lemmas.Bool.{le-ltb, lt-ltb, ltb-true, ltb-false}
use Rattle.std.proofs.lemmas.List.{append-nil, take-append-le, take_all}
use Rattle.std.proofs.lemmas.List.Elements.{All-push}
use Rattle.std.proofs.lemmas.List.Quantifiers.{all_pairs_push}
use Rattle.std.proofs.lemmas.Option.{slice_get-get_or}
use Rattle.std.proofs.Math.Seq.{get_or-append_seam}
use mathlib.Core.List.{IsPrefix}
use mathlib.Core.Logic.{dite}
use native.Mathlib.Decide.{ℕ_discrete}
use Rattle.conc_types.specs.declared.event.Event.{Event}
use Rattle.conc_types.specs.declared.plan.Plan.{Plan}
use Rattle.conc_view.specs.Counts.{counts_of}
use Rattle.conc_view.specs.declared.watcher.Snapshot.{Snapshot}
use Rattle.conc_view.proofs.Beginnings.{prefix_whole}
use Rattle.conc_run_watch.specs.Watches.{AreLooks, AreUpToDate, ComesOfLook, is_longer, IsLookAt, IsWatch, Rises, with_early_look, with_look}

-- ---- one snapshot

-- a beginning is no longer
shorter : (before after : List Event) → IsPrefix before after → length before ≤ length after
shorter before after begins =
    let whole : length (before ++ begins.0) ≡ length after = ap length begins.1 in
    omega (arith, whole, length-append before begins.0)

-- a snapshot of a list is one of each list that begins with it
pub look_later : (plan : Plan) (before after : List Event) (s : Snapshot) → IsPrefix before after → IsLookAt plan before s → IsLookAt plan after s
look_later plan before after s begins look =
    let same : take s.length after ≡ take s.length before =
    ap (λ (events : List Event). take s.length events) (sym begins.1) ∙ take-append-le s.length before begins.0 look.within in record {
      within = omega (arith, look.within, shorter before after begins);
      counts = look.counts ∙ ap (counts_of plan) (sym same);
    }

-- a snapshot of the whole list
pub look_whole : (plan : Plan) (events : List Event) (s : Snapshot) → s.length ≡ length events → s.counts ≡ counts_of plan events → IsLookAt plan events s
look_whole plan events s long counts = record {
  within = omega (arith, long);
  counts = counts ∙ ap (counts_of plan) (sym (take_all s.length events (omega (arith, long))));
}

-- ---- the last one

-- what the test says, where there is a last one
longer_test : (kept : List Snapshot) (s : Snapshot) (b : Bool) → is_longer kept s ≡ b → (d : Snapshot) → 0 < length kept
    → nat_lt (get_or kept (length kept - 1) d).length s.length ≡ b
longer_test kept s b is d some =
    ap (λ o. option_map_or (λ (last : Snapshot). nat_lt last.length s.length) o true) (sym (slice_get-get_or kept (length kept - 1) d (omega (arith, some)))) ∙ is

longer_than_last : (kept : List Snapshot) (s : Snapshot) → is_longer kept s ≡ true → (d : Snapshot) → 0 < length kept
    → (get_or kept (length kept - 1) d).length < s.length
longer_than_last kept s is d some = ltb-true _ _ (longer_test kept s true is d some)

no_longer : (kept : List Snapshot) (s : Snapshot) → is_longer kept s ≡ false → (d : Snapshot) → 0 < length kept
    → s.length ≤ (get_or kept (length kept - 1) d).length
no_longer kept s is d some = ltb-false _ _ (longer_test kept s false is d some)

-- where the snapshot is not kept, there is one already
some_kept : (kept : List Snapshot) (s : Snapshot) → is_longer kept s ≡ false → 0 < length kept
some_kept [] s is = absurd (cc)
some_kept (x ∷ xs) s is = omega arith

-- ---- all

-- what is longer than the last one is longer than each
longer_than_each : (kept : List Snapshot) (s : Snapshot) → Rises kept → is_longer kept s ≡ true → (k : ℕ) (d : Snapshot) → k < length kept
    → (get_or kept k d).length < s.length
longer_than_each kept s rising is k d inside =
    let last = longer_than_last kept s is d (omega (arith, inside)) in
    dite (ℕ_discrete k (length kept - 1))
    (λ e. subst (λ (j : ℕ). (get_or kept j d).length < s.length) (sym e) last)
    (λ other. omega (arith, last, rising k (length kept - 1) d (omega (arith, inside, other)) (omega (arith, inside))))

kept_by : (plan : Plan) (events : List Event) (kept : List Snapshot) (s : Snapshot) → AreLooks plan events kept → IsLookAt plan events s
    → (b : Bool) → is_longer kept s ≡ b → AreLooks plan events (if b then kept ++ s ∷ [] else kept)
kept_by plan events kept s are look true is = record {
  looks = All-push (IsLookAt plan events) kept s are.looks look;
  rising = all_pairs_push (λ (before after : Snapshot). before.length < after.length) kept s are.rising (longer_than_each kept s are.rising is);
}
kept_by plan events kept s are look false is = are

-- one more
kept_more : (plan : Plan) (events : List Event) (kept : List Snapshot) (s : Snapshot) → AreLooks plan events kept → IsLookAt plan events s
    → AreLooks plan events (with_look kept s)
kept_more plan events kept s are look = kept_by plan events kept s are look (is_longer kept s) refl

-- what was kept of a list was kept of each list that begins with it
pub kept_later : (plan : Plan) (before after : List Event) (kept : List Snapshot) → IsPrefix before after → AreLooks plan before kept → AreLooks plan after kept
kept_later plan before after kept begins are = record {
  looks = λ k d inside. look_later plan before after (get_or kept k d) begins (are.looks k d inside);
  rising = are.rising;
}

-- none is kept yet
pub none_kept : (plan : Plan) (events : List Event) → AreLooks plan events []
none_kept plan events = record {
  looks = λ k d inside. absurd (omega (arith, inside));
  rising = λ i j d less inside. absurd (omega (arith, inside));
}

-- a look that is not kept
pub kept_passing : (plan now : Plan) (before after : List Event) (kept : List Snapshot) → now ≡ plan → IsPrefix before after → AreLooks plan before kept
    → AreLooks now after kept
kept_passing plan now before after kept same begins are =
    subst (λ (p : Plan). AreLooks p after kept) (sym same) (kept_later plan before after kept begins are)

-- a look that may be kept
pub kept_looking : (plan now : Plan) (before after : List Event) (kept got : List Snapshot) (s : Snapshot) → now ≡ plan → IsPrefix before after
    → AreLooks plan before kept → s.length ≡ length after → s.counts ≡ counts_of now after → got ≡ with_look kept s → AreLooks now after got
kept_looking plan now before after kept got s same begins are long counts is =
    subst (λ (l : List Snapshot). AreLooks now after l) (sym is)
    (kept_more now after kept s (kept_passing plan now before after kept same begins are) (look_whole now after s long counts))

-- how many they are then
count_by_test : (kept : List Snapshot) (s : Snapshot) (b : Bool) → length (if b then kept ++ s ∷ [] else kept) ≤ length kept + 1
count_by_test kept s true = omega (arith, length-append kept (s ∷ []))
count_by_test kept s false = omega arith

pub kept_count : (kept : List Snapshot) (s : Snapshot) → length (with_look kept s) ≤ length kept + 1
kept_count kept s = count_by_test kept s (is_longer kept s)

-- ---- the end

some_by : (kept : List Snapshot) (s : Snapshot) (b : Bool) → is_longer kept s ≡ b → 0 < length (if b then kept ++ s ∷ [] else kept)
some_by kept s true is = omega (arith, length-append kept (s ∷ []))
some_by kept s false is = some_kept kept s is

-- the last of what is kept is as long as the list, since none is longer
last_by : (plan : Plan) (events : List Event) (kept : List Snapshot) (s : Snapshot) → AreLooks plan events kept → s.length ≡ length events
    → (b : Bool) → is_longer kept s ≡ b → (d : Snapshot)
    → (get_or (if b then kept ++ s ∷ [] else kept) (length (if b then kept ++ s ∷ [] else kept) - 1) d).length ≡ length events
last_by plan events kept s are long true is d =
    let place : length (kept ++ s ∷ []) - 1 ≡ length kept = omega (arith, length-append kept (s ∷ [])) in
    let last : get_or (kept ++ s ∷ []) (length (kept ++ s ∷ []) - 1) d ≡ s =
    ap (λ (k : ℕ). get_or (kept ++ s ∷ []) k d) place ∙ get_or-append_seam kept s [] d in
    ap (λ (x : Snapshot). x.length) last ∙ long
last_by plan events kept s are long false is d =
    let some = some_kept kept s is in
    let most = (are.looks (length kept - 1) d (omega (arith, some))).within in
    omega (arith, long, most, no_longer kept s is d some)

-- what is kept with the look at the whole history is a watch of it
watch_of : (plan : Plan) (history : List Event) (kept : List Snapshot) (s : Snapshot) → AreLooks plan history kept → length kept ≤ 63
    → s.length ≡ length history → s.counts ≡ counts_of plan history → IsWatch plan history (with_look kept s)
watch_of plan history kept s are few long counts =
    let all = kept_more plan history kept s are (look_whole plan history s long counts) in record {
      some = some_by kept s (is_longer kept s) refl;
      few = omega (arith, few, kept_count kept s);
      looks = all.looks;
      rising = all.rising;
      whole = last_by plan history kept s are long (is_longer kept s) refl;
    }

-- the same, where what was kept is of a beginning of the history
pub kept_whole : (plan : Plan) (before history : List Event) (kept : List Snapshot) (s : Snapshot) → AreLooks plan before kept → length kept ≤ 63
    → IsPrefix before history → s.length ≡ length history → s.counts ≡ counts_of plan history → IsWatch plan history (with_look kept s)
kept_whole plan before history kept s are few begins long counts =
    watch_of plan history kept s (kept_later plan before history kept begins are) few long counts

-- ---- before the end

-- while fewer than 63 are kept, one more look may be kept; then none
pub early_kept : (kept : List Snapshot) (s : Snapshot) → length kept < 63 → with_early_look kept s ≡ with_look kept s
early_kept kept s few = ap (λ (b : Bool). if b then with_look kept s else kept) (lt-ltb (length kept) 63 few)

pub early_passed : (kept : List Snapshot) (s : Snapshot) → 63 ≤ length kept → with_early_look kept s ≡ kept
early_passed kept s many = ap (λ (b : Bool). if b then with_look kept s else kept) (le-ltb (length kept) 63 many)

begins_by : (kept : List Snapshot) (s : Snapshot) (b : Bool) → IsPrefix kept (if b then kept ++ s ∷ [] else kept)
begins_by kept s true = (s ∷ [], refl)
begins_by kept s false = ([], append-nil kept)

early_by : (kept : List Snapshot) (s : Snapshot) (b : Bool) → IsPrefix kept (if b then with_look kept s else kept)
early_by kept s true = begins_by kept s (is_longer kept s)
early_by kept s false = ([], append-nil kept)

-- what was kept is kept
pub keeps_early : (plan : Plan) (events : List Event) (kept got : List Snapshot) → ComesOfLook plan events (with_early_look kept) got → IsPrefix kept got
keeps_early plan events kept got look = subst (λ (l : List Snapshot). IsPrefix kept l) (sym look.kept) (early_by kept look.snapshot (nat_lt (length kept) 63))

up_to_date_by : (plan : Plan) (events : List Event) (kept : List Snapshot) (s : Snapshot) → AreLooks plan events kept → s.length ≡ length events
    → (b : Bool) → nat_lt (length kept) 63 ≡ b → AreUpToDate events (if b then with_look kept s else kept)
up_to_date_by plan events kept s are long true is = record {
  some = some_by kept s (is_longer kept s) refl;
  last = λ few d. last_by plan events kept s are long (is_longer kept s) refl d;
}
up_to_date_by plan events kept s are long false is =
    let many : 63 ≤ length kept = ltb-false (length kept) 63 is in record {
      some = omega (arith, many);
      last = λ few d. absurd (omega (arith, few, many));
    }

-- after a look that may be kept
pub up_to_date : (plan now : Plan) (before after : List Event) (kept got : List Snapshot) → now ≡ plan → IsPrefix before after → AreLooks plan before kept
    → ComesOfLook now after (with_early_look kept) got → AreUpToDate after got
up_to_date plan now before after kept got same begins are look =
    subst (λ (l : List Snapshot). AreUpToDate after l) (sym look.kept)
    (up_to_date_by now after kept look.snapshot (kept_passing plan now before after kept same begins are) look.long (nat_lt (length kept) 63) refl)

-- what begins with the history, and with which the history begins, is the history
pub same_whole : (history seen : List Event) → IsPrefix history seen → IsPrefix seen history → seen ≡ history
same_whole history seen on back = sym (prefix_whole history seen on (shorter seen history back))
