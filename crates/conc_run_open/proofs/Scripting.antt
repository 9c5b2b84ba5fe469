-- The stamps of the commands among events.
use Rattle.std.proofs.Common.{◌≡◌, ◌==◌, ℕ, ◌+◌, ◌<◌, ◌≤◌, false, true, not, List, [], ◌∷◌, ◌++◌, length, map, take, drop, get_or, Option, None, Some, refl, sym, ◌∙◌, ap, subst, arith, append-nil}
use Rattle.std.specs.Prelude.{cond, count_by, slice_get, unwrap_or}
use Rattle.std.specs.List.{cons_option, filter_map}
use Rattle.std.specs.Option.{option_eq}
use Rattle.std.proofs.lemmas.Bool.{both_ways, eq-eqb, eqb-true, not-false, not-true}
use Rattle.std.proofs.lemmas.List.{map-append, drop_more, take_all, take_more, take-append-drop}
use Rattle.std.proofs.lemmas.List.Elements.{filter_map-append}
use Rattle.std.proofs.lemmas.List.Sums.{count_by_more_no, count_by_more_yes, sum_by_more_le}
use Rattle.std.proofs.lemmas.Option.{get_or_from_slice_get, slice_get_within}
use Rattle.conc_types.specs.Plans.{stamp}
use Rattle.conc_types.specs.declared.event.Event.{Event}
use Rattle.conc_types.specs.declared.event.Event.TheVariants as event
use Rattle.conc_types.specs.declared.plan.Plan.{Plan}
use Rattle.conc_journal_image.specs.Fields.{has_stamp}
use Rattle.conc_run_state.specs.Inputs.{AreStampsOf, command_of}
use Rattle.conc_run_open.specs.Scripts.{HasOther}

-- ---- lists by a position

pub front-more : {X : Type 0} (xs : List X) (i : ℕ) (x : X) → slice_get xs i ≡ Some x → take (i + 1) xs ≡ take i xs ++ x ∷ []
front-more xs i x here = take_more xs i x (slice_get_within xs i x here) ∙ ap (λ y. take i xs ++ y ∷ []) (get_or_from_slice_get xs i x x here)

around : {X : Type 0} (xs : List X) (i : ℕ) (x : X) → slice_get xs i ≡ Some x → xs ≡ take i xs ++ x ∷ drop (i + 1) xs
around xs i x here =
    sym (take-append-drop i xs)
    ∙ ap (λ l. take i xs ++ l) (drop_more xs i x (slice_get_within xs i x here) ∙ ap (λ y. y ∷ drop (i + 1) xs) (get_or_from_slice_get xs i x x here))

-- ---- events with stamps

-- behind events with these stamps, a command with this one
stamps-more : (plan : Plan) (events : List Event) (stamps : List ℕ) (command found : ℕ) → AreStampsOf plan events stamps → stamp plan command ≡ Some found → AreStampsOf plan (events ++ event.Command command ∷ []) (stamps ++ found ∷ [])
stamps-more plan events stamps command found are is =
    ap (map (stamp plan)) (filter_map-append command_of events (event.Command command ∷ []))
    ∙ map-append (stamp plan) (filter_map command_of events) (command ∷ [])
    ∙ ap (λ x. map (stamp plan) (filter_map command_of events) ++ x ∷ []) is
    ∙ ap (λ xs. xs ++ Some found ∷ []) are
    ∙ sym (map-append Some stamps (found ∷ []))

-- or an event that is no command
stamps-same : (plan : Plan) (events : List Event) (stamps : List ℕ) (e : Event) → AreStampsOf plan events stamps → command_of e ≡ None → AreStampsOf plan (events ++ e ∷ []) stamps
stamps-same plan events stamps e are none =
    ap (map (stamp plan)) (filter_map-append command_of events (e ∷ []) ∙ ap (λ c. filter_map command_of events ++ cons_option c []) none ∙ append-nil (filter_map command_of events))
    ∙ are

-- what is no command has no stamp
pub no-command : (e : Event) → ((n : ℕ) → e ≡ event.Command n → ⊥) → (has_stamp e ≡ false) × (command_of e ≡ None)
no-command (event.Command n) other = absurd (other n refl)
no-command _ other = (refl, refl)

-- ---- the events so far

-- behind them a command, or an event that is none
pub stamps-take-more : (plan : Plan) (events : List Event) (stamps : List ℕ) (i command found : ℕ) → slice_get events i ≡ Some (event.Command command) → AreStampsOf plan (take i events) stamps
    → stamp plan command ≡ Some found → AreStampsOf plan (take (i + 1) events) (stamps ++ found ∷ [])
stamps-take-more plan events stamps i command found here are is =
    subst (λ (l : List Event). AreStampsOf plan l (stamps ++ found ∷ [])) (sym (front-more events i (event.Command command) here)) (stamps-more plan (take i events) stamps command found are is)

pub stamps-take-same : (plan : Plan) (events : List Event) (stamps : List ℕ) (i : ℕ) (e : Event) → slice_get events i ≡ Some e → AreStampsOf plan (take i events) stamps → command_of e ≡ None → AreStampsOf plan (take (i + 1) events) stamps
stamps-take-same plan events stamps i e here are none =
    subst (λ (l : List Event). AreStampsOf plan l stamps) (sym (front-more events i e here)) (stamps-same plan (take i events) stamps e are none)

-- so many stamps are those of the commands so far
pub record AreSame (plan : Plan) (events : List Event) (stamps : List ℕ) (i number : ℕ) : Type 0 where
  pub counted : number ≡ count_by has_stamp (take i events)
  pub same : AreStampsOf plan (take i events) (take number stamps)

-- a command here has a stamp
pub same-within : (events : List Event) (stamps : List ℕ) (i command number : ℕ) → length stamps ≡ count_by has_stamp events → slice_get events i ≡ Some (event.Command command) → number ≡ count_by has_stamp (take i events)
    → number < length stamps
same-within events stamps i command number all here counted =
    let e = event.Command command in
    let is : get_or events i e ≡ e = get_or_from_slice_get events i e e here in
    let below = subst (λ x. count_by has_stamp (take i events) + cond (has_stamp x) 1 0 ≤ count_by has_stamp events) is (sum_by_more_le (λ x. cond (has_stamp x) 1 0) events i e (slice_get_within events i e here)) in
    omega arith

-- it is the plan's
pub same-more : (plan : Plan) (events : List Event) (stamps : List ℕ) (i command number found : ℕ) → slice_get events i ≡ Some (event.Command command) → slice_get stamps number ≡ Some found
    → stamp plan command ≡ Some found → AreSame plan events stamps i number → AreSame plan events stamps (i + 1) (number + 1)
same-more plan events stamps i command number found here stamped is so_far = record {
  counted =
      let e = event.Command command in
      ap (λ n. n + 1) so_far.counted ∙ sym (count_by_more_yes has_stamp events i e (slice_get_within events i e here) (ap has_stamp (get_or_from_slice_get events i e e here)));
  same =
      subst (AreStampsOf plan (take (i + 1) events)) (sym (front-more stamps number found stamped)) (stamps-take-more plan events (take number stamps) i command found here so_far.same is);
}

-- an event that is no command
pub same-passed : (plan : Plan) (events : List Event) (stamps : List ℕ) (i number : ℕ) (e : Event) → slice_get events i ≡ Some e → ((n : ℕ) → e ≡ event.Command n → ⊥) → AreSame plan events stamps i number
    → AreSame plan events stamps (i + 1) number
same-passed plan events stamps i number e here other so_far =
    let none = no-command e other in
    record {
      counted = so_far.counted ∙ sym (count_by_more_no has_stamp events i e (slice_get_within events i e here) (ap has_stamp (get_or_from_slice_get events i e e here) ∙ none.0));
      same = stamps-take-same plan events (take number stamps) i e here so_far.same none.1;
    }

-- it is another
pub has-other : (plan : Plan) (events : List Event) (stamps : List ℕ) (i command number found given : ℕ) → slice_get events i ≡ Some (event.Command command) → slice_get stamps number ≡ Some found
    → given ≡ unwrap_or (stamp plan command) 0 → (stamp plan command ≡ Some found → ⊥) → AreSame plan events stamps i number → HasOther plan events stamps command found given
has-other plan events stamps i command number found given here stamped given_is other so_far = record {
  before = take i events;
  after = drop (i + 1) events;
  events_are = around events i (event.Command command) here;
  stamps_before = take number stamps;
  stamps_after = drop (number + 1) stamps;
  stamps_are = around stamps number found stamped;
  same_before = so_far.same;
  given_is = given_is;
  other = other;
}

-- all of them
pub same-all : (plan : Plan) (events : List Event) (stamps : List ℕ) (i number : ℕ) → length events ≤ i → length stamps ≡ count_by has_stamp events → AreSame plan events stamps i number → AreStampsOf plan events stamps
same-all plan events stamps i number end all so_far =
    let front : take i events ≡ events = take_all i events end in
    let full : length stamps ≤ number = omega (arith, all, so_far.counted, ap (count_by has_stamp) front) in
    subst (AreStampsOf plan events) (take_all number stamps full) (subst (λ (l : List Event). AreStampsOf plan l (take number stamps)) front so_far.same)

-- ---- a test of two stamps

pub tested-same : (o : Option ℕ) (n : ℕ) → not (option_eq ◌==◌ o (Some n)) ≡ false → o ≡ Some n
tested-same None n h = absurd (cc)
tested-same (Some m) n h = ap (λ x. Some x) (eqb-true m n (not-false (m == n) h))

pub tested-other : (o : Option ℕ) (n : ℕ) → not (option_eq ◌==◌ o (Some n)) ≡ true → o ≡ Some n → ⊥
tested-other o n h is =
    let same : option_eq ◌==◌ o (Some n) ≡ true = ap (λ x. option_eq ◌==◌ x (Some n)) is ∙ eq-eqb n n refl in
    both_ways _ (not-true _ h) same
