-- What the measurement rests on.
use Rattle.std.proofs.Common.{◌≡◌, ◌≢◌, ne_eqb, ℕ, zero, suc, ◌+◌, ◌<◌, ◌≤◌, ◌==◌, ◌&&◌, ◌||◌, not, Bool, true, false, true≢false, arith, List, [], ◌∷◌, Option, None, Some, sym, refl, ap, ◌∙◌, subst, lt_of_not-le}
use mathlib.Core.Logic.{dite}
use native.Mathlib.Decide.{ℕ_discrete, dec_le}
use Rattle.std.specs.List.{list_any, slice_get}
use Rattle.std.proofs.lemmas.Map.Keys.{any_passes_from_place}
use Rattle.conc_types.specs.declared.event.RequestId.{RequestId}
use Rattle.conc_types.specs.declared.item.Entry.{Entry}
use Rattle.conc_types.specs.declared.item.Item.{Item}
use Rattle.conc_types.specs.declared.item.Item.TheVariants as item
use Rattle.conc_types.specs.declared.plan.Plan.{Plan}
use Rattle.conc_types.specs.declared.plan.Req.{Req}
use Rattle.conc_types.specs.declared.program.Program.{Program}
use Rattle.conc_types.specs.declared.setup.Setup.{Setup}
use Rattle.conc_types.specs.Plans.{request}
use Rattle.conc_types.specs.Words.{some_and}
use Rattle.conc_base_law.specs.Exclusion.{entry_excludes, excludes, excludes_from, runs_alone}
use Rattle.conc_base_law.specs.Plans.{are_exclusive, parent_item}
use Rattle.conc_pool_seats.specs.declared.views.LeadState.{LeadState}
use Rattle.conc_pool_seats.specs.declared.views.LeadState.TheVariants.{NotLet}
use Rattle.conc_pool_seats.specs.Rule.{exclude}
use Rattle.conc_pool_seats.proofs.Facts.{request_eq}
use Rattle.conc_board.specs.declared.board.Board.{Board}
use Rattle.conc_board.specs.declared.lead.Lead.{Lead}
use Rattle.conc_board.specs.Seats.{IsLeadOf, SameLeadStates, lead_state_of}
use Rattle.conc_pool_seats.specs.Places.{has, without}
use Rattle.conc_types.specs.declared.event.PlaceId.{PlaceId}
use Rattle.conc_test_board.proofs.Rules.{has_without}
use Rattle.conc_test_bench_board.specs.Benches.{ExcludesNothing}
use Rattle.conc_test_bench_board.specs.Leads.{AreSo, IsFresh}

-- ---- exclusion

false_both : (a b : Bool) → a ≡ false → b ≡ false → a || b ≡ false
false_both true b e f = e
false_both false b e f = f

and_false : (a b : Bool) → b ≡ false → a && b ≡ false
and_false true b e = e
and_false false b e = refl

false_and : (a b : Bool) → a ≡ false → a && b ≡ false
false_and true b e = absurd (true≢false e)
false_and false b e = refl

none_passes : {A : Type 0} (test : A → Bool) (o : Option A) → ((y : A) → o ≡ Some y → test y ≡ false) → some_and test o ≡ false
none_passes test None h = refl
none_passes test (Some y) h = h y refl

pub not_true : (b : Bool) → not b ≡ true → b ≡ false
not_true true e = absurd (true≢false (sym e))
not_true false e = refl

is_false : (b : Bool) → (b ≡ true → ⊥) → b ≡ false
is_false true h = absurd (h refl)
is_false false h = refl

none_alone : (setup : Setup) (x : Item) → list_any (λ (p : Program). p.run_alone) setup.programs ≡ false → runs_alone setup x ≡ false
unfolding runs_alone
none_alone setup (item.Program n) none = none_passes (λ (p : Program). p.run_alone) (slice_get setup.programs n)
    (λ y e. is_false y.run_alone (λ is. true≢false (sym (any_passes_from_place (λ (p : Program). p.run_alone) setup.programs n y e is) ∙ none)))
none_alone setup (item.Set n) none = refl

none_from : (setup : Setup) (x y : Req) (parent : Option Item) → setup.entries ≡ [] → list_any (λ (p : Program). p.run_alone) setup.programs ≡ false → excludes_from setup x y parent ≡ false
unfolding excludes_from
none_from setup x y parent empty none = false_both _ _
    (ap (λ (es : List Entry). list_any (entry_excludes x y parent) es) empty)
    (false_and _ _ (none_alone setup x.item none))

none_exclusive : (plan : Plan) (x y : Req) → plan.setup.entries ≡ [] → list_any (λ (p : Program). p.run_alone) plan.setup.programs ≡ false → are_exclusive plan x y ≡ false
unfolding are_exclusive excludes
none_exclusive plan x y empty none = and_false _ _ (and_false _ _ (false_both _ _
    (none_from plan.setup x y (parent_item plan y) empty none)
    (none_from plan.setup y x (parent_item plan x) empty none)))

pub none_excluded : (plan : Plan) → plan.setup.entries ≡ [] → list_any (λ (p : Program). p.run_alone) plan.setup.programs ≡ false → ExcludesNothing plan
none_excluded plan empty none = record {
  each = λ r q. none_passes _ (request plan r) (λ x e. none_passes _ (request plan q) (λ y f. none_exclusive plan x y empty none));
}

-- ---- a lead's walk through the requests of a round

-- so many of the requests after this number are in such lead states, and those of the round that are left in others
pub record IsWithin (board : Board) (first count : ℕ) (IsSo IsYet : LeadState → Type 0) (lead : Lead) : Type 0 where
  pub of_board : IsLeadOf board lead
  pub so : (r : RequestId) → first < r.number → r.number ≤ first + count → IsSo (lead_state_of lead r)
  pub yet : (r : RequestId) → first + count < r.number → r.number ≤ first + 64 → IsYet (lead_state_of lead r)
  pub after : (r : RequestId) → first + 64 < r.number → lead_state_of lead r ≡ NotLet

-- a call on the next request
pub goes_on : (board : Board) (first count : ℕ) (IsSo IsYet : LeadState → Type 0) (r : RequestId) (old new : Lead)
    → r.number ≡ first + count + 1 → count < 64 → IsLeadOf board new
    → ((q : RequestId) → q ≢ r → lead_state_of new q ≡ lead_state_of old q) → IsSo (lead_state_of new r)
    → IsWithin board first count IsSo IsYet old → IsWithin board first (count + 1) IsSo IsYet new
goes_on board first count IsSo IsYet r old new is few lead others so w = record {
  of_board = lead;
  so = λ q above upto. dite (ℕ_discrete q.number r.number)
      (λ e. subst (λ (z : RequestId). IsSo (lead_state_of new z)) (sym (request_eq q r e)) so)
      (λ e. subst IsSo (sym (others q (λ (same : q ≡ r). e (ap (λ (z : RequestId). z.number) same)))) (w.so q above (omega arith)));
  yet = λ q above upto. subst IsYet (sym (others q (λ (same : q ≡ r). let n : q.number ≡ r.number = ap (λ (z : RequestId). z.number) same in omega arith))) (w.yet q (omega arith) upto);
  after = λ q above. others q (λ (same : q ≡ r). let n : q.number ≡ r.number = ap (λ (z : RequestId). z.number) same in omega arith) ∙ w.after q above;
}

-- before the walk and after it
pub begins_fresh : (board : Board) (first : ℕ) (IsSo : LeadState → Type 0) (lead : Lead) → IsFresh board first lead → IsWithin board first 0 IsSo (λ st. st ≡ NotLet) lead
begins_fresh board first IsSo lead f = record {
  of_board = f.of_board;
  so = λ r above upto. absurd (omega arith);
  yet = λ r above upto. f.after r (omega arith);
  after = λ r above. f.after r (omega arith);
}

pub begins : (board : Board) (first : ℕ) (IsSo IsYet : LeadState → Type 0) (lead : Lead) → AreSo board first IsYet lead → IsWithin board first 0 IsSo IsYet lead
begins board first IsSo IsYet lead a = record {
  of_board = a.of_board;
  so = λ r above upto. absurd (omega arith);
  yet = λ r above upto. a.so r (omega arith) upto;
  after = λ r above. a.after r above;
}

pub ends : (board : Board) (first count : ℕ) (IsSo IsYet : LeadState → Type 0) (lead : Lead) → count ≡ 64 → IsWithin board first count IsSo IsYet lead → AreSo board first IsSo lead
ends board first count IsSo IsYet lead all w = record {
  of_board = w.of_board;
  so = λ r above upto. w.so r above (omega arith);
  after = λ r above. w.after r above;
}

pub ends_fresh : (board : Board) (first count : ℕ) (IsSo IsYet : LeadState → Type 0) (lead : Lead) → IsWithin board first count IsSo IsYet lead → IsFresh board (first + 64) lead
ends_fresh board first count IsSo IsYet lead w = record { of_board = w.of_board; after = λ r above. w.after r above }

-- ---- places of the lead's

-- one passes on, and those after it stay
pub stay_own : (old new : List PlaceId) (i : ℕ) → new ≡ without old (record { index = i } ∷ []) → ((p : PlaceId) → i ≤ p.index → p.index < 64 → has old p ≡ true) → (p : PlaceId) → i + 1 ≤ p.index → p.index < 64 → has new p ≡ true
stay_own old new i is own p above few = ap (λ (ps : List PlaceId). has ps p) is
    ∙ has_without old (record { index = i } ∷ []) p (own p (omega arith) few) (ap (λ (b : Bool). b || false) (ne_eqb i p.index (λ e. omega arith)))

-- a lead whose lead states are the same is as far
pub fresh_still : (board : Board) (first : ℕ) (old new : Lead) → IsLeadOf board new → SameLeadStates old new → IsFresh board first old → IsFresh board first new
fresh_still board first old new lead same f = record { of_board = lead; after = λ r above. same.each r ∙ f.after r above }
