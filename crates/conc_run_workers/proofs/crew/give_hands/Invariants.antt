use Rattle.std.proofs.Common.{◌≡◌, ◌<◌, ◌≤◌, ◌%◌, ℕ, true, length, slice_index_or}
use Rattle.conc_types.specs.declared.event.PlaceId.{PlaceId}
use Rattle.conc_board.specs.Seats.{IsLeadOf, places_of_lead, plan_of, SameLeadStates}
use Rattle.conc_pool_seats.specs.Places.{has}
use Rattle.conc_pool_seats.specs.Words.{IsPlace}
use Rattle.conc_run_workers.specs.Crews.{AreDealt, IsFreeMember, places_had}
use Rattle.conc_run_workers.specs.declared.crew.CrewMember.{CrewMember}
use Rattle.conc_run_workers.proofs.crew.give_hands.Given as goal

abbrev pub invariant-loop-index : goal.invariant-loop-index
invariant-loop-index l = record {
  lead : IsLeadOf l.board l.lead;
  lead_states : SameLeadStates l.initial.lead l.lead;
  all : l.index-end ≡ length l.initial.crew;
  long : length l.crew ≡ length l.initial.crew;
  dealt : (i : ℕ) (d : CrewMember) → i < length l.initial.crew → AreDealt (plan_of l.board) (length l.initial.crew) i (slice_index_or l.crew i d).places.items;
  rest : (p : PlaceId) → IsPlace (plan_of l.board) p → l.index ≤ p.index % length l.initial.crew → has (places_of_lead l.lead) p ≡ true;
  free : (i : ℕ) (d : CrewMember) → i < l.index → IsFreeMember l.board (slice_index_or l.crew i d);
  own : (i : ℕ) (d : CrewMember) → i < l.index → places_had (slice_index_or l.crew i d).hand ≡ (slice_index_or l.crew i d).places.items;
  lists : (i : ℕ) (d : CrewMember) → i < length l.initial.crew → (slice_index_or l.crew i d).places.items ≡ (slice_index_or l.initial.crew i d).places.items;
  passes : (i : ℕ) (d : CrewMember) → i < length l.initial.crew → (slice_index_or l.crew i d).pass ≡ (slice_index_or l.initial.crew i d).pass;
}
