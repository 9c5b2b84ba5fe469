use Rattle.std.proofs.Common.{◌≡◌, ◌<◌, ◌≤◌, ℕ, None, length, slice_index_or}
use Rattle.conc_board.specs.Seats.{IsLeadOf, plan_of, posts_of_lead, SameLeadStates, SameSwitches}
use Rattle.conc_run_workers.specs.Crews.{Covers, IsFreeMember}
use Rattle.conc_run_workers.specs.declared.crew.CrewMember.{CrewMember}
use Rattle.conc_run_workers.proofs.crew.take_in.Given as goal

abbrev pub invariant-loop-index : goal.invariant-loop-index
invariant-loop-index l = record {
  lead : IsLeadOf l.board l.lead;
  lead_states : SameLeadStates l.initial.lead l.lead;
  switches : SameSwitches l.initial.lead l.lead;
  posts : posts_of_lead l.lead ≡ posts_of_lead l.initial.lead;
  all : l.index-end ≡ length l.initial.crew;
  long : length l.crew ≡ length l.initial.crew;
  free : (i : ℕ) (d : CrewMember) → l.index ≤ i → i < length l.initial.crew → IsFreeMember l.board (slice_index_or l.crew i d);
  gone : (i : ℕ) (d : CrewMember) → i < l.index → (slice_index_or l.crew i d).hand ≡ None;
  covers : Covers (plan_of l.board) l.lead l.crew;
  lists : (i : ℕ) (d : CrewMember) → i < length l.initial.crew → (slice_index_or l.crew i d).places.items ≡ (slice_index_or l.initial.crew i d).places.items;
}
