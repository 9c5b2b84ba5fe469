use Rattle.std.proofs.Common.{◌≡◌, ◌⊎◌, All, List, Some, inr, [], true, length, drop, sym, ◌∙◌, ap, subst, arith}
use Rattle.std.specs.Prelude.{IfSome, OnOk}
use Rattle.conc_types.specs.declared.plan.Plan.{Plan}
use Rattle.conc_board.specs.declared.lead.Lead.{Lead}
use Rattle.conc_board.specs.Seats.{places_of_lead, plan_of, posts_of_lead, switch_of}
use Rattle.conc_pool_seats.specs.Words.{count_of_requests, count_of_words}
use Rattle.conc_disk.specs.Disk.{DiskState}
use Rattle.conc_journal.specs.Journals.{state_of}
use Rattle.conc_base_law.specs.Law.{Finished}
use Rattle.conc_run_desk.specs.Desks.{HasOpenWhatIsUsable, IsAt}
use Rattle.conc_run_state.specs.Disks.{disks}
use Rattle.conc_run_state.specs.Works.{list_in}
use Rattle.conc_run_state.specs.declared.work.Work.{Work}
use Rattle.conc_run_steps.specs.Going.{WentOn}
use Rattle.conc_run_steps.specs.Steps.{plan_in, readings_in}
use Rattle.conc_run_steps.specs.Told.{IsTold, IsUntold}
use Rattle.conc_run_steps.proofs.Underway.{went-still}
use Rattle.conc_run_workers.specs.Crews.{Covers, IsCrewFor, IsFreeMember, IsTakenIn, SameLists}
use Rattle.conc_run_workers.specs.declared.crew.CrewMember.{CrewMember}
use Rattle.conc_run_workers.specs.Resolvers.{standing}
use Rattle.conc_run_workers.specs.Resolving.{IsDismissed}
use Rattle.conc_run_workers.specs.Pools.{IsShutDown}
use Rattle.conc_run_workers.specs.Runs.{LacksReport}
use Rattle.conc_run_workers.proofs.Advancing.{short-first}
use Rattle.conc_run_workers.proofs.Pools.{dismissed-still, opened-still, short-by}
use Rattle.conc_run_workers.proofs.Outcomes.{either-way}
use Rattle.conc_run_workers.proofs.Crews.{covers-same, crew-same, crew-wider, front-whole, if-some, lists-after}
use Rattle.conc_pool_lanes.specs.Puts.{lists_for}
use Rattle.conc_pool_lanes.proofs.Lists.{lists_for-none}
use Rattle.conc_run_workers.proofs.Filled.{puts-by}
use Rattle.conc_run_workers.proofs.running.+run_with_workers.Goals as goal

pub returns-in_default-clause-went_on : goal.returns-in_default-clause-went_on
returns-in_default-clause-went_on g t c =
    subst (λ (w : Work). WentOn (plan_in c.args.work) (readings_in c.args.work) (disks (g.D.Disk.state c.args.journal.now) (g.D.Disk.state c.args.journal.now) (g.E.Disk.state c.args.spool.now) (g.E.Disk.state c.args.spool.now)) c.args.work w)
    (sym c.out_of_memory.ensures.work)
    (went-still c.args.work (g.D.Disk.state c.args.journal.now) (g.E.Disk.state c.args.spool.now) c.requires.ready ((g.met.E.Disk g.world.𝓛 g.world.𝓜 g.world.𝓡 ((λ s x. x), (λ x. x), (λ x. x), λ x. x)).seen_is_left c.args.spool.now))

-- ---- the lanes

pub put_waiting-requires-clause-empty : goal.put_waiting-requires-clause-empty
put_waiting-requires-clause-empty g t c =
    c.in-Ok.ensures.empty
    ∙ (sym (lists_for-none c.plan-plan.result.now) ∙ ap (λ (p : Plan). lists_for p []) (c.plan-plan.ensures ∙ sym (ap (λ (w : Work). plan_in w) c.new-desk.ensures.work)))

-- ---- the workers

pub take_in-requires-clause-free : goal.take_in-requires-clause-free
take_in-requires-clause-free g t c = subst (λ (ws : List CrewMember). All (IsFreeMember c.in-Ok.means.shared.board) ws) (sym c.as_mut_slice.ensures.value) c.resolve_beside-directed.ensures.crew.0

pub take_in-requires-clause-dismissed : goal.take_in-requires-clause-dismissed
take_in-requires-clause-dismissed g t c =
    let made = c.resolve_beside-directed.ensures in
    subst (λ (l : Lead). IsDismissed c.in-Ok.means.shared.board l) (sym (ap (λ z. z.0) c.into_parts-lead.ensures.parts))
    (either-way _ _ c.resolve_beside-directed.result made.concludes made.waited (λ a ends. ends.dismissed) (λ here waits. waits.0.dismisses.dismissed))

pub take_in-requires-clause-lead : goal.take_in-requires-clause-lead
take_in-requires-clause-lead g t c =
    let made = c.resolve_beside-directed.ensures in let parts = c.into_parts-lead.ensures.parts in let seated = c.into_parts-lead.ensures.seated in
    let at : IsAt c.in-Ok.means.shared.board c.resolve_beside-directed.new.desk = either-way _ _ c.resolve_beside-directed.result made.concludes made.waited (λ a ends. ends.at) (λ here waits. waits.0.dismisses.moves.at) in
    let same : plan_in c.into_parts-lead.result.1 ≡ plan_of c.in-Ok.means.shared.board = ap (λ z. plan_in z.1) parts ∙ sym at.plan in record {
      seat = ap (λ z. z.0.seat.table_id) parts ∙ at.seat;
      plan = seated.knows ∙ ap (λ (p : Plan). Some p) same;
      lead_states = seated.lead_states ∙ ap (λ (p : Plan). count_of_requests p) same;
      settled = seated.settled;
      switches = seated.switches ∙ ap (λ (p : Plan). count_of_words p) same;
    }

pub take_in-requires-clause-covers : goal.take_in-requires-clause-covers
take_in-requires-clause-covers g t c =
    let made = c.resolve_beside-directed.ensures in
    let us = c.resolve_beside-directed.new.crew.members.items in let ws = c.in-Ok.means.crew.items in let lead' = c.into_parts-lead.result.0 in
    let stays : places_of_lead c.resolve_beside-directed.new.desk.lead ≡ places_of_lead c.new-desk.result.lead =
    either-way _ _ c.resolve_beside-directed.result made.concludes made.waited (λ a ends. ends.places) (λ here waits. waits.0.dismisses.moves.places) in
    let places = ap (λ z. places_of_lead z.0) c.into_parts-lead.ensures.parts ∙ stays ∙ ap (λ (l : Lead). places_of_lead l) c.new-desk.ensures.lead in
    let covers = subst (λ (p : Plan). Covers p c.in-Ok.means.lead ws) (sym c.in-Ok.ensures.plan ∙ c.in-Ok.ensures.one_plan.0) c.in-Ok.ensures.covers in
    subst (λ (l : List CrewMember). Covers (plan_of c.in-Ok.means.shared.board) lead' l) (sym c.as_mut_slice.ensures.value)
    (covers-same (plan_of c.in-Ok.means.shared.board) c.in-Ok.means.lead lead' ws us places c.resolve_beside-directed.ensures.crew.1 covers)

-- ---- what a run made that began

pub returns-in-Ended-clause-went_on : goal.returns-in-Ended-clause-went_on
returns-in-Ended-clause-went_on g t c =
    let ended = c.in-Ended.ensures.concludes in
    let d = disks (g.D.Disk.state c.args.journal.now) (g.D.Disk.state c.resolve_beside-directed.new.journal) (g.E.Disk.state c.args.spool.now) (g.E.Disk.state c.resolve_beside-directed.new.spool) in
    subst (λ (z : Work × Work). WentOn (plan_in z.0) (readings_in z.0) d z.0 z.1) (λ i. (c.new-desk.ensures.work i, sym (ap (λ z. z.1) c.into_parts-lead.ensures.parts) i)) ended.went

pub returns-in-Ended-clause-finished : goal.returns-in-Ended-clause-finished
returns-in-Ended-clause-finished g t c =
    let ended = c.in-Ended.ensures.concludes in
    subst (λ (z : Work × Work). OnOk c.in-Ended.answer (Finished (plan_in z.0) (readings_in z.0) (list_in z.1)))
    (λ i. (c.new-desk.ensures.work i, sym (ap (λ z. z.1) c.into_parts-lead.ensures.parts) i)) ended.finished

pub returns-in-Ended-clause-told : goal.returns-in-Ended-clause-told
returns-in-Ended-clause-told g t c =
    let ended = c.in-Ended.ensures.concludes in
    let told = g.T.Teller.list c.resolve_beside-directed.new.teller in let takes = g.T.Teller.takes c.resolve_beside-directed.new.teller in
    subst (λ (z : Work × Work). OnOk c.in-Ended.answer (IsTold told takes (plan_in z.0) (list_in z.1)))
    (λ i. (c.new-desk.ensures.work i, sym (ap (λ z. z.1) c.into_parts-lead.ensures.parts) i)) ended.is_told

pub returns-in-Ended-clause-journal_fault : goal.returns-in-Ended-clause-journal_fault
returns-in-Ended-clause-journal_fault g t c = λ is.
    c.in-Ended.ensures.concludes.journal_fault is

pub returns-in-Ended-clause-spool_fault : goal.returns-in-Ended-clause-spool_fault
returns-in-Ended-clause-spool_fault g t c = λ is.
    c.in-Ended.ensures.concludes.spool_fault is

pub returns-in-Ended-clause-memory : goal.returns-in-Ended-clause-memory
returns-in-Ended-clause-memory g t c = λ is.
    let ended = c.in-Ended.ensures.concludes in
    let told = g.T.Teller.list c.resolve_beside-directed.new.teller in let lacks = g.T.Teller.may_lack c.resolve_beside-directed.new.teller in let lead = c.take_in.new.lead in
    let kept : posts_of_lead lead ≡ posts_of_lead c.resolve_beside-directed.new.desk.lead = c.take_in.ensures.posts ∙ ap (λ z. posts_of_lead z.0) c.into_parts-lead.ensures.parts in
    subst (λ (z : Work × Work). (list_in z.1 ≡ list_in z.0) ⊎ (LacksReport (plan_in z.0) (list_in z.1) lead ⊎ ((lacks ≡ true) × IsUntold told (list_in z.1))))
    (λ i. (c.new-desk.ensures.work i, sym (ap (λ z. z.1) c.into_parts-lead.ensures.parts) i))
    (inr (short-by kept (short-first (standing g.D.Disk g.E.Disk g.T.Teller c.new-desk.result c.args.journal.now c.args.spool.now c.args.teller.now)
    (standing g.D.Disk g.E.Disk g.T.Teller c.resolve_beside-directed.new.desk c.resolve_beside-directed.new.journal c.resolve_beside-directed.new.spool c.resolve_beside-directed.new.teller)
    ended.went (ended.memory is))))

pub returns-in-Ended-clause-sound : goal.returns-in-Ended-clause-sound
returns-in-Ended-clause-sound g t c = λ none.
    let ended = c.in-Ended.ensures.concludes in
    ap (λ z. state_of z.1.journal) c.into_parts-lead.ensures.parts ∙ ended.sound none ∙ ap (λ (w : Work). state_of w.journal) c.new-desk.ensures.work

pub returns-in-Ended-clause-puts : goal.returns-in-Ended-clause-puts
returns-in-Ended-clause-puts g t c =
    let left = c.in-Ended.ensures.fills in
    puts-by c.in-Ended.answer c.in-Ok.means.shared.lanes (plan_in c.args.work) (list_in c.args.work) c.resolve_beside-directed.new.desk c.resolve_beside-directed.new.hints.pass c.into_parts-lead.result.1
    (ap (λ z. z.1) c.into_parts-lead.ensures.parts) (c.in-Ok.ensures.one_plan.1 ∙ (c.in-Ok.ensures.plan ∙ c.plan-plan.ensures)) (left.begun_with ∙ c.new-desk.ensures.begun_with) left.filled

pub returns-in-Ended-clause-shut_down : goal.returns-in-Ended-clause-shut_down
returns-in-Ended-clause-shut_down g t c =
    let made = c.take_in.ensures in let members = c.resolve_beside-directed.new.crew.members in let us = c.take_in.new.crew in
    let lists : SameLists members.items us = subst (λ (l : List CrewMember). SameLists l us) c.as_mut_slice.ensures.value made.lists in
    let front = front-whole us (drop (length us) members.items) members.len (omega (arith, lists.long, members.ok)) in record {
      made_for = sym c.in-Ok.ensures.one_plan.0 ∙ (c.in-Ok.ensures.plan ∙ c.plan-plan.ensures);
      lead = made.lead;
      dismissed = dismissed-still c.in-Ok.means.shared.board _ _ made.lead_states made.switches (subst (λ (l : Lead). IsDismissed c.in-Ok.means.shared.board l) (sym (ap (λ z. z.0) c.into_parts-lead.ensures.parts)) c.in-Ended.ensures.concludes.dismissed);
      taken_in = subst (λ (l : List CrewMember). All IsTakenIn l) front made.taken_in;
      places = made.all;
    }

pub returns-in-Ended-clause-opened : goal.returns-in-Ended-clause-opened
returns-in-Ended-clause-opened g t c =
    let ended = c.in-Ended.ensures.concludes in
    subst (λ (w : Work). OnOk c.in-Ended.answer (HasOpenWhatIsUsable c.in-Ok.means.shared.board c.take_in.new.lead w)) (sym (ap (λ z. z.1) c.into_parts-lead.ensures.parts))
    (opened-still c.in-Ok.means.shared.board _ _ _ c.in-Ended.answer (record { each = λ word. c.take_in.ensures.switches.each word ∙ ap (λ z. switch_of z.0 word) c.into_parts-lead.ensures.parts }) ended.opens)

pub returns-in-Ended-clause-crew : goal.returns-in-Ended-clause-crew
returns-in-Ended-clause-crew g t c =
    let members = c.resolve_beside-directed.new.crew.members in let us = c.take_in.new.crew in let ws = c.in-Ok.means.crew.items in
    let first : SameLists ws members.items = c.resolve_beside-directed.ensures.crew.2 in
    let second : SameLists members.items us = subst (λ (l : List CrewMember). SameLists l us) c.as_mut_slice.ensures.value c.take_in.ensures.lists in
    let count : length us ≡ members.len = omega (arith, second.long, members.ok) in
    let front = front-whole us (drop (length us) members.items) members.len count in
    subst (λ (l : List CrewMember). IsCrewFor (plan_in c.args.work) c.args.threads l) front
    (crew-same (plan_in c.args.work) c.args.threads ws us (lists-after ws members.items us first second)
    (subst (λ (p : Plan). IsCrewFor p c.args.threads ws) c.plan-plan.ensures c.in-Ok.ensures.crew_for))

pub returns-in-TooFew-clause-crew : goal.returns-in-TooFew-clause-crew
returns-in-TooFew-clause-crew g t c =
    let waited = c.in-TooFew.ensures.waited in
    let same : c.into_parts-lead.result.1 ≡ c.args.work = ap (λ z. z.1) c.into_parts-lead.ensures.parts ∙ waited.0.dismisses.moves.same.work ∙ c.new-desk.ensures.work in
    if-some _ _ c.run_with_workers.result.pool
    (λ pool fits. crew-wider (plan_in c.args.work) c.in-TooFew.here c.args.threads pool.crew.items (omega (arith, waited.0.fewer, c.in-Ok.ensures.expected))
    (subst (λ (w : Work). IsCrewFor (plan_in w) c.in-TooFew.here pool.crew.items) same fits))
    c.run_with_workers.ensures.crew

pub returns-in-TooFew-clause-shut_down : goal.returns-in-TooFew-clause-shut_down
returns-in-TooFew-clause-shut_down g t c =
    let waited = c.in-TooFew.ensures.waited in
    let same : c.into_parts-lead.result.1 ≡ c.args.work = ap (λ z. z.1) c.into_parts-lead.ensures.parts ∙ waited.0.dismisses.moves.same.work ∙ c.new-desk.ensures.work in
    subst (λ (w : Work). IfSome c.run_with_workers.result.pool (λ pool. IsShutDown (plan_in w) pool)) same c.run_with_workers.ensures.shut_down

-- ---- where no worker came

pub returns-clause-went_on : goal.returns-clause-went_on
returns-clause-went_on g t c =
    let waited = c.in-TooFew-2.ensures.waited in
    let same : c.into_parts-lead.result.1 ≡ c.args.work = ap (λ z. z.1) c.into_parts-lead.ensures.parts ∙ waited.0.dismisses.moves.same.work ∙ c.new-desk.ensures.work in
    let still = went-still c.args.work (g.D.Disk.state c.args.journal.now) (g.E.Disk.state c.args.spool.now) c.requires.ready ((g.met.E.Disk g.world.𝓛 g.world.𝓜 g.world.𝓡 ((λ s x. x), (λ x. x), (λ x. x), λ x. x)).seen_is_left c.args.spool.now) in
    subst (λ (z : DiskState × DiskState × Work). WentOn (plan_in c.args.work) (readings_in c.args.work) (disks (g.D.Disk.state c.args.journal.now) z.0 (g.E.Disk.state c.args.spool.now) z.1) c.args.work z.2)
    (λ i. (g.D.Disk.state (sym waited.1 i), g.E.Disk.state (sym waited.2 i), sym (c.out_of_memory-in-TooFew-2.ensures.work ∙ same) i)) still
