use Rattle.std.proofs.Common.{◌≡◌, ◌∙◌, ◌==◌, ◌∷◌, ◌++◌, [], ℕ, arith, ap, if◌then◌else◌, subst}
use Rattle.conc_pool_seats.specs.declared.views.LeadState.{LeadState}
use Rattle.conc_pool_seats.specs.LeadStates.{WordFits, marked}
use Rattle.conc_pool_seats.specs.Steps.{noted, with_lead_state}
use Rattle.conc_pool_seats.proofs.LeadSteps.{stops_by}
use Rattle.conc_board.proofs.Leads.{lead_state_there}
use Rattle.conc_board.proofs.StoppedSo.{exchanged, stop_changes, stop_found, stop_lead_state}
use Rattle.conc_board.proofs.board.Board.stop_at.Goals as goal

-- what the exchange left of the lead's view
left : (c : goal.After-running-2) → c.compare_exchange.new.seat.me.0 ≡ exchanged c.args.lead.now.seat.me.0 c.request_word.result c.args.place c.compare_exchange.result
left c = let v = c.args.lead.now.seat.me.0 in let i = c.request_word.result in let n = c.compare_exchange.result in
    let there = lead_state_there v.lead_states c.args.r i c.request_word.ensures c.requires.request.from_one ∙ c.requires.lead_state.1 in
    c.compare_exchange.ensures.2.0 ∙ (λ k. if n == c.running.ensures k then with_lead_state v i (marked (there k)) n else noted v i n)

pub compare_exchange-requires : goal.compare_exchange-requires
compare_exchange-requires c =
    let b = c.args.self.now in let q = c.requires.request in let word = c.request_word.ensures in
    let there = lead_state_there c.args.lead.now.seat.me.0.lead_states c.args.r c.request_word.result word q.from_one in (
      c.requires.lead.seat,
      omega (arith, b.words),
      stops_by b.table.shared.key _ _ _ c.request_word.result c.args.place c.requires.lead_state.0 _ _ c.running.ensures c.stopping.ensures c.args.lead.now.leads (omega arith)
          (there ∙ c.requires.lead_state.1),
    )

pub returns-clause-lead : goal.returns-clause-lead
returns-clause-lead c = stop_changes _ _ _ _ c.request_word.result c.args.place c.requires.lead_state.0 c.compare_exchange.result c.requires.lead c.requires.request c.request_word.ensures
    c.compare_exchange.ensures.0 c.requires.lead_state.1 (left c)

pub returns-clause-stopped : goal.returns-clause-stopped
returns-clause-stopped c =
    let v = c.args.lead.now.seat.me.0 in let i = c.request_word.result in let n = c.compare_exchange.result in let p = c.args.place in
    let answers = ap (λ (z : ℕ). n == z) c.running-2.ensures in
    let there = lead_state_there v.lead_states c.args.r i c.request_word.ensures c.requires.request.from_one ∙ c.requires.lead_state.1 in
    record {
      marked = c.requires.lead_state.0;
      exchanged = n;
      was = c.requires.lead_state.1;
      now = stop_lead_state c.args.self.now.table.shared.key c.args.r v c.compare_exchange.new.seat.me.0 i p c.requires.lead_state.0 n c.requires.lead.lead_states c.requires.request c.request_word.ensures c.requires.lead_state.1 (left c) (n == c.running-2.result) answers;
      answers = answers;
      fits = subst (λ (z : LeadState). WordFits z n) there c.compare_exchange.ensures.2.2;
      found = stop_found v c.compare_exchange.new.seat.me.0 i p n (left c) ∙ ap (λ (z : ℕ). v.found ++ (z, n) ∷ []) c.request_word.ensures;
    }
