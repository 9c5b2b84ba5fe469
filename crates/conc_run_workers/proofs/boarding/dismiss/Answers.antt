use Rattle.std.proofs.Common.{◌∙◌, arith, subst}
use Rattle.conc_pool_seats.specs.LeadStates.{IsLet}
use Rattle.conc_board.proofs.Leads.{takes_twice}
use Rattle.conc_run_workers.proofs.Advancing.{moves-at, moves-twice}
use Rattle.conc_run_workers.proofs.boarding.dismiss.Goals as goal

pub returns : goal.returns
returns c = let finish = c.finish_all.ensures in record {
  moves = moves-twice (moves-at c.withdraw_all.ensures.stays) (record { at = finish.at; same = finish.same; places = finish.set.lead.places });
  posts = takes_twice c.args.desk.now.lead c.withdraw_all.new.desk.lead c.finish_all.new.self.lead c.withdraw_all.ensures.posts finish.set.lead.posts;
  same_open = record { each = λ p near. finish.set.others _ (λ e. omega (arith, e, near.within)) ∙ c.withdraw_all.ensures.stays.switches.each _ };
  dismissed = record {
    none_let = λ r named is. c.withdraw_all.ensures.none_let r named (subst IsLet (finish.set.lead.lead_states.each r) is);
    told = finish.set.set;
  };
}
