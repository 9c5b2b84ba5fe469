use Rattle.std.proofs.Common.{rules, subst}
use Rattle.conc_types.specs.declared.plan.Plan.{Plan}
use Rattle.conc_pool_seats.specs.Words.{IsRequest}
use Rattle.conc_run_desk.proofs.Stopping.{starts_no_terminate}
use Rattle.conc_run_desk.proofs.following.follow.Goals as goal

pub go-requires-clause-request : goal.go-requires-clause-request
go-requires-clause-request c =
    subst (λ (p : Plan). IsRequest p c.in-Started.request) c.requires.plan (c.requires.start c.in-Started.request c.in-Started.place c.in-Started.is).0

pub returns-in-Started-clause-follows : goal.returns-in-Started-clause-follows
returns-in-Started-clause-follows c = record {
  lead_states = search rules;
  stops = λ r terminates. absurd (starts_no_terminate c.args.plan.now c.in-Started.request c.in-Started.place c.args.event c.in-Started.is r terminates);
  places = search rules;
  switches = search rules;
  posts = search rules;
}
