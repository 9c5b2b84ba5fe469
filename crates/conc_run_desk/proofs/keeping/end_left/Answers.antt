use Rattle.std.proofs.Common.{◌≡◌, true, false, reverse, Some, refl, sym, ◌∙◌, ap, subst, arith}
use Rattle.std.specs.Option.{option_copied}
use Rattle.conc_types.specs.declared.plan.Plan.{Plan}
use Rattle.conc_base_law.specs.Law.{is_lawful_so_far}
use Rattle.conc_run_choice.proofs.Parts.{stored_next}
use Rattle.conc_run_state.specs.Works.{list_in}
use Rattle.conc_run_steps.specs.Steps.{plan_in, readings_in}
use Rattle.conc_run_steps.proofs.Coming.{lawful-past}
use Rattle.conc_run_desk.specs.Keeping.{must_stop}
use Rattle.conc_run_desk.proofs.Ends.{found_by_number, is_there, its_good, report_is, reported_is, stopped}
use Rattle.conc_run_desk.proofs.keeping.end_left.Goals as goal

pub unreachable-requires : goal.unreachable-requires
unreachable-requires c =
    is_there c.args.plan.now (reverse (list_in c.args.work.now)) c.args.r c.args.posted c.requires.left (sym c.request.ensures ∙ ap option_copied c.in_default.is)

pub reported_end-requires : goal.reported_end-requires
reported_end-requires c =
    let good = its_good c.args.plan.now (reverse (list_in c.args.work.now)) c.args.r c.args.posted c.requires.left c.in-Text.made c.in-Text.is in
    omega (arith, good.short)

pub unreachable-requires-in-Stopped : goal.unreachable-requires-in-Stopped
unreachable-requires-in-Stopped c =
    let past = reverse (list_in c.args.work.now) in
    let goes : must_stop c.args.plan.now past c.args.r ≡ false =
    ap (λ (p : Plan). must_stop p past c.args.r) c.requires.plan ∙ sym (c.must_stop.ensures past c.requires.tied.stands) ∙ c.if-must_stop.false in
    stopped c.args.plan.now past c.args.r c.args.posted c.requires.left c.in-Stopped.is goes

pub returns-in-Text-clause-event : goal.returns-in-Text-clause-event
returns-in-Text-clause-event c =
    let work = c.args.work.now in
    let plan = c.args.plan.now in
    let past = reverse (list_in work) in
    let tied = c.requires.tied in
    let goes : must_stop plan past c.args.r ≡ false =
    ap (λ (p : Plan). must_stop p past c.args.r) c.requires.plan ∙ sym (c.must_stop.ensures past tied.stands) ∙ c.if-must_stop.false in
    let lawful = lawful-past (plan_in work) work.machine (readings_in work) (list_in work) tied.readings_are tied.lawful in
    reported_is plan past c.args.r c.args.posted c.requires.left c.in-Text.made c.in-Some.request.now c.in-Text.is (sym c.request.ensures ∙ ap option_copied c.in-Some.is)
    c.used.result c.reported_end.result.event goes (subst (λ (p : Plan). is_lawful_so_far p past ≡ true) (sym c.requires.plan) lawful) (c.used.ensures ∙ tied.used_is) c.reported_end.ensures.event

pub returns-in-Text-clause-text : goal.returns-in-Text-clause-text
returns-in-Text-clause-text c =
    let plan = c.args.plan.now in
    let past = reverse (list_in c.args.work.now) in
    let named = sym c.request.ensures ∙ ap option_copied c.in-Some.is in
    let report = report_is plan past c.args.r c.args.posted c.requires.left c.in-Text.made c.in-Some.request.now c.in-Text.is named in
    let found = found_by_number plan past c.args.r c.args.posted c.requires.left c.in-Text.made c.in-Some.request.now c.in-Text.is named in
    stored_next plan c.in-Some.request.now c.in-Text.made c.used.result c.reported_end.result (Some c.in-Text.made) found (sym report) refl c.reported_end.ensures.event c.reported_end.ensures.text
