use Rattle.std.proofs.Common.{◌≡◌, ◌∙◌, ◌++◌, ◌∷◌, [], List, reverse, subst, sym, true}
use Rattle.conc_types.specs.declared.event.Event.{Event}
use Rattle.conc_journal.specs.Journals.{list_of as journal_list}
use Rattle.conc_base_law.specs.Law.{LawfulSoFar, may_follow}
use Rattle.conc_machine.specs.StandsFor.{plan_of, readings_of}
use Rattle.conc_view.specs.Publisher.{list_of, told_plan}
use Rattle.conc_test_view.specs.Follows.{Follows}
use Rattle.conc_test_view.proofs.Following.{follows_more, lawful_more, next_of}
use Rattle.conc_test_view.proofs.tests.telling.tell.Goals as goal

pub tell-requires : goal.tell-requires
tell-requires g c =
    let machine = c.args.machine.now in let list = journal_list c.args.journal.now in let e = c.args.event in let made = c.in-Ok.ensures in
    let may : may_follow (plan_of machine) (readings_of machine) (reverse list) e ≡ true =
    sym (c.judge.ensures (reverse list) c.requires.follows.stands) ∙ c.if-not-judge.false in
    next_of (list_of c.args.publisher.now) list (journal_list c.append.new.self) c.in-Ok.receipt.number e c.in-Ok.receipt.event
    (λ events. LawfulSoFar (told_plan c.args.publisher.now) events) c.requires.list made.appended made.number made.event
    (c.requires.takes (list ++ e ∷ []) (lawful_more machine list e c.requires.follows may))

pub returns-clause-follows : goal.returns-clause-follows
returns-clause-follows g c =
    let machine = c.args.machine.now in let new = c.apply.new.self in let list = journal_list c.args.journal.now in let e = c.args.event in
    let may : may_follow (plan_of machine) (readings_of machine) (reverse list) e ≡ true =
    sym (c.judge.ensures (reverse list) c.requires.follows.stands) ∙ c.if-not-judge.false in
    subst (λ (events : List Event). Follows new events) (sym c.in-Ok.ensures.appended)
    (follows_more machine new list e c.requires.follows may c.apply.ensures.plan c.apply.ensures.readings (c.apply.ensures.stands (reverse list) c.requires.follows.stands))
