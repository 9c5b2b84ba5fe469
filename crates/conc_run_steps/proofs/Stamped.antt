-- The stamp of an event that is added to a journal, which keeps it one of the same input.
use Rattle.std.proofs.Common.{◌≡◌, ℕ, suc, ◌+◌, ◌<◌, List, [], ◌∷◌, ◌++◌, length, map, reverse, None, Option, Some, refl, sym, ◌∙◌, ap, subst, inl, inr, true, arith}
use Rattle.std.specs.Prelude.{get_or, unwrap_or, ⊤}
use Rattle.std.specs.List.{enumerate_from, filter_map}
use Rattle.std.proofs.lemmas.List.{map-append}
use Rattle.std.proofs.lemmas.List.Elements.{filter_map-append}
use Rattle.std.proofs.lemmas.Option.{slice_get-get_or}
use Rattle.conc_types.specs.declared.digests.Digests.{Digests}
use Rattle.conc_types.specs.declared.event.Event.{Event}
use Rattle.conc_types.specs.declared.event.Event.TheVariants as event
use Rattle.conc_types.specs.declared.plan.Plan.{Plan}
use Rattle.conc_types.specs.declared.script.Order.{Order}
use Rattle.conc_types.specs.Plans.{stamp}
use Rattle.conc_base_law.specs.Law.{Lawful, may_follow}
use Rattle.conc_base_law.specs.Words.{Has}
use Rattle.conc_base_law.proofs.Due.{command_undone}
use Rattle.conc_base_law.proofs.Numbering.{numbered-at}
use Rattle.conc_journal_image.specs.Fields.{command_stamp}
use Rattle.conc_journal_image.specs.declared.label.Label.{Label}
use Rattle.conc_journal_image.specs.declared.label.Version.{Version}
use Rattle.conc_journal_image.specs.declared.label.Version.TheVariants.{One, Two}
use Rattle.conc_run_state.specs.Machines.{readings_of}
use Rattle.conc_run_state.specs.Inputs.{AreStampsOf, command_of, IsOfInput, NamesInput}
use Rattle.conc_run_state.specs.Works.{list_in}
use Rattle.conc_run_state.specs.declared.work.Work.{Work}
use Rattle.conc_run_state.specs.Adding.{stamp_for}
use Rattle.conc_run_steps.specs.Steps.{plan_in, readings_in}
use Rattle.conc_run_steps.proofs.Coming.{last-follows, lawful-past}

-- a command is one of the plan, and this is its stamp
abbrev pub HasStamp : Plan → Event → ℕ → Type 0
HasStamp plan (event.Command number) s = stamp plan number ≡ Some s
HasStamp plan e s = ⊤

-- ---- the commands and their stamps

added-stamp : (plan : Plan) (e : Event) (s : ℕ) → HasStamp plan e s → map (stamp plan) (filter_map command_of (e ∷ [])) ≡ map Some (command_stamp e s)
added-stamp plan (event.Command number) s is = ap (λ o. o ∷ []) is
added-stamp plan _ s is = refl

stamps-more : (plan : Plan) (events : List Event) (stamps : List ℕ) (e : Event) (s : ℕ) → HasStamp plan e s → AreStampsOf plan events stamps → AreStampsOf plan (events ++ e ∷ []) (stamps ++ command_stamp e s)
stamps-more plan events stamps e s is these =
    ap (map (stamp plan)) (filter_map-append command_of events (e ∷ []))
    ∙ map-append (stamp plan) (filter_map command_of events) (filter_map command_of (e ∷ []))
    ∙ ap (λ l. l ++ map (stamp plan) (filter_map command_of (e ∷ []))) these
    ∙ ap (λ l. map Some stamps ++ l) (added-stamp plan e s is)
    ∙ sym (map-append Some stamps (command_stamp e s))

names-more : (version : Version) (plan : Plan) (digests : Digests) (label : Label) (events : List Event) (stamps : List ℕ) (e : Event) (s : ℕ) → HasStamp plan e s
    → NamesInput version plan digests label events stamps → NamesInput version plan digests label (events ++ e ∷ []) (stamps ++ command_stamp e s)
names-more One plan digests label events stamps e s is names = names
names-more Two plan digests label events stamps e s is (base, these) = (base, stamps-more plan events stamps e s is these)

-- a journal of an input with an event more, and with its stamp where it is a command, is one of the input
pub of-input-more : (plan : Plan) (digests : Digests) (label : Label) (events : List Event) (stamps : List ℕ) (e : Event) (s : ℕ) → HasStamp plan e s
    → IsOfInput plan digests label events stamps → IsOfInput plan digests label (events ++ e ∷ []) (stamps ++ command_stamp e s)
of-input-more plan digests label = names-more label.version plan digests label

-- ---- a command that comes is one of the plan

numbered-from : (n : ℕ) (orders : List Order) (x : ℕ × Order) → Has (enumerate_from n orders) x → (k : ℕ) × (x.0 ≡ n + k) × (k < length orders)
numbered-from n [] x here = absurd here
numbered-from n (order ∷ orders) x (inl same) = (0, ap (λ z. z.0) same ∙ omega arith, omega arith)
numbered-from n (order ∷ orders) x (inr later) = let p = numbered-from (n + 1) orders x later in (suc p.0, omega (arith, p.1), omega (arith, p.2))

or-zero : (o : Option ℕ) (s : ℕ) → o ≡ Some s → o ≡ Some (unwrap_or o 0)
or-zero None s is = cc
or-zero (Some x) s is = refl

follows-stamped : (plan : Plan) (past : List Event) (e : Event) → may_follow plan None past e ≡ true → HasStamp plan e (stamp_for plan e)
follows-stamped plan past (event.Command number) may =
    let undone = command_undone plan None past number may in
    let at = numbered-from 1 plan.script.commands undone.order undone.element in
    let there = slice_get-get_or plan.stamps at.0 0 (omega (arith, at.2, plan.stamped)) in
    or-zero (stamp plan number) (get_or plan.stamps at.0 0) (numbered-at plan.stamps number at.0 (sym undone.number ∙ at.1) ∙ there)
follows-stamped plan past _ may = tt

-- so an event that is added lawfully has the stamp with which it is journaled
pub lawful-stamped : (work : Work) (e : Event) (s : ℕ) → s ≡ stamp_for (plan_in work) e → readings_of work.machine ≡ Some (readings_in work) → Lawful (plan_in work) (readings_in work) (list_in work ++ e ∷ [])
    → HasStamp (plan_in work) e s
lawful-stamped work e s is known lawful =
    let past = lawful-past (plan_in work) work.machine (readings_in work) (list_in work ++ e ∷ []) known lawful in
    subst (HasStamp (plan_in work) e) (sym is) (follows-stamped (plan_in work) (reverse (list_in work)) e (last-follows (plan_in work) (list_in work) e past))
