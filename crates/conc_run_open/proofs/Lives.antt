-- The beginning of a life.
use Rattle.std.proofs.Common.{◌≡◌, ◌==◌, ℕ, ◌+◌, ◌≤◌, true, false, not, Result, Ok, Err, OnOk, List, [], ◌∷◌, ◌++◌, length, reverse, take, drop, Option, IfSome, refl, sym, ◌∙◌, ap, subst, arith}
use Rattle.std.proofs.lemmas.Bool.{and_from, eqb-true}
use Rattle.std.proofs.lemmas.List.{drop-take, length-reverse, take-take}
use Rattle.conc_types.specs.declared.event.Event.{Event}
use Rattle.conc_types.specs.declared.event.Event.TheVariants as event
use Rattle.conc_types.specs.declared.plan.Plan.{Plan}
use Rattle.conc_types.specs.declared.script.Reading.{Reading}
use Rattle.conc_types.specs.Words.{is_empty}
use Rattle.conc_base_law.specs.Alone.{opening}
use Rattle.conc_base_law.specs.Law.{is_lawful, Lawful, may_follow, LawfulSoFar}
use Rattle.conc_base_law.specs.Next.{may_come}
use Rattle.conc_base_law.specs.Before.{last_life}
use Rattle.conc_base_law.specs.State.{state, used}
use Rattle.conc_base_law.proofs.Positions.{is_empty-long, reverse-push}
use Rattle.conc_restart.specs.Machines.{Machine, StandsFor}
use Rattle.conc_disk.specs.Disk.{DiskState, Stays}
use Rattle.conc_disk.specs.Left.{EachImage}
use Rattle.conc_disk.proofs.Leaving.{if_some-both}
use Rattle.conc_restart.specs.Need.{IsOfOneLife}
use Rattle.conc_journal_spool.specs.Spools.{Agrees}
use Rattle.conc_run_state.specs.Judging.{EndWithin}
use Rattle.conc_run_state.specs.Stored.{AreStored, IsStored}

-- ---- the resume

-- the events found with the resume, the latest first
pub opening-past : (e : Event) (es : List Event) → reverse (opening (e ∷ es)) ≡ event.Resume ∷ reverse (e ∷ es)
opening-past e es = reverse-push (e ∷ es) event.Resume

-- the life has no event yet but its resume
pub life-empty : (found : List Event) → last_life (reverse (opening found)) ≡ []
unfolding last_life
life-empty [] = refl
life-empty (e ∷ es) = ap last_life (opening-past e es)

-- a resume may follow events that are lawful
pub opening-lawful : (plan : Plan) (readings : List Reading) (found : List Event) → LawfulSoFar plan found → Lawful plan readings (opening found)
unfolding is_lawful may_follow may_come state
opening-lawful plan readings [] so_far = refl
opening-lawful plan readings (e ∷ es) so_far =
    let some : is_empty (reverse (e ∷ es)) ≡ false = is_empty-long (reverse (e ∷ es)) (omega (arith, length-reverse (e ∷ es))) in
    ap (is_lawful plan readings) (opening-past e es) ∙ and_from _ _ so_far (ap not some)

-- a resume has no extent
pub opening-used : (found : List Event) → used (reverse (opening found)) ≡ used (reverse found)
unfolding used
opening-used [] = refl
opening-used (e ∷ es) = ap used (opening-past e es)

-- one event is added, or none
pub opening-lives : (found : List Event) → (life : List Event) × (opening found ≡ found ++ life) × IsOfOneLife life
opening-lives [] = ([], refl, tt)
opening-lives (e ∷ es) = (event.Resume ∷ [], refl, refl)

-- ---- texts

-- bytes that agree so far have the same texts there
same-text : (used at n : ℕ) (bytes image : List ℕ) → Agrees used bytes image → at + n ≤ used → take n (drop at image) ≡ take n (drop at bytes)
same-text used at n bytes image agrees within =
    let one : take (at + n) image ≡ take (at + n) bytes = sym (take-take (at + n) used image within) ∙ ap (take (at + n)) agrees.front ∙ take-take (at + n) used bytes within in
    sym (drop-take at n image) ∙ ap (drop at) one ∙ drop-take at n bytes

-- texts that were held are held by each image that agrees
pub still-stored : (plan : Plan) (n used : ℕ) (events : List Event) (bytes image : List ℕ) → EndWithin used events → Agrees used bytes image → AreStored plan n events bytes → AreStored plan n events image
still-stored plan n used events bytes image within agrees stored = λ i id o x from here.
    let was : IsStored plan bytes id o x = stored i id o x from here in
    record {
      report = was.report;
      text = was.text ∙ sym (same-text used x.offset x.length bytes image agrees (within i id o x here));
    }

-- on a disk that stays
pub disk-stored : (plan : Plan) (n used : ℕ) (events : List Event) (old new : DiskState) → Stays old new → EndWithin used events → IfSome new.seen (λ bytes. (image : List ℕ) → new.may_leave image → Agrees used bytes image)
    → IfSome old.seen (AreStored plan n events) → EachImage (AreStored plan n events) new
disk-stored plan n used events old new stays within on stored =
    if_some-both new.seen on (subst (λ (s : Option (List ℕ)). IfSome s (AreStored plan n events)) (sym stays.seen) stored)
    (λ bytes agree here image left. still-stored plan n used events bytes image within (agree image left) here)

-- ---- the machine

-- it stands for the events with the resume, where there are any
pub stands-resumed : (found : List Event) (machine : Machine) → (length found == 0) ≡ false → StandsFor machine (event.Resume ∷ reverse found) → StandsFor machine (reverse (opening found))
stands-resumed [] machine some stands = absurd (cc)
stands-resumed (e ∷ es) machine some stands = subst (StandsFor machine) (sym (opening-past e es)) stands

pub stands-alone : (found : List Event) (machine : Machine) → (length found == 0) ≡ true → StandsFor machine (reverse found) → StandsFor machine (reverse (opening found))
stands-alone [] machine none stands = stands
stands-alone (e ∷ es) machine none stands = absurd (omega (arith, eqb-true (length (e ∷ es)) 0 none))

-- what follows where a call did what it was to do
pub on-ok : {T E : Type 0} (r : Result T E) {P Q : Type 0} → OnOk r P → (P → Q) → OnOk r Q
on-ok (Ok x) p q = q p
on-ok (Err e) p q = tt
