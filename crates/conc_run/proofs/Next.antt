-- What a crash leaves is taken by the next run.
use Rattle.std.proofs.Common.{◌≡◌, ℕ, zero, suc, ◌∷◌, ◌++◌, List, map, Option, None, Some, sym, ◌∙◌, ap, subst, arith, inl, inr}
use Rattle.std.specs.Prelude.{IsFalse, IsTrue, replicate}
use Rattle.std.specs.List.{filter_map}
use Rattle.std.proofs.lemmas.List.{append_cancel_left, map-append}
use Rattle.std.proofs.lemmas.List.Elements.{filter_map-append}
use Rattle.conc_types.specs.Plans.{stamp}
use Rattle.conc_types.specs.declared.digests.Digests.{Digests}
use Rattle.conc_types.specs.declared.event.Event.{Event}
use Rattle.conc_types.specs.declared.event.Event.TheVariants as event
use Rattle.conc_types.specs.declared.plan.Plan.{Plan}
use Rattle.conc_journal_image.specs.declared.label.Label.{Label}
use Rattle.conc_journal_image.specs.declared.label.Version.{Version}
use Rattle.conc_journal_image.specs.declared.label.Version.TheVariants.{One, Two}
use Rattle.conc_journal.specs.Opens.{broken_of, events_of, label_of, may_open, stamps_of}
use Rattle.conc_base_law.specs.Law.{LawfulSoFar}
use Rattle.conc_base_law.proofs.Numbering.{numbered-at}
use Rattle.conc_restart.proofs.ReadSoFar.{bad-not_past}
use Rattle.conc_run_state.specs.Causes.{IsOther, IsOtherScript, told_for, told_in}
use Rattle.conc_run_state.specs.Handed.{IsOwnJournal}
use Rattle.conc_run_state.specs.Judging.{AreGood, EndsBeyond, EndWithin, IsBadRecord}
use Rattle.conc_run_state.specs.Inputs.{AreStampsOf, command_of, IsOfInput, IsOwn, MayBeOfInput, NamesInput}
use Rattle.conc_run_state.specs.Survival.{Survives}

-- the list is a beginning of a lawful one
pub left-good : (plan : Plan) (digests : Digests) (first last : List Event) (image : List ℕ) (len : ℕ) → ((before after : List Event) → LawfulSoFar plan (before ++ after) → LawfulSoFar plan before)
    → LawfulSoFar plan last → Survives plan digests first last image → EndWithin len (events_of image) → IsOwnJournal plan digests image × AreGood plan len (events_of image) (broken_of image)
left-good plan digests first last image len prefix so_far s within = (
  record { opens = s.opens; own = s.own },
  record { whole = s.whole; so_far = prefix (events_of image) s.within.0 (subst (LawfulSoFar plan) s.within.1 so_far); within = within },
)

-- it is no journal
pub not-closed : (plan : Plan) (digests : Digests) (image : List ℕ) → IsOwnJournal plan digests image → IsFalse (may_open image) → ⊥
not-closed plan digests image own closed = let opens : IsTrue (may_open image) = own.opens in cc

-- what a journal of an input has to tell it by is what that input has
told-own : (version : Version) (digest base : List ℕ) (plan : Plan) (digests : Digests) (events : List Event) (stamps : List ℕ)
    → NamesInput version plan digests (record { version = version; digest = digest; base = base }) events stamps → told_in version digest base ≡ told_for version digests
told-own One digest base plan digests events stamps names = names
told-own Two digest base plan digests events stamps names = ap (λ (l : List ℕ). l ++ replicate 17 0) names.0

-- the label of a journal of an input
own-labelled : (plan : Plan) (digests : Digests) (image : List ℕ) (label : Label) → IsOwn plan digests image → label_of image ≡ Some label → IsOfInput plan digests label (events_of image) (stamps_of image)
own-labelled plan digests image label own labelled = subst (λ (l : Option Label). MayBeOfInput plan digests l (events_of image) (stamps_of image)) labelled own

-- it is another's
pub not-other : (plan : Plan) (digests : Digests) (found given image : List ℕ) → IsOwn plan digests image → IsOther digests found given image → ⊥
not-other plan digests found given image own other =
    let label = other.label in
    let same = told-own label.version label.digest label.base plan digests (events_of image) (stamps_of image) (own-labelled plan digests image label own other.labelled) in
    other.other (other.found_is ∙ same ∙ sym other.given_is)

-- the stamp of a command that stands in the journal is the plan's
stamp-there : (plan : Plan) (before after : List Event) (command : ℕ) (stamps_before stamps_after : List ℕ) (found : ℕ) → AreStampsOf plan before stamps_before
    → AreStampsOf plan (before ++ event.Command command ∷ after) (stamps_before ++ found ∷ stamps_after) → stamp plan command ≡ Some found
stamp-there plan before after command stamps_before stamps_after found first all =
    let some : ℕ → Option ℕ = λ s. Some s in
    let left : map (stamp plan) (filter_map command_of (before ++ event.Command command ∷ after)) ≡ map (stamp plan) (filter_map command_of before) ++ stamp plan command ∷ map (stamp plan) (filter_map command_of after)
    = ap (map (stamp plan)) (filter_map-append command_of before (event.Command command ∷ after)) ∙ map-append (stamp plan) (filter_map command_of before) (command ∷ filter_map command_of after) in
    let right : map some (stamps_before ++ found ∷ stamps_after) ≡ map some stamps_before ++ Some found ∷ map some stamps_after = map-append some stamps_before (found ∷ stamps_after) in
    let front : map (stamp plan) (filter_map command_of before) ++ stamp plan command ∷ map (stamp plan) (filter_map command_of after) ≡ map (stamp plan) (filter_map command_of before) ++ Some found ∷ map some stamps_after
    = sym left ∙ all ∙ right ∙ ap (λ (l : List (Option ℕ)). l ++ Some found ∷ map some stamps_after) (sym first) in
    let behind = append_cancel_left (map (stamp plan) (filter_map command_of before)) (stamp plan command ∷ map (stamp plan) (filter_map command_of after)) (Some found ∷ map some stamps_after) front in
    head-same (stamp plan command) (Some found) (map (stamp plan) (filter_map command_of after)) (map some stamps_after) behind where
      head-same : (a b : Option ℕ) (xs ys : List (Option ℕ)) → a ∷ xs ≡ b ∷ ys → a ≡ b
      head-same a b xs ys is = cc

-- it is another script's
pub not-other_script : (plan : Plan) (digests : Digests) (command found given : ℕ) (image : List ℕ) → IsOwn plan digests image → IsOtherScript plan digests command found given image → ⊥
not-other_script plan digests command found given image own other =
    let names = own-labelled plan digests image other.label own other.labelled in
    let two = subst (λ (v : Version). NamesInput v plan digests other.label (events_of image) (stamps_of image)) other.version names in
    let listed = subst (λ (l : List Event). AreStampsOf plan l (stamps_of image)) other.events two.1 in
    let stamped = subst (λ (l : List ℕ). AreStampsOf plan (other.before ++ event.Command command ∷ other.after) l) other.stamps listed in
    other.other (stamp-there plan other.before other.after command other.stamps_before other.stamps_after found other.same_before stamped)

-- an extent that ends beyond the spool
not-past : (len : ℕ) (events : List Event) (number : ℕ) → EndWithin len events → EndsBeyond len events number → ⊥
not-past len events zero within ends = let none : None ≡ Some (event.Ended ends.id ends.outcome (Some ends.extent)) = ends.there in cc
not-past len events (suc n) within ends =
    let there = sym (numbered-at events (suc n) n (omega arith)) ∙ ends.there in
    let fits = within n ends.id ends.outcome ends.extent there in
    absurd (omega (arith, ends.beyond, fits))

-- none of its records is bad
pub not-bad : (plan : Plan) (len : ℕ) (events : List Event) (broken : Option ℕ) (number : ℕ) → AreGood plan len events broken → IsBadRecord plan len events broken number → ⊥
not-bad plan len events broken number good bad = elim bad.bad [
  | inl broke ↦ let same : None ≡ Some number = sym good.whole ∙ broke in cc
  | inr (inl first) ↦ bad-not_past plan events number first good.so_far
  | inr (inr ends) ↦ not-past len events number good.within ends
]
