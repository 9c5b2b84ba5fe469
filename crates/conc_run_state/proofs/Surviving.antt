-- What a crash may leave of a journal.
use Rattle.std.proofs.Common.{◌≡◌, ℕ, Bool, ◌||◌, List, [], ◌∷◌, ◌++◌, length, length-append, map, None, Some, if◌then◌else◌, refl, sym, ◌∙◌, ap, subst, append-nil, arith}
use Rattle.std.specs.List.{filter_map}
use Rattle.std.proofs.lemmas.List.{map-append}
use Rattle.std.proofs.lemmas.List.Elements.{filter_map-append}
use Rattle.conc_types.specs.Plans.{stamp}
use Rattle.conc_types.specs.declared.digests.Digests.{Digests}
use Rattle.conc_types.specs.declared.event.Event.{Event}
use Rattle.conc_types.specs.declared.event.Event.TheVariants as event
use Rattle.conc_types.specs.declared.plan.Plan.{Plan}
use Rattle.conc_journal_image.specs.Fields.{command_stamp}
use Rattle.conc_journal_image.specs.declared.label.Label.{Label}
use Rattle.conc_journal_image.specs.declared.label.Version.{Version}
use Rattle.conc_journal_image.specs.declared.label.Version.TheVariants.{One, Two}
use Rattle.conc_journal_image.specs.Image.{Found, found_in, has_header, HasStamps, IsJournal, label_in, stamps_in, Tells, version_in}
use Rattle.conc_journal_image.proofs.Beginning.{header-begun}
use Rattle.conc_journal.specs.Journals.{list_of, stamps_held, state_of}
use Rattle.conc_journal.specs.JournalStates.{state_label}
use Rattle.conc_journal.specs.Opens.{events_of}
use Rattle.conc_journal.specs.declared.journal.Journal.{Journal}
use Rattle.conc_journal.specs.declared.journal.JournalState.{JournalState}
use Rattle.conc_journal.specs.declared.journal.JournalState.TheVariants.{Begun}
use Rattle.conc_run_state.specs.Inputs.{AreStampsOf, command_of, failed_stamps, IsHeldFor, IsOfInput, IsOwn, MayBeOfInput, NamesInput}
use Rattle.conc_run_state.specs.Lists.{failed_in, IsPrefix, longest_of}
use Rattle.conc_run_state.specs.Survival.{Survives}
use Rattle.conc_run_state.proofs.Prefixes.{prefix-twice}

-- what counts in a version of a journal's label and stamps stands in its image
names-in : (version : Version) (plan : Plan) (digests : Digests) (label : Label) (list : List Event) (stamps image : List ℕ) → NamesInput version plan digests label list stamps → Tells version label image → HasStamps version stamps image → NamesInput version plan digests (label_in image) list (stamps_in image)
names-in One plan digests label list stamps image names tells stamped = tells ∙ names
names-in Two plan digests label list stamps image (base, these) tells stamped = (tells ∙ base, subst (λ (s : List ℕ). AreStampsOf plan list s) (sym stamped) these)

-- the image of a journal of this input is one of this input
pub journal-own : (plan : Plan) (digests : Digests) (label : Label) (list : List Event) (stamps image : List ℕ) → IsOfInput plan digests label list stamps → IsJournal label stamps list image → IsOwn plan digests image
journal-own plan digests label list stamps image of_input journal =
    let begun = header-begun image journal.header in
    let here = names-in label.version plan digests label list stamps image of_input journal.labelled.tells journal.stamped in
    let versioned = subst (λ (v : Version). NamesInput v plan digests (label_in image) list (stamps_in image)) (sym journal.labelled.version) here in
    let listed = subst (λ (l : List Event). NamesInput (version_in image) plan digests (label_in image) l (stamps_in image)) (sym (ap (λ (f : Found). f.events) journal.found)) versioned in
    subst (λ (b : Bool). MayBeOfInput plan digests (if b then None else Some (label_in image)) (if b then [] else (found_in image).events) (if b then [] else stamps_in image)) (sym begun) listed

-- a journal with a list between two
pub journal-survives : (plan : Plan) (digests : Digests) (label : Label) (stamps : List ℕ) (first list last : List Event) (image : List ℕ) → IsPrefix first list → IsPrefix list last → IsOfInput plan digests label list stamps → IsJournal label stamps list image → Survives plan digests first last image
journal-survives plan digests label stamps first list last image begins within of_input journal =
    let begun = header-begun image journal.header in
    let events : events_of image ≡ list = ap (λ (b : Bool). if b then [] else (found_in image).events) begun ∙ ap (λ (f : Found). f.events) journal.found in
    record {
      opens = ap (λ (b : Bool). b || has_header image) begun ∙ journal.header;
      own = journal-own plan digests label list stamps image of_input journal;
      whole = ap (λ (b : Bool). if b then None else (found_in image).broken) begun ∙ ap (λ (f : Found). f.broken) journal.found;
      begins = subst (λ (l : List Event). IsPrefix first l) (sym events) begins;
      within = subst (λ (l : List Event). IsPrefix l last) (sym events) within;
    }

-- between lists that are farther apart
pub survives-wider : (plan : Plan) (digests : Digests) (outer first last outmost : List Event) (image : List ℕ) → IsPrefix outer first → IsPrefix last outmost → Survives plan digests first last image → Survives plan digests outer outmost image
survives-wider plan digests outer first last outmost image front back is = record {
  opens = is.opens;
  own = is.own;
  whole = is.whole;
  begins = prefix-twice outer first (events_of image) front is.begins;
  within = prefix-twice (events_of image) last outmost is.within back;
}

-- ---- one event less

-- lists that are the same with one item behind each are the same
front-same : {A : Type 0} (xs ys : List A) (a b : A) → xs ++ a ∷ [] ≡ ys ++ b ∷ [] → xs ≡ ys
front-same [] [] a b is = refl
front-same [] (y ∷ ys) a b is = absurd (omega (arith, ap length is, length-append ys (b ∷ [])))
front-same (x ∷ xs) [] a b is = absurd (omega (arith, ap length is, length-append xs (a ∷ [])))
front-same (x ∷ xs) (y ∷ ys) a b is =
    let behind : xs ++ a ∷ [] ≡ ys ++ b ∷ [] = cc in
    let front : xs ≡ ys = front-same xs ys a b behind in
    let first : x ≡ y = cc in
    cc

-- a command less
command-less : (plan : Plan) (events : List Event) (number : ℕ) (stamps : List ℕ) (own : ℕ) → AreStampsOf plan (events ++ event.Command number ∷ []) (stamps ++ own ∷ []) → AreStampsOf plan events stamps
command-less plan events number stamps own are =
    let left : map (stamp plan) (filter_map command_of (events ++ event.Command number ∷ [])) ≡ map (stamp plan) (filter_map command_of events) ++ stamp plan number ∷ []
    = ap (map (stamp plan)) (filter_map-append command_of events (event.Command number ∷ [])) ∙ map-append (stamp plan) (filter_map command_of events) (number ∷ []) in
    let right : map (λ (s : ℕ). Some s) (stamps ++ own ∷ []) ≡ map (λ (s : ℕ). Some s) stamps ++ Some own ∷ [] = map-append (λ (s : ℕ). Some s) stamps (own ∷ []) in
    front-same (map (stamp plan) (filter_map command_of events)) (map (λ (s : ℕ). Some s) stamps) (stamp plan number) (Some own) (sym left ∙ are ∙ right)

-- an event less that is no command
other-less : (plan : Plan) (events : List Event) (e : Event) (stamps : List ℕ) → filter_map command_of (e ∷ []) ≡ [] → AreStampsOf plan (events ++ e ∷ []) (stamps ++ []) → AreStampsOf plan events stamps
other-less plan events e stamps none are =
    let left : filter_map command_of (events ++ e ∷ []) ≡ filter_map command_of events
    = filter_map-append command_of events (e ∷ []) ∙ ap (λ l. filter_map command_of events ++ l) none ∙ append-nil (filter_map command_of events) in
    sym (ap (map (stamp plan)) left) ∙ are ∙ ap (map (λ (s : ℕ). Some s)) (append-nil stamps)

pub stamps-less : (plan : Plan) (events : List Event) (e : Event) (stamps : List ℕ) (own : ℕ) → AreStampsOf plan (events ++ e ∷ []) (stamps ++ command_stamp e own) → AreStampsOf plan events stamps
stamps-less plan events (event.Command number) stamps own are = command-less plan events number stamps own are
stamps-less plan events (event.Tick t) stamps own are = other-less plan events (event.Tick t) stamps refl are
stamps-less plan events (event.OpenSet s) stamps own are = other-less plan events (event.OpenSet s) stamps refl are
stamps-less plan events (event.Stage s k) stamps own are = other-less plan events (event.Stage s k) stamps refl are
stamps-less plan events (event.CloseSet s o) stamps own are = other-less plan events (event.CloseSet s o) stamps refl are
stamps-less plan events (event.LetOut r) stamps own are = other-less plan events (event.LetOut r) stamps refl are
stamps-less plan events (event.Started r p) stamps own are = other-less plan events (event.Started r p) stamps refl are
stamps-less plan events (event.Ended r o x) stamps own are = other-less plan events (event.Ended r o x) stamps refl are
stamps-less plan events event.Resume stamps own are = other-less plan events event.Resume stamps refl are
stamps-less plan events (event.Interrupt r) stamps own are = other-less plan events (event.Interrupt r) stamps refl are

names-less : (version : Version) (plan : Plan) (digests : Digests) (label : Label) (events : List Event) (e : Event) (stamps : List ℕ) (own : ℕ) → NamesInput version plan digests label (events ++ e ∷ []) (stamps ++ command_stamp e own) → NamesInput version plan digests label events stamps
names-less One plan digests label events e stamps own names = names
names-less Two plan digests label events e stamps own (base, these) = (base, stamps-less plan events e stamps own these)

-- a journal that is of this input with one more event is of this input without it
pub of_input-less : (plan : Plan) (digests : Digests) (label : Label) (events : List Event) (e : Event) (stamps : List ℕ) (own : ℕ) → IsOfInput plan digests label (events ++ e ∷ []) (stamps ++ command_stamp e own) → IsOfInput plan digests label events stamps
of_input-less plan digests label events e stamps own = names-less label.version plan digests label events e stamps own

-- ---- a journal that is held

-- at a state that is begun, its list is of this input
pub held-begun : (plan : Plan) (digests : Digests) (journal : Journal) (label : Label) → IsHeldFor plan digests journal → state_of journal ≡ Begun label → IsOfInput plan digests label (list_of journal) (stamps_held journal)
held-begun plan digests journal label held is =
    let named : Some held.label ≡ Some label = sym held.labelled ∙ ap (λ (s : JournalState). state_label s) is in
    let same : held.label ≡ label = cc in
    let listed : longest_of journal ≡ list_of journal = ap (λ (s : JournalState). list_of journal ++ failed_in s) is ∙ append-nil (list_of journal) in
    let stamped : stamps_held journal ++ failed_stamps (state_of journal) ≡ stamps_held journal = ap (λ (s : JournalState). stamps_held journal ++ failed_stamps s) is ∙ append-nil (stamps_held journal) in
    subst (λ (s : List ℕ). IsOfInput plan digests label (list_of journal) s) stamped
    (subst (λ (l : List Event). IsOfInput plan digests label l (stamps_held journal ++ failed_stamps (state_of journal))) listed
    (subst (λ (l : Label). IsOfInput plan digests l (longest_of journal) (stamps_held journal ++ failed_stamps (state_of journal))) same held.of_input))
