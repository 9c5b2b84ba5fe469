-- What each step leaves of the seat that makes it.
use Rattle.std.specs.Prelude.{◌≡◌, ◌≢◌, ◌⊎◌, ℕ, ◌/◌, ◌≤◌, ◌==◌, Bool, false, List, [], ◌∷◌, ◌++◌, if◌then◌else◌, slice_index, slice_set, Option, Some, None}
use Rattle.atomic_table.specs.Table.{Me, Step, rest}
use Rattle.conc_types.specs.declared.event.PlaceId.{PlaceId}
use Rattle.conc_types.specs.declared.event.RequestId.{RequestId}
use Rattle.conc_types.specs.declared.plan.Plan.{Plan}
use Rattle.conc_pool_seats.specs.declared.posted.Posted.{Posted}
use Rattle.conc_pool_seats.specs.declared.views.Doing.{Doing}
use Rattle.conc_pool_seats.specs.declared.views.Doing.TheVariants.{Idle, Waits, Serves}
use Rattle.conc_pool_seats.specs.declared.views.LeadState.{LeadState}
use Rattle.conc_pool_seats.specs.declared.views.LeadState.TheVariants.{NotLet, Let, Seen, Gone}
use Rattle.conc_pool_seats.specs.declared.views.View.{View}
use Rattle.conc_pool_seats.specs.Doings.{carried_by, polled, warned}
use Rattle.conc_pool_seats.specs.Places.{without}
use Rattle.conc_pool_seats.specs.Reports.{MayLeave}
use Rattle.conc_pool_seats.specs.Rule.{Runs}
use Rattle.conc_pool_seats.specs.LeadStates.{WordFits, cleared, gone, got, is_marked, lead_state_at, looked, marked}
use Rattle.conc_pool_seats.specs.Words.{IsPlace, ended, idle, place_in, released, request_of, running, stopping}

-- ---- the view after a step

-- of a seat that found n in the word i
abbrev pub noted : View → ℕ → ℕ → View
noted v i n = record v { found = v.found ++ (i, n) ∷ [] }

-- of the lead, where the request with this word is then in the lead state
abbrev pub with_lead_state : View → ℕ → LeadState → ℕ → View
with_lead_state v i lead_state n =
    record v { lead_states = slice_set v.lead_states i lead_state; found = v.found ++ (i, n) ∷ [] }

-- of the lead, which wrote x to the word i
abbrev pub with_switch : View → ℕ → ℕ → ℕ → View
with_switch v i x n = record v { switches = slice_set v.switches i x; found = v.found ++ (i, n) ∷ [] }

-- of a hand, which then does this
abbrev pub with_doing : View → Doing → ℕ → ℕ → View
with_doing v doing i n = record v { doing = doing; found = v.found ++ (i, n) ∷ [] }

-- of a seat that took this out of the slot i, or left it there
abbrev pub with_post : View → ℕ → Posted → View
with_post v i x = record v { posts = v.posts ++ (i, x) ∷ [] }

-- of one that leaves what is in the slot that it took last
abbrev pub with_left : View → List (ℕ × Option Posted) → View
with_left v ((i, Some x) ∷ slots) = with_post v i x
with_left v slots = v

-- of the lead, which passes places on, and of the hand that gets them
abbrev pub with_places_off : List PlaceId → View → View
with_places_off ps v = record v { places = without v.places ps }

abbrev pub given : List PlaceId → View → View
given ps v = record { leads = false; plan = None; lead_states = []; switches = []; places = ps; doing = Idle; found = []; posts = [] }

-- of the lead, which takes in a hand with the view w
abbrev pub joined : View → View → View
joined v w = record v { places = w.places ++ v.places }

-- ---- the steps: each says what it leaves of its seat, by the number n that it found

abbrev pub Slot : Type 0
Slot = Option Posted

abbrev pub StepLeaves : Type 1
StepLeaves = Step Slot → Me Slot View → ℕ → Me Slot View → Type 0

abbrev pub let_out_leaves : StepLeaves
let_out_leaves st m n m' =
    (m'.0 ≡ with_lead_state m.0 st.word Let n) × (m'.1 ≡ m.1) × (n ≡ idle)

-- what a word that the lead loaded as n says of the lead state that it then knows
abbrev pub LookFits : LeadState → ℕ → Type 0
LookFits Let n = n ≡ released
LookFits lead_state n = WordFits lead_state n

-- the place of the lead state is one of the plan that the lead knows
abbrev pub HasPlace : Option Plan → LeadState → Type 0
HasPlace None lead_state = ⊥
HasPlace (Some plan) (Seen p) = IsPlace plan p
HasPlace (Some plan) (Gone p marked) = IsPlace plan p
HasPlace (Some plan) lead_state = Unit {0}

abbrev pub look_leaves : StepLeaves
look_leaves st m n m' =
    (m'.0 ≡ with_lead_state m.0 st.word (looked (lead_state_at m.0.lead_states st.word) n) n) × (m'.1 ≡ m.1)
    × HasPlace m.0.plan (looked (lead_state_at m.0.lead_states st.word) n)
    × LookFits (looked (lead_state_at m.0.lead_states st.word) n) n

abbrev pub go_leaves : StepLeaves
go_leaves st m n m' =
    (m'.0 ≡ with_lead_state m.0 st.word (gone (lead_state_at m.0.lead_states st.word)) n) × (m'.1 ≡ m.1)
    × WordFits (lead_state_at m.0.lead_states st.word) n

abbrev pub back_leaves : StepLeaves
back_leaves st m n m' =
    (m'.0 ≡ with_lead_state m.0 st.word NotLet n) × (m'.1 ≡ m.1) × WordFits (lead_state_at m.0.lead_states st.word) n

abbrev pub stop_leaves : StepLeaves
stop_leaves st m n m' =
    (m'.0 ≡ (if n == st.first then with_lead_state m.0 st.word (marked (lead_state_at m.0.lead_states st.word)) n
    else noted m.0 st.word n))
    × (m'.1 ≡ m.1) × WordFits (lead_state_at m.0.lead_states st.word) n

-- what was left may be, by the plan that the lead knows
abbrev pub MayBeLeft : Option Plan → RequestId → Bool → Posted → Type 0
MayBeLeft None r marked x = ⊥
MayBeLeft (Some plan) r marked x = MayLeave plan r marked x

-- the word of a request that has the go, where it ended and where it did not
abbrev pub EndedFits : LeadState → ℕ → Type 0
EndedFits (Gone p marked) n = n ≡ ended p
EndedFits lead_state n = Unit {0}

abbrev pub RunFits : LeadState → ℕ → Type 0
RunFits (Gone p marked) n = (n ≡ running p) ⊎ (n ≡ stopping p)
RunFits lead_state n = Unit {0}

-- the lead's load that takes the slot where the word is Ended
abbrev pub got_leaves : StepLeaves
got_leaves st m n m' =
    (n / 256 ≡ 4 →
    EndedFits (lead_state_at m.0.lead_states st.word) n
    × ((x : Posted)
    × (m'.0 ≡ with_post (with_lead_state m.0 st.word (got (lead_state_at m.0.lead_states st.word)) n) st.word x)
    × (m'.1 ≡ (st.word, Some x) ∷ m.1)
    × MayBeLeft m.0.plan (request_of st.word) (is_marked (lead_state_at m.0.lead_states st.word)) x))
    × (n / 256 ≢ 4 → (m'.0 ≡ noted m.0 st.word n) × (m'.1 ≡ m.1)
    × RunFits (lead_state_at m.0.lead_states st.word) n)

abbrev pub clear_leaves : StepLeaves
clear_leaves st m n m' =
    (m'.0 ≡ with_lead_state m.0 st.word (cleared (lead_state_at m.0.lead_states st.word)) n) × (m'.1 ≡ rest m.1)
    × WordFits (lead_state_at m.0.lead_states st.word) n

-- a step on a word by which a seat learns nothing but what it found
abbrev pub note_leaves : StepLeaves
note_leaves st m n m' = (m'.0 ≡ noted m.0 st.word n) × (m'.1 ≡ m.1)

-- a hand's load of the word of a place or of the end
abbrev pub see_switch_leaves : StepLeaves
see_switch_leaves st m n m' = (m'.0 ≡ noted m.0 st.word n) × (m'.1 ≡ m.1) × (n ≤ 1)

-- the lead's write of one
abbrev pub switch_leaves : StepLeaves
switch_leaves st m n m' =
    (m'.0 ≡ with_switch m.0 st.word st.first n) × (m'.1 ≡ m.1) × (n ≡ slice_index m.0.switches st.word) × (n ≤ 1)

abbrev pub claim_leaves : StepLeaves
claim_leaves st m n m' =
    (m'.0 ≡ with_doing m.0 (if n == released then Waits (request_of st.word) (place_in 256 st.second) else Idle) st.word n)
    × (m'.1 ≡ m.1)

abbrev pub poll_leaves : StepLeaves
poll_leaves st m n m' =
    (m'.0 ≡ with_doing m.0 (polled m.0.doing n) st.word n) × (m'.1 ≡ carried_by (polled m.0.doing n))

-- the word of a request that the hand serves
abbrev pub ServedFits : Doing → ℕ → Type 0
ServedFits (Serves r p stop) n = Runs stop p n
ServedFits doing n = Unit {0}

abbrev pub warn_leaves : StepLeaves
warn_leaves st m n m' =
    (m'.0 ≡ with_doing m.0 (warned m.0.doing n) st.word n) × (m'.1 ≡ m.1) × ServedFits m.0.doing n

abbrev pub post_leaves : StepLeaves
post_leaves st m n m' =
    (m'.0 ≡ with_left (with_doing m.0 Idle st.word n) m.1) × (m'.1 ≡ rest m.1) × ServedFits m.0.doing n
