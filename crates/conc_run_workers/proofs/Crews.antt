-- Places that pass between the lead and the workers.
use Rattle.std.proofs.Common.{◌≡◌, ◌≢◌, ◌⊎◌, ◌%◌, inl, inr, ⊎_elim, ℕ, zero, suc, ◌<◌, ◌+◌, ◌==◌, ◌||◌, Bool, true, false, if◌then◌else◌, List, [], ◌∷◌, ◌++◌, length, get_or, set, take, Option, None, Some, refl, sym, ◌∙◌, ap, subst, arith, eqb-true, eq-eqb}
use Rattle.std.specs.Prelude.{◌↔◌, ◌≤◌, IfSome}
use mathlib.Core.Logic.{dite}
use native.Mathlib.Decide.{ℕ_discrete}
use Rattle.conc_types.specs.declared.event.PlaceId.{PlaceId}
use Rattle.conc_types.specs.declared.plan.Plan.{Plan}
use Rattle.conc_base_law.specs.Words.{Has}
use Rattle.conc_pool_seats.specs.Places.{has, without}
use Rattle.conc_pool_seats.specs.Words.{IsPlace}
use Rattle.conc_board.specs.declared.board.Board.{Board}
use Rattle.conc_board.specs.declared.hand.Hand.{Hand}
use Rattle.conc_board.specs.declared.lead.Lead.{Lead}
use Rattle.conc_board.specs.Seats.{IsHandOf, doing_of, places_of_hand, places_of_lead, plan_of}
use Rattle.conc_pool_seats.specs.declared.views.Doing.TheVariants.{Idle}
use Rattle.conc_base_law.specs.Places.{count_of_places}
use Rattle.conc_pool_lanes.specs.Lanes.{AreHandPasses, IsHandPassOf}
use Rattle.conc_pool_lanes.specs.declared.lanes.HandPass.{HandPass}
use Rattle.conc_pool_lanes.specs.declared.lanes.Lanes.{Lanes}
use Rattle.conc_run_workers.specs.Crews.{AreDealt, Covers, IsCrewFor, IsFree, IsFreeMember, places_had, SameLists, SamePlaces}
use Rattle.conc_run_workers.specs.declared.crew.CrewMember.{CrewMember}

-- ---- lists of places

either_true : (a b : Bool) → (a || b) ≡ true → (a ≡ true) ⊎ (b ≡ true)
either_true true b is = inl refl
either_true false b is = inr is

or_true : (a b : Bool) → b ≡ true → (a || b) ≡ true
or_true true b is = refl
or_true false b is = is

pub has-left : (xs ys : List PlaceId) (p : PlaceId) → has xs p ≡ true → has (xs ++ ys) p ≡ true
has-left [] ys p is = absurd (cc)
has-left (x ∷ xs) ys p is = elim (either_true (x.index == p.index) (has xs p) is) [
  | inl here ↦ ap (λ b. b || has (xs ++ ys) p) here
  | inr later ↦ or_true (x.index == p.index) (has (xs ++ ys) p) (has-left xs ys p later)
]

pub has-right : (xs ys : List PlaceId) (p : PlaceId) → has ys p ≡ true → has (xs ++ ys) p ≡ true
has-right [] ys p is = is
has-right (x ∷ xs) ys p is = or_true (x.index == p.index) (has (xs ++ ys) p) (has-right xs ys p is)

same_place : (p q : PlaceId) → p.index ≡ q.index → p ≡ q
same_place p q is = ap (λ (n : ℕ). record { index = n }) is

-- a place that is not among those that pass on stays
stays-behind : (q : PlaceId) (qs ps : List PlaceId) (p : PlaceId) → (has qs p ≡ true → has (without qs ps) p ≡ true) → has (q ∷ qs) p ≡ true → has ps p ≡ false → (b : Bool) → has ps q ≡ b
    → has (if b then without qs ps else q ∷ without qs ps) p ≡ true
stays-behind q qs ps p again is other true passes = elim (either_true (q.index == p.index) (has qs p) is) [
  | inl here ↦ let never : true ≡ false = sym passes ∙ ap (has ps) (same_place q p (eqb-true q.index p.index here)) ∙ other in absurd (cc)
  | inr later ↦ again later
]
stays-behind q qs ps p again is other false passes = elim (either_true (q.index == p.index) (has qs p) is) [
  | inl here ↦ ap (λ b. b || has (without qs ps) p) here
  | inr later ↦ or_true (q.index == p.index) (has (without qs ps) p) (again later)
]

pub has-without : (qs ps : List PlaceId) (p : PlaceId) → has qs p ≡ true → has ps p ≡ false → has (without qs ps) p ≡ true
has-without [] ps p is other = absurd (cc)
has-without (q ∷ qs) ps p is other = stays-behind q qs ps p (λ later. has-without qs ps p later other) is other (has ps q) refl

-- ---- places that are dealt among threads

-- these are the places below this one whose index leaves this rest
abbrev pub DealtBelow : List PlaceId → ℕ → ℕ → ℕ → Type 0
DealtBelow places index threads rest = (p : PlaceId) → (has places p ≡ true) ↔ ((p.index < index) × (p.index % threads ≡ rest))

at_end : (xs : List PlaceId) (q p : PlaceId) → has (xs ++ q ∷ []) p ≡ true → (has xs p ≡ true) ⊎ (q.index ≡ p.index)
at_end [] q p is = elim (either_true (q.index == p.index) false is) [
  | inl here ↦ inr (eqb-true q.index p.index here)
  | inr none ↦ absurd (cc)
]
at_end (x ∷ xs) q p is = elim (either_true (x.index == p.index) (has (xs ++ q ∷ []) p) is) [
  | inl here ↦ inl (ap (λ b. b || has xs p) here)
  | inr later ↦ ⊎_elim (λ h. inl (or_true (x.index == p.index) (has xs p) h)) (λ e. inr e) (at_end xs q p later)
]

pub dealt-none : (threads rest : ℕ) → DealtBelow [] 0 threads rest
dealt-none threads rest p = ((λ h. absurd (cc)), (λ d. absurd (omega (arith, d.0))))

pub dealt-more : (places : List PlaceId) (index threads rest : ℕ) → DealtBelow places index threads rest → index % threads ≡ rest → DealtBelow (places ++ record { index = index } ∷ []) (index + 1) threads rest
dealt-more places index threads rest so is p =
    let q : PlaceId = record { index = index } in (
      (λ h. elim (at_end places q p h) [
        | inl old ↦ let d = (so p).0 old in (omega (arith, d.0), d.1)
        | inr same ↦ (omega (arith, same), ap (λ (n : ℕ). n % threads) (sym same) ∙ is)
      ]),
      (λ d. dite (ℕ_discrete p.index index)
          (λ e. has-right places (q ∷ []) p (ap (λ b. b || false) (eq-eqb index p.index (sym e))))
          (λ other. has-left places (q ∷ []) p ((so p).1 (omega (arith, d.0, other), d.1)))),
    )

pub dealt-skip : (places : List PlaceId) (index threads rest : ℕ) → DealtBelow places index threads rest → index % threads ≢ rest → DealtBelow places (index + 1) threads rest
dealt-skip places index threads rest so other p = (
  (λ h. let d = (so p).0 h in (omega (arith, d.0), d.1)),
  (λ d. (so p).1 (dite (ℕ_discrete p.index index) (λ e. absurd (other (ap (λ (n : ℕ). n % threads) (sym e) ∙ d.1))) (λ ne. omega (arith, d.0, ne)), d.1)),
)

-- what is dealt to another rest is not among them
pub not-dealt : (places : List PlaceId) (index threads rest : ℕ) (p : PlaceId) → DealtBelow places index threads rest → p.index % threads ≢ rest → has places p ≡ false
not-dealt places index threads rest p so other = go (has places p) refl
  where
    go : (b : Bool) → has places p ≡ b → has places p ≡ false
    go true is = absurd (other ((so p).0 is).1)
    go false is = is

-- ---- lists of workers

pub has-snoc : {T : Type 0} (xs : List T) (y x : T) → Has (xs ++ y ∷ []) x → Has xs x ⊎ (x ≡ y)
has-snoc [] y x (inl e) = inr e
has-snoc [] y x (inr none) = absurd none
has-snoc (z ∷ xs) y x (inl e) = inl (inl e)
has-snoc (z ∷ xs) y x (inr later) = ⊎_elim (λ h. inl (inr h)) (λ e. inr e) (has-snoc xs y x later)

pub has-at : {T : Type 0} (xs : List T) (i : ℕ) (d : T) → i < length xs → Has xs (get_or xs i d)
has-at [] i d below = absurd (omega arith)
has-at (x ∷ xs) zero d below = inl refl
has-at (x ∷ xs) (suc i) d below = inr (has-at xs i d (omega arith))

pub has-last : {T : Type 0} (xs : List T) (y : T) → Has (xs ++ y ∷ []) y
has-last [] y = inl refl
has-last (x ∷ xs) y = inr (has-last xs y)

-- what holds at each place holds of each item
pub each-had : {T : Type 0} (P : T → Type 0) (xs : List T) → ((k : ℕ) (d : T) → k < length xs → P (get_or xs k d)) → (x : T) → Has xs x → P x
each-had P [] each x none = absurd none
each-had P (y ∷ xs) each x (inl e) = subst P (sym e) (each 0 y (omega arith))
each-had P (y ∷ xs) each x (inr later) = each-had P xs (λ k d below. each (suc k) d (omega arith)) x later

-- one of those, where there is one
pub some-item : {T : Type 0} (xs : List T) → 0 < length xs → T
some-item [] some = absurd (omega arith)
some-item (x ∷ xs) some = x

take-front : {T : Type 0} (xs zs : List T) → take (length xs) (xs ++ zs) ≡ xs
take-front [] zs = refl
take-front (x ∷ xs) zs = ap (λ ys. x ∷ ys) (take-front xs zs)

-- so many items from the front are the items
pub front-whole : {T : Type 0} (xs zs : List T) (n : ℕ) → length xs ≡ n → xs ≡ take n (xs ++ zs)
front-whole xs zs n count = sym (take-front xs zs) ∙ ap (λ (m : ℕ). take m (xs ++ zs)) count

-- a worker with the places of one of those
has-same : (ws us : List CrewMember) → length us ≡ length ws → ((i : ℕ) (d : CrewMember) → i < length ws → places_had (get_or us i d).hand ≡ places_had (get_or ws i d).hand)
    → (w : CrewMember) → Has ws w → (u : CrewMember) × Has us u × (places_had u.hand ≡ places_had w.hand)
has-same [] us long same w none = absurd none
has-same (v ∷ ws) [] long same w there = absurd (omega (arith, long))
has-same (v ∷ ws) (u ∷ us) long same w (inl e) = (u, inl refl, same 0 v (omega arith) ∙ ap (λ (x : CrewMember). places_had x.hand) (sym e))
has-same (v ∷ ws) (u ∷ us) long same w (inr later) =
    let t = has-same ws us (omega (arith, long)) (λ i d below. same (suc i) d (omega arith)) w later in (t.0, inr t.1, t.2)

-- ---- covers

-- workers that keep their places cover the same
pub covers-same : (plan : Plan) (lead lead' : Lead) (ws us : List CrewMember) → places_of_lead lead' ≡ places_of_lead lead → SamePlaces ws us → Covers plan lead ws → Covers plan lead' us
covers-same plan lead lead' ws us places same covers = record {
  each = λ p is. elim (covers.each p is) [
    | inl own ↦ inl (ap (λ (ps : List PlaceId). has ps p) places ∙ own)
    | inr w ↦ let t = has-same ws us same.long same.each w.0 w.1 in inr (t.0, t.1, ap (λ (ps : List PlaceId). has ps p) t.2 ∙ w.2)
  ];
}

-- an item of those is the one at this index, or stays where that is replaced
has-set : {T : Type 0} (xs : List T) (i : ℕ) (x d y : T) → Has xs y → (y ≡ get_or xs i d) ⊎ Has (set xs i x) y
has-set [] i x d y none = absurd none
has-set (z ∷ xs) zero x d y (inl e) = inl e
has-set (z ∷ xs) zero x d y (inr later) = inr (inr later)
has-set (z ∷ xs) (suc i) x d y (inl e) = inr (inl e)
has-set (z ∷ xs) (suc i) x d y (inr later) = ⊎_elim (λ e. inl e) (λ h. inr (inr h)) (has-set xs i x d y later)

-- the hand of a worker is taken in
pub covers-taken : (plan : Plan) (lead lead' : Lead) (ws : List CrewMember) (i : ℕ) (w d : CrewMember) (hand : Hand) → (get_or ws i d).hand ≡ Some hand → places_of_lead lead' ≡ places_of_hand hand ++ places_of_lead lead
    → Covers plan lead ws → Covers plan lead' (set ws i w)
covers-taken plan lead lead' ws i w d hand has_hand places covers = record {
  each = λ p is. elim (covers.each p is) [
    | inl own ↦ inl (ap (λ (ps : List PlaceId). has ps p) places ∙ has-right (places_of_hand hand) (places_of_lead lead) p own)
    | inr v ↦ ⊎_elim
        (λ e. inl (ap (λ (ps : List PlaceId). has ps p) places
        ∙ has-left (places_of_hand hand) (places_of_lead lead) p (ap (λ (o : Option Hand). has (places_had o) p) (sym (ap (λ (x : CrewMember). x.hand) e ∙ has_hand)) ∙ v.2)))
        (λ there. inr (v.0, there, v.2))
        (has-set ws i w d v.0 v.1)
  ];
}

-- all hands are taken in
pub covers-none : (plan : Plan) (lead : Lead) (ws : List CrewMember) → ((k : ℕ) (d : CrewMember) → k < length ws → (get_or ws k d).hand ≡ None) → Covers plan lead ws → (p : PlaceId) → IsPlace plan p
    → has (places_of_lead lead) p ≡ true
covers-none plan lead ws none covers p is = elim (covers.each p is) [
  | inl own ↦ own
  | inr w ↦ let gone = each-had (λ (x : CrewMember). x.hand ≡ None) ws none w.0 w.1 in
      let never : has [] p ≡ true = ap (λ (o : Option Hand). has (places_had o) p) (sym gone) ∙ w.2 in absurd (cc)
]

-- a worker without a hand is not free
pub free-hand : (board : Board) (w : CrewMember) → w.hand ≡ None → IsFreeMember board w → ⊥
free-hand board w none free = subst (IsFree board w.places.items) none free

-- a worker that was given a hand with its places
pub with-hand : (board : Board) (places : List PlaceId) (hand : Hand) → IsHandOf board hand → doing_of hand ≡ Idle → places_of_hand hand ≡ places
    → ((p : PlaceId) → has places p ≡ true → p.index < count_of_places (plan_of board)) → IsFree board places (Some hand)
with-hand board places hand of_board idle passed within = (
  of_board,
  idle,
  record { of_plan = λ p is. record { within = within p is }; own = λ p is. ap (λ (ps : List PlaceId). has ps p) passed ∙ is },
)

-- ---- passes for the lanes

-- of passes the last is one, and so are the others
pub passes-last : (lanes : Lanes) (xs : List HandPass) (y : HandPass) → AreHandPasses lanes (xs ++ y ∷ []) → AreHandPasses lanes xs × IsHandPassOf lanes y
unfolding AreHandPasses
passes-last lanes [] y are = (tt, are.0)
passes-last lanes (x ∷ xs) y are = let rest = passes-last lanes xs y are.1 in ((are.0, rest.0), rest.1)

-- what holds of each worker and of one more holds of each then
pub each-more : (P : ℕ → CrewMember → Type 0) (ws : List CrewMember) (w : CrewMember) → ((k : ℕ) (d : CrewMember) → k < length ws → P k (get_or ws k d)) → P (length ws) w
    → (k : ℕ) (d : CrewMember) → k < length (ws ++ w ∷ []) → P k (get_or (ws ++ w ∷ []) k d)
each-more P [] w each last zero d below = last
each-more P [] w each last (suc k) d below = absurd (omega arith)
each-more P (x ∷ ws) w each last zero d below = each 0 x (omega arith)
each-more P (x ∷ ws) w each last (suc k) d below = each-more (λ j. P (suc j)) ws w (λ j e less. each (suc j) e (omega arith)) last k d (omega arith)

-- ---- who serves which place

pub lists-after : (first mid last : List CrewMember) → SameLists first mid → SameLists mid last → SameLists first last
lists-after first mid last one other = record {
  long = other.long ∙ one.long;
  each = λ i d below. other.each i d (omega (arith, below, one.long)) ∙ one.each i d below;
}

pub crew-same : (plan : Plan) (threads : ℕ) (ws us : List CrewMember) → SameLists ws us → IsCrewFor plan threads ws → IsCrewFor plan threads us
crew-same plan threads ws us same fits = record {
  some = omega (arith, fits.some, same.long);
  few = omega (arith, fits.few, same.long);
  spare = λ there. let spare = fits.spare there in omega (arith, spare, same.long);
  dealt = λ i d below.
      let small : i < length ws = omega (arith, below, same.long) in
      subst (λ (n : ℕ). AreDealt plan n i (get_or us i d).places.items) (sym same.long) (subst (λ (l : List PlaceId). AreDealt plan (length ws) i l) (sym (same.each i d small)) (fits.dealt i d small));
}

pub crew-wider : (plan : Plan) (few threads : ℕ) (crew : List CrewMember) → few ≤ threads → IsCrewFor plan few crew → IsCrewFor plan threads crew
crew-wider plan few threads crew less fits = record { some = fits.some; few = omega (arith, fits.few, less); spare = fits.spare; dealt = fits.dealt }

pub if-some : {A : Type 0} (P Q : A → Type 0) (o : Option A) → ((x : A) → P x → Q x) → IfSome o P → IfSome o Q
if-some P Q None step is = tt
if-some P Q (Some x) step is = step x is
