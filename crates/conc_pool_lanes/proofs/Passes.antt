-- Lanes and passes, one more of each.
use Rattle.std.proofs.Common.{◌≡◌, ℕ, ◌+◌, ◌<◌, suc, zero, true, List, [], ◌∷◌, ◌++◌, Option, Some, None, length, map, get_or, set, replicate, refl, sym, ap, ◌∙◌, ◌==◌, eq-eqb, arith}
use Rattle.std.proofs.lemmas.Bool.{and_from}
use Rattle.std.proofs.lemmas.List.Folds.{list_all-append}
use Rattle.std.proofs.lemmas.List.{map-append, map-set}
use Rattle.std.proofs.Math.Seq.{map-set_same}
use Rattle.std.specs.Prelude.{IfNone, IfSome}
use Rattle.conc_types.specs.declared.event.RequestId.{RequestId}
use Rattle.conc_pool_lanes.specs.Lane.{IsPutterOf, IsTakerOf, put_by, room_of, taken_with}
use Rattle.conc_pool_lanes.specs.Lanes.{AreHandPasses, ArePutters, AreTakers, IsHandPassOf, with_take}
use Rattle.conc_pool_lanes.specs.Rooms.{have_room}
use Rattle.conc_pool_lanes.specs.declared.lane.Lane.{Lane}
use Rattle.conc_pool_lanes.specs.declared.lane.Putter.{Putter}
use Rattle.conc_pool_lanes.specs.declared.lane.Taker.{Taker}
use Rattle.conc_pool_lanes.specs.declared.lanes.HandPass.{HandPass}
use Rattle.conc_pool_lanes.specs.declared.lanes.Lanes.{Lanes}

pub putters-push : (lanes : List Lane) (putters : List Putter) (lane : Lane) (putter : Putter) → ArePutters lanes putters → IsPutterOf lane putter
    → ArePutters (lanes ++ lane ∷ []) (putters ++ putter ∷ [])
unfolding ArePutters
putters-push [] [] lane putter h own = (own, tt)
putters-push [] (p ∷ ps) lane putter h own = absurd h
putters-push (l ∷ ls) [] lane putter h own = absurd h
putters-push (l ∷ ls) (p ∷ ps) lane putter h own = (h.0, putters-push ls ps lane putter h.1 own)

pub passes-push : (lanes : Lanes) (passes : List HandPass) (pass : HandPass) → AreHandPasses lanes passes → IsHandPassOf lanes pass → AreHandPasses lanes (passes ++ pass ∷ [])
unfolding AreHandPasses
passes-push lanes [] pass h own = (own, tt)
passes-push lanes (p ∷ ps) pass h own = (h.0, passes-push lanes ps pass h.1 own)

pub empty-push : {A : Type 0} (n : ℕ) (a : A) → replicate n a ++ a ∷ [] ≡ replicate (n + 1) a
empty-push zero a = refl
empty-push (suc n) a =
    let next : suc n + 1 ≡ suc (n + 1) = omega arith in
    ap (λ l. a ∷ l) (empty-push n a) ∙ ap (λ k. replicate k a) (sym next)

pub room-push : (room : ℕ) (lanes : List Lane) (lane : Lane) → room_of lane ≡ room → have_room room lanes ≡ true → have_room room (lanes ++ lane ∷ []) ≡ true
room-push room lanes lane own h =
    list_all-append (λ l. room_of l == room) lanes (lane ∷ []) ∙ and_from _ _ h (and_from _ _ (eq-eqb (room_of lane) room own) refl)

-- one more putter, which has put nothing
pub nothing-push : (n : ℕ) (putters : List Putter) (putter : Putter) → map put_by putters ≡ replicate n [] → put_by putter ≡ []
    → map put_by (putters ++ putter ∷ []) ≡ replicate (n + 1) []
nothing-push n putters putter h own =
    map-append put_by putters (putter ∷ []) ∙ ap (λ l. l ++ put_by putter ∷ []) h ∙ ap (λ x. replicate n [] ++ x ∷ []) own ∙ empty-push n []

-- ---- the pass of a hand

pub takers-length : (lanes : List Lane) (takers : List Taker) → AreTakers lanes takers → length takers ≡ length lanes
unfolding AreTakers
takers-length [] [] h = refl
takers-length [] (t ∷ ts) h = absurd h
takers-length (l ∷ ls) [] h = absurd h
takers-length (l ∷ ls) (t ∷ ts) h = ap suc (takers-length ls ts h.1)

pub takers-at : (lanes : List Lane) (takers : List Taker) (i : ℕ) (lane : Lane) (taker : Taker) → AreTakers lanes takers → i < length lanes
    → IsTakerOf (get_or lanes i lane) (get_or takers i taker)
unfolding AreTakers
takers-at [] takers i lane taker h few = absurd (omega (arith, few))
takers-at (l ∷ ls) [] i lane taker h few = absurd h
takers-at (l ∷ ls) (t ∷ ts) zero lane taker h few = h.0
takers-at (l ∷ ls) (t ∷ ts) (suc i) lane taker h few = takers-at ls ts i lane taker h.1 (omega (arith, few))

pub takers-set : (lanes : List Lane) (takers : List Taker) (i : ℕ) (lane : Lane) (taker : Taker) → AreTakers lanes takers → IsTakerOf (get_or lanes i lane) taker
    → AreTakers lanes (set takers i taker)
unfolding AreTakers
takers-set [] [] i lane taker h own = tt
takers-set [] (t ∷ ts) i lane taker h own = absurd h
takers-set (l ∷ ls) [] i lane taker h own = absurd h
takers-set (l ∷ ls) (t ∷ ts) zero lane taker h own = (own, h.1)
takers-set (l ∷ ls) (t ∷ ts) (suc i) lane taker h own = (h.0, takers-set ls ts i lane taker h.1 own)

takes-at : (takers : List Taker) (i : ℕ) (taker : Taker) → i < length takers → get_or (map taken_with takers) i [] ≡ taken_with (get_or takers i taker)
takes-at [] i taker few = absurd (omega (arith, few))
takes-at (t ∷ ts) zero taker few = refl
takes-at (t ∷ ts) (suc i) taker few = takes-at ts i taker (omega (arith, few))

-- what was taken with the pass, after a take from the lane in this place
pub takes-more : (takers : List Taker) (i : ℕ) (old new : Taker) (o : Option RequestId) → i < length takers → old ≡ get_or takers i old
    → IfSome o (λ r. taken_with new ≡ taken_with old ++ r ∷ []) → IfNone o (taken_with new ≡ taken_with old)
    → map taken_with (set takers i new) ≡ with_take i o (map taken_with takers)
takes-more takers i old new (Some r) few is some none =
    map-set taken_with takers i new
    ∙ ap (λ l. set (map taken_with takers) i l) (some ∙ ap (λ l. l ++ r ∷ []) (ap taken_with is ∙ sym (takes-at takers i old few)))
takes-more takers i old new None few is some none = map-set_same taken_with takers i new old (none ∙ ap taken_with is)
