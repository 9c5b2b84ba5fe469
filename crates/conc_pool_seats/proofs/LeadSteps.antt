-- Each step of the lead's keeps the rule, and leaves what it is to leave.
use Rattle.std.proofs.Common.{◌≡◌, ℕ, eqb, ◌/◌, ◌<◌, ◌≤◌, ◌≢◌, ◌⊎◌, if◌then◌else◌, Bool, true, false, List, [], ◌∷◌, sym, refl, ap, ◌∙◌, subst, inl, inr, arith, length-set, get_or-set_other, get_or-set_same, eq-eqb, ne_eqb, Option, Some, None}
use mathlib.Core.Logic.{dite}
use mathlib.Core.Option.{none, some}
use native.Mathlib.Decide.{ℕ_discrete}
use lib.Seq.{set-get_or}
use prog.Atomic.{either}
use Rattle.atomic_table.specs.Table.{Me, step, keeps, takes, gives, put_back, stepped, Allows}
use Rattle.conc_types.specs.declared.event.PlaceId.{PlaceId}
use Rattle.conc_types.specs.declared.plan.Plan.{Plan}
use Rattle.conc_base_law.specs.Places.{count_of_places}
use Rattle.conc_pool_seats.specs.declared.posted.Posted.{Posted}
use Rattle.conc_pool_seats.specs.declared.views.Doing.{Doing}
use Rattle.conc_pool_seats.specs.declared.views.Doing.TheVariants.{Waits}
use Rattle.conc_pool_seats.specs.declared.views.LeadState.{LeadState}
use Rattle.conc_pool_seats.specs.declared.views.LeadState.TheVariants.{NotLet, Let, Seen, Gone, Got}
use Rattle.conc_pool_seats.specs.declared.views.View.{View}
use Rattle.conc_pool_seats.specs.Rule.{Fits, HasLeft, Home, Keep, Runs, doing_at, exclude}
use Rattle.conc_pool_seats.specs.LeadStates.{IsLet, IsLive, cleared, gone, got, is_marked, lead_state_at, looked, marked}
use Rattle.conc_pool_seats.specs.Steps.{EndedFits, MayBeLeft, RunFits, Slot, back_leaves, clear_leaves, go_leaves, got_leaves, let_out_leaves, look_leaves, note_leaves, noted, see_switch_leaves, stop_leaves, switch_leaves, with_lead_state, with_post, with_switch}
use Rattle.conc_pool_seats.specs.Words.{IsPlace, claimed, count_of_requests, count_of_words, ended, request_of, run_word, running, stopping}
use Rattle.conc_pool_seats.proofs.Facts.{apart_more, apart_same, home_there, let_free, has_place, look_fits, looked_fits, looked_live, no_permit, word_fits}
use Rattle.conc_pool_seats.proofs.Moves.{St, home, led, lead_moves, plain_moves, switch_moves, word}

module _ (plan : Plan) where
  abbrev Rule : St → Type 0
  Rule = Keep plan

  pub lets_out : (slots id : ℕ) (me : Me Slot View) (r : ℕ) → me.0.leads ≡ true → r < count_of_requests plan → lead_state_at me.0.lead_states r ≡ NotLet →
      ((q : ℕ) → IsLive (lead_state_at me.0.lead_states q) → exclude plan (request_of r) (request_of q) ≡ false) →
      Allows Rule slots id me r (λ _. 1) (let_out_leaves (step slots r 1 0 none) me)
  lets_out slots id me r leads inside out alone s k _ at _ =
      let v : View = me.0 in let n : ℕ = word s r in let w : View = with_lead_state v r Let n in
      let l = led plan s k id v at leads in let full = l.all_lead_states in let few = k.few_places in
      let fit : (n ≡ 0) × (home s r ≡ some None) = subst (λ (z : LeadState). Fits plan (doing_at s.views k.owner) (request_of r) z n (home s r)) out (l.fits r inside) in
      let zero_there = fit.0 in (
        w,
        keeps,
        tt,
        lead_moves plan s k id r 1 me.1 v w keeps (home s r) at leads inside refl refl refl refl refl (length-set v.lead_states r Let)
            (apart_more plan v.lead_states r Let l.apart alone)
            (subst (λ (z : LeadState). Fits plan (doing_at s.views k.owner) (request_of r) z 1 (home s r)) (sym (get_or-set_same v.lead_states r Let NotLet (omega arith))) (inl refl, fit.1))
            (λ q other. get_or-set_other v.lead_states r q Let NotLet other)
            (no_permit plan n 1 few (inl (omega arith)))
            (sym (set-get_or s.homes r none)),
        (refl, refl, zero_there),
      )

  pub looks : (slots id : ℕ) (me : Me Slot View) (r : ℕ) → me.0.leads ≡ true → r < count_of_requests plan → Allows Rule slots id me r (λ n. n) (look_leaves (step slots r 0 0 none) me)
  looks slots id me r leads inside s k _ at _ =
      let v : View = me.0 in let n : ℕ = word s r in let st : LeadState = looked (lead_state_at v.lead_states r) n in let w : View = with_lead_state v r st n in
      let l = led plan s k id v at leads in let full = l.all_lead_states in (
        w,
        keeps,
        tt,
        lead_moves plan s k id r n me.1 v w keeps (home s r) at leads inside refl refl refl refl refl (length-set v.lead_states r st)
            (apart_same plan v.lead_states r st l.apart (looked_live (lead_state_at v.lead_states r) n) (omega arith))
            (subst (λ (z : LeadState). Fits plan (doing_at s.views k.owner) (request_of r) z n (home s r)) (sym (get_or-set_same v.lead_states r st NotLet (omega arith))) (looked_fits plan (doing_at s.views k.owner) (request_of r) k.few_places (lead_state_at v.lead_states r) n (home s r) (l.fits r inside)))
            (λ q other. get_or-set_other v.lead_states r q st NotLet other)
            (λ stop p small h. h)
            (sym (set-get_or s.homes r none)),
        (refl, refl, has_place plan (doing_at s.views k.owner) (request_of r) v.plan st n (home s r) l.knows_plan (looked_fits plan (doing_at s.views k.owner) (request_of r) k.few_places (lead_state_at v.lead_states r) n (home s r) (l.fits r inside)), look_fits plan (doing_at s.views k.owner) (request_of r) k.few_places (lead_state_at v.lead_states r) n (home s r) (l.fits r inside)),
      )

  pub goes : (slots id : ℕ) (me : Me Slot View) (r : ℕ) (p : PlaceId) → me.0.leads ≡ true → r < count_of_requests plan → lead_state_at me.0.lead_states r ≡ Seen p →
      Allows Rule slots id me r (λ _. running p) (go_leaves (step slots r (running p) 0 none) me)
  goes slots id me r p leads inside seen s k _ at _ =
      let v : View = me.0 in let n : ℕ = word s r in let st : LeadState = gone (lead_state_at v.lead_states r) in let w : View = with_lead_state v r st n in
      let l = led plan s k id v at leads in let full = l.all_lead_states in let few = k.few_places in
      let fit : IsPlace plan p × (n ≡ claimed p) × (doing_at s.views k.owner p ≡ Waits (request_of r) p) × (home s r ≡ some None)
      = subst (λ (z : LeadState). Fits plan (doing_at s.views k.owner) (request_of r) z n (home s r)) seen (l.fits r inside) in
      let small = fit.0 in let was = fit.1 in (
        w,
        keeps,
        tt,
        lead_moves plan s k id r (running p) me.1 v w keeps (home s r) at leads inside refl refl refl refl refl (length-set v.lead_states r st)
            (apart_same plan v.lead_states r st l.apart (λ _. subst IsLive (sym seen) tt) (omega arith))
            (subst (λ (z : LeadState). Fits plan (doing_at s.views k.owner) (request_of r) z (running p) (home s r)) (sym (get_or-set_same v.lead_states r st NotLet (omega arith) ∙ ap gone seen)) (small, inl (refl, inl (fit.2, fit.3))))
            (λ q other. get_or-set_other v.lead_states r q st NotLet other)
            (no_permit plan n (running p) few (inl (omega arith)))
            (sym (set-get_or s.homes r none)),
        (refl, refl, word_fits plan (doing_at s.views k.owner) (request_of r) (lead_state_at v.lead_states r) n (home s r) (l.fits r inside)),
      )

  pub withdraws : (slots id : ℕ) (me : Me Slot View) (r : ℕ) → me.0.leads ≡ true → r < count_of_requests plan → IsLet (lead_state_at me.0.lead_states r) → Allows Rule slots id me r (λ _. 0) (back_leaves (step slots r 0 0 none) me)
  withdraws slots id me r leads inside is s k _ at _ =
      let v : View = me.0 in let n : ℕ = word s r in let w : View = with_lead_state v r NotLet n in
      let l = led plan s k id v at leads in let full = l.all_lead_states in let few = k.few_places in
      let free = let_free plan (doing_at s.views k.owner) (request_of r) few (lead_state_at v.lead_states r) n (home s r) is (l.fits r inside) in let low = free.1 in (
        w,
        keeps,
        tt,
        lead_moves plan s k id r 0 me.1 v w keeps (home s r) at leads inside refl refl refl refl refl (length-set v.lead_states r NotLet)
            (apart_same plan v.lead_states r NotLet l.apart (λ none_live. absurd none_live) (omega arith))
            (subst (λ (z : LeadState). Fits plan (doing_at s.views k.owner) (request_of r) z 0 (home s r)) (sym (get_or-set_same v.lead_states r NotLet NotLet (omega arith))) (refl, free.0))
            (λ q other. get_or-set_other v.lead_states r q NotLet NotLet other)
            (no_permit plan n 0 few (inl low))
            (sym (set-get_or s.homes r none)),
        (refl, refl, word_fits plan (doing_at s.views k.owner) (request_of r) (lead_state_at v.lead_states r) n (home s r) (l.fits r inside)),
      )

  ran : (m : Bool) (p : PlaceId) → IsPlace plan p → count_of_places plan ≤ 64 → (run_word m p < 1024) × (512 ≤ run_word m p)
  ran true p small few = (omega arith, omega arith)
  ran false p small few = (omega arith, omega arith)

  -- the exchange found the word Running at p, so the request was not marked
  stopped_fits : (at : PlaceId → Doing) (r : ℕ) (p : PlaceId) (m : Bool) (n : ℕ) (h : Home) → count_of_places plan ≤ 64 → n ≡ running p → Fits plan at (request_of r) (Gone p m) n h → Fits plan at (request_of r) (Gone p true) (stopping p) h
  stopped_fits at r p m n h few hit (small, inl e) = (small, inl (refl, e.1))
  stopped_fits at r p m n h few hit (small, inr e) = let x = e.0 in absurd (omega arith)

  stop_permits : (p : PlaceId) (n : ℕ) → count_of_places plan ≤ 64 → IsPlace plan p → n ≡ running p → (stop : Bool) (q : PlaceId) → IsPlace plan q → Runs stop q n → Runs stop q (stopping p)
  stop_permits p n few small hit false q near (inl e) = inr (omega arith)
  stop_permits p n few small hit false q near (inr e) = absurd (omega arith)
  stop_permits p n few small hit true q near e = absurd (omega arith)

  pub stops : (slots id : ℕ) (me : Me Slot View) (r : ℕ) (p : PlaceId) (m : Bool) → me.0.leads ≡ true → r < count_of_requests plan → lead_state_at me.0.lead_states r ≡ Gone p m →
      Allows Rule slots id me r (λ n. either (eqb n (running p)) (stopping p) n) (stop_leaves (step slots r (running p) (stopping p) none) me)
  stops slots id me r p m leads inside is s k _ at _ =
      let v : View = me.0 in let n : ℕ = word s r in let st : LeadState = marked (lead_state_at v.lead_states r) in
      let l = led plan s k id v at leads in let full = l.all_lead_states in let few = k.few_places in
      let fit : Fits plan (doing_at s.views k.owner) (request_of r) (Gone p m) n (home s r) = subst (λ (z : LeadState). Fits plan (doing_at s.views k.owner) (request_of r) z n (home s r)) is (l.fits r inside) in
      let small = fit.0 in
      dite (ℕ_discrete n (running p))
      (λ hit. let w : View = with_lead_state v r st n in (
        w,
        keeps,
        tt,
        subst (λ b. Rule (stepped s r (either b (stopping p) n) id me.1 w keeps)) (sym (eq-eqb n (running p) hit))
            (lead_moves plan s k id r (stopping p) me.1 v w keeps (home s r) at leads inside refl refl refl refl refl (length-set v.lead_states r st)
            (apart_same plan v.lead_states r st l.apart (λ _. subst IsLive (sym is) tt) (omega arith))
            (subst (λ (z : LeadState). Fits plan (doing_at s.views k.owner) (request_of r) z (stopping p) (home s r)) (sym (get_or-set_same v.lead_states r st NotLet (omega arith) ∙ ap marked is)) (stopped_fits (doing_at s.views k.owner) r p m n (home s r) few hit fit))
            (λ q other. get_or-set_other v.lead_states r q st NotLet other)
            (stop_permits p n few small hit)
            (sym (set-get_or s.homes r none))),
        (subst (λ b. w ≡ (if b then w else noted v r n)) (sym (eq-eqb n (running p) hit)) refl, refl, word_fits plan (doing_at s.views k.owner) (request_of r) (lead_state_at v.lead_states r) n (home s r) (l.fits r inside)),
      ))
      (λ miss. let w : View = noted v r n in (
        w,
        keeps,
        tt,
        subst (λ b. Rule (stepped s r (either b (stopping p) n) id me.1 w keeps)) (sym (ne_eqb n (running p) miss)) (plain_moves plan s k id r n n me.1 v at (omega arith) refl),
        (subst (λ b. w ≡ (if b then with_lead_state v r st n else w)) (sym (ne_eqb n (running p) miss)) refl, refl, word_fits plan (doing_at s.views k.owner) (request_of r) (lead_state_at v.lead_states r) n (home s r) (l.fits r inside)),
      ))

  -- what the lead finds in the slot of a request that ended
  has_ended : (at : PlaceId → Doing) (r : ℕ) (p : PlaceId) (m : Bool) (n : ℕ) (h : Home) → count_of_places plan ≤ 64 → n / 256 ≡ 4 → Fits plan at (request_of r) (Gone p m) n h → (n ≡ ended p) × HasLeft plan (request_of r) m h
  has_ended at r p m n h few four (small, inr e) = e
  has_ended at r p m n h few four (small, inl e) = let x = e.0 in let y = ran m p small few in let lt = y.0 in absurd (omega arith)

  not_ended : (at : PlaceId → Doing) (r : ℕ) (p : PlaceId) (m : Bool) (n : ℕ) (h : Home) → count_of_places plan ≤ 64 → n / 256 ≢ 4 → Fits plan at (request_of r) (Gone p m) n h → (n ≡ running p) ⊎ (n ≡ stopping p)
  not_ended at r p true n h few not (near, inl e) = inr e.0
  not_ended at r p false n h few not (near, inl e) = inl e.0
  not_ended at r p m n h few not (near, inr e) = let x = e.0 in absurd (not (omega arith))

  pub collects : (slots id : ℕ) (me : Me Slot View) (r : ℕ) (p : PlaceId) (m : Bool) → me.0.leads ≡ true → r < count_of_requests plan → lead_state_at me.0.lead_states r ≡ Gone p m →
      Allows Rule slots id me r (λ n. n) (got_leaves (step slots r 0 0 none) me)
  collects slots id me r p m leads inside is s k _ at _ =
      let v : View = me.0 in let n : ℕ = word s r in let st : LeadState = got (lead_state_at v.lead_states r) in
      let l = led plan s k id v at leads in let full = l.all_lead_states in let few = k.few_places in
      let fit : Fits plan (doing_at s.views k.owner) (request_of r) (Gone p m) n (home s r) = subst (λ (z : LeadState). Fits plan (doing_at s.views k.owner) (request_of r) z n (home s r)) is (l.fits r inside) in
      dite (ℕ_discrete (n / 256) 4)
      (λ four. let e = has_ended (doing_at s.views k.owner) r p m n (home s r) few four fit in let x : Posted = e.1.0 in let w : View = with_post (with_lead_state v r st n) r x in (
        w,
        takes r (Some x),
        home_there s.homes r (Some x) e.1.1,
        lead_moves plan s k id r n me.1 v w (takes r (Some x)) none at leads inside refl refl refl refl refl (length-set v.lead_states r st)
            (apart_same plan v.lead_states r st l.apart (λ _. subst IsLive (sym is) tt) (omega arith))
            (subst (λ (z : LeadState). Fits plan (doing_at s.views k.owner) (request_of r) z n none) (sym (get_or-set_same v.lead_states r st NotLet (omega arith) ∙ ap got is)) (fit.0, e.0, refl))
            (λ q other. get_or-set_other v.lead_states r q st NotLet other)
            (λ stop q near h. h)
            refl,
        ((λ _. (subst (λ (z : LeadState). EndedFits z n) (sym is) e.0, (x, refl, refl, subst (λ (z : Option Plan × Bool). MayBeLeft z.0 (request_of r) z.1 x) (λ i. (sym l.knows_plan i, ap is_marked (sym is) i)) e.1.2))), (λ not. absurd (not four))),
      ))
      (λ not. let w : View = noted v r n in (
        w,
        keeps,
        tt,
        plain_moves plan s k id r n n me.1 v at (omega arith) refl,
        ((λ four. absurd (not four)), (λ _. (refl, refl, subst (λ (z : LeadState). RunFits z n) (sym is) (not_ended (doing_at s.views k.owner) r p m n (home s r) few not fit)))),
      ))

  pub clears : (slots id : ℕ) (me : Me Slot View) (r : ℕ) (p : PlaceId) (m : Bool) → me.0.leads ≡ true → r < count_of_requests plan → lead_state_at me.0.lead_states r ≡ Got p m → me.1 ≡ (r, None) ∷ [] →
      Allows Rule slots id me r (λ _. 2) (clear_leaves (step slots r 2 0 none) me)
  clears slots id me r p m leads inside is carries s k _ at _ =
      let v : View = me.0 in let n : ℕ = word s r in let st : LeadState = cleared (lead_state_at v.lead_states r) in let w : View = with_lead_state v r st n in
      let l = led plan s k id v at leads in let full = l.all_lead_states in let few = k.few_places in
      let fit : IsPlace plan p × (n ≡ ended p) × (home s r ≡ none) = subst (λ (z : LeadState). Fits plan (doing_at s.views k.owner) (request_of r) z n (home s r)) is (l.fits r inside) in
      let was = fit.1 in (
        w,
        gives,
        tt,
        lead_moves plan s k id r 2 me.1 v w gives (some None) at leads inside refl refl refl refl refl (length-set v.lead_states r st)
            (apart_same plan v.lead_states r st l.apart (λ _. subst IsLive (sym is) tt) (omega arith))
            (subst (λ (z : LeadState). Fits plan (doing_at s.views k.owner) (request_of r) z 2 (some None)) (sym (get_or-set_same v.lead_states r st NotLet (omega arith) ∙ ap cleared is)) (refl, refl))
            (λ q other. get_or-set_other v.lead_states r q st NotLet other)
            (no_permit plan n 2 few (inr (omega arith)))
            (ap (λ (cs : List (ℕ × Slot)). put_back s.homes cs) carries),
        (refl, refl, word_fits plan (doing_at s.views k.owner) (request_of r) (lead_state_at v.lead_states r) n (home s r) (l.fits r inside)),
      )

  -- the lead's write of the word of a place or of the end, and a load of one by any seat
  pub switches : (slots id : ℕ) (me : Me Slot View) (i x : ℕ) → me.0.leads ≡ true → count_of_requests plan ≤ i → i < count_of_words plan → x ≤ 1 →
      Allows Rule slots id me i (λ _. x) (switch_leaves (step slots i x 0 none) me)
  switches slots id me i x leads far inside small s k _ at _ = let n : ℕ = word s i in let l = led plan s k id me.0 at leads in
      (with_switch me.0 i x n, keeps, tt, switch_moves plan s k id i x n me.1 me.0 at leads far inside small, (refl, refl, l.each_switch i far, k.switches i far))

  pub sees : (slots id : ℕ) (me : Me Slot View) (i : ℕ) → count_of_requests plan ≤ i → i < count_of_words plan →
      Allows Rule slots id me i (λ n. n) (see_switch_leaves (step slots i 0 0 none) me)
  sees slots id me i far inside s k _ at _ = let n : ℕ = word s i in
      (noted me.0 i n, keeps, tt, plain_moves plan s k id i n n me.1 me.0 at inside refl, (refl, refl, k.switches i far))

  -- a load of the word of a request by any seat, which learns nothing else
  pub notes : (slots id : ℕ) (me : Me Slot View) (i : ℕ) → i < count_of_requests plan →
      Allows Rule slots id me i (λ n. n) (note_leaves (step slots i 0 0 none) me)
  notes slots id me i inside s k _ at _ = let n : ℕ = word s i in
      (noted me.0 i n, keeps, tt, plain_moves plan s k id i n n me.1 me.0 at (omega arith) refl, (refl, refl))

  -- ---- the same, where the numbers are called otherwise

  pub goes_by : (slots id : ℕ) (me : Me Slot View) (i : ℕ) (p : PlaceId) (x : ℕ) → x ≡ running p → me.0.leads ≡ true → i < count_of_requests plan →
      lead_state_at me.0.lead_states i ≡ Seen p → Allows Rule slots id me i (λ _. x) (go_leaves (step slots i x 0 none) me)
  goes_by slots id me i p x e leads inside seen = subst (λ (z : ℕ). Allows Rule slots id me i (λ _. z) (go_leaves (step slots i z 0 none) me)) (sym e) (goes slots id me i p leads inside seen)

  pub stops_by : (slots id : ℕ) (me : Me Slot View) (i : ℕ) (p : PlaceId) (m : Bool) (x y : ℕ) → x ≡ running p → y ≡ stopping p → me.0.leads ≡ true → i < count_of_requests plan →
      lead_state_at me.0.lead_states i ≡ Gone p m → Allows Rule slots id me i (λ n. either (eqb n x) y n) (stop_leaves (step slots i x y none) me)
  stops_by slots id me i p m x y e f leads inside is = subst (λ (z : ℕ × ℕ). Allows Rule slots id me i (λ n. either (eqb n z.0) z.1 n) (stop_leaves (step slots i z.0 z.1 none) me))
      (λ k. (sym e k, sym f k)) (stops slots id me i p m leads inside is)
