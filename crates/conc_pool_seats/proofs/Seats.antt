-- A new board meets the rule, and splits and joins of seats keep it.
use Rattle.std.proofs.Common.{◌≡◌, ℕ, zero, suc, ◌<◌, ◌≤◌, ◌≢◌, ◌⊎◌, ◌==◌, ◌||◌, if◌then◌else◌, Bool, true, false, true≢false, List, [], ◌∷◌, ◌++◌, length, map, replicate, get_or, set, sym, refl, ap, ◌∙◌, subst, inl, inr, ⊎_elim, arith, length-set, get_or-set_other, get_or-set_same, eq-eqb, ne_eqb, Option, None}
use mathlib.Core.Logic.{dite}
use mathlib.Core.Option.{some}
use native.Mathlib.Decide.{ℕ_discrete}
use Rattle.std.proofs.lemmas.List.{length-replicate}
use Rattle.atomic_table.specs.Table.{opening, Splits, Joins}
use Rattle.conc_types.specs.declared.event.PlaceId.{PlaceId}
use Rattle.conc_types.specs.declared.plan.Plan.{Plan}
use Rattle.conc_base_law.specs.Places.{count_of_places}
use Rattle.conc_pool_seats.specs.declared.views.Doing.{Doing}
use Rattle.conc_pool_seats.specs.declared.views.Doing.TheVariants.{Idle, Waits, Serves}
use Rattle.conc_pool_seats.specs.declared.views.LeadState.{LeadState}
use Rattle.conc_pool_seats.specs.declared.views.LeadState.TheVariants.{NotLet}
use Rattle.conc_pool_seats.specs.declared.views.View.{View}
use Rattle.conc_pool_seats.specs.Places.{has, without}
use Rattle.conc_pool_seats.specs.Rule.{AreApart, Fits, IsAtOwn, Keep, Works, doing_at, first_view, home_at, nobody, view_at}
use Rattle.conc_pool_seats.specs.LeadStates.{IsLive, lead_state_at}
use Rattle.conc_pool_seats.specs.Steps.{Slot, given, joined, with_places_off}
use Rattle.conc_pool_seats.specs.Words.{count_of_requests, count_of_words, request_of}
use Rattle.conc_pool_seats.proofs.Facts.{at_view, place_eq, replicate_at, same_part}
use Rattle.conc_pool_seats.proofs.Moves.{home, led, word}

abbrev nones : ℕ → List Slot
nones n = replicate n None

homes_at : (n r : ℕ) → r < n → home_at (map some (nones n)) r ≡ some None
homes_at zero r l = absurd (omega arith)
homes_at (suc n) zero l = refl
homes_at (suc n) (suc r) l = homes_at n r (omega arith)

length_homes : (n : ℕ) → length (map some (nones n)) ≡ n
length_homes zero = refl
length_homes (suc n) = ap suc (length_homes n)

or_right : (a b : Bool) → b ≡ true → a || b ≡ true
or_right true b e = refl
or_right false b e = e

-- the places without some, and with some
has_without : (qs ps : List PlaceId) (p : PlaceId) → has (without qs ps) p ≡ true → (has qs p ≡ true) × (has ps p ≡ false)
has_without [] ps p e = absurd (cc)
has_without (q ∷ qs) ps p e = go (has_without qs ps p) (has ps q) refl
  where
    go : (has (without qs ps) p ≡ true → (has qs p ≡ true) × (has ps p ≡ false)) → (b : Bool) → has ps q ≡ b → (has (q ∷ qs) p ≡ true) × (has ps p ≡ false)
    go again true is = let f : has (without qs ps) p ≡ true = subst (λ b. has (if b then without qs ps else q ∷ without qs ps) p ≡ true) is e in let t = again f in (or_right (q.index == p.index) (has qs p) t.0, t.1)
    go again false is = let f : (q.index == p.index) || has (without qs ps) p ≡ true = subst (λ b. has (if b then without qs ps else q ∷ without qs ps) p ≡ true) is e in
        dite (ℕ_discrete q.index p.index) (λ same. (ap (λ b. b || has qs p) (eq-eqb q.index p.index same), ap (has ps) (sym (place_eq q p same)) ∙ is))
        (λ other. let t = again (subst (λ b. b || has (without qs ps) p ≡ true) (ne_eqb q.index p.index other) f) in (or_right (q.index == p.index) (has qs p) t.0, t.1))

or_false : (x y : Bool) → x || y ≡ false → (x ≡ false) × (y ≡ false)
or_false true y e = absurd (true≢false e)
or_false false y e = (refl, e)

has_append : (ps qs : List PlaceId) (p : PlaceId) → has ps p ≡ false → has (ps ++ qs) p ≡ has qs p
has_append [] qs p e = refl
has_append (a ∷ ps) qs p e = let t = or_false (a.index == p.index) (has ps p) e in ap (λ b. b || has (ps ++ qs) p) t.0 ∙ has_append ps qs p t.1

-- one owner for some places
abbrev moved : List PlaceId → ℕ → (PlaceId → ℕ) → PlaceId → ℕ
moved ps j owner p = if has ps p then j else owner p

moved_there : (ps : List PlaceId) (j : ℕ) (owner : PlaceId → ℕ) (p : PlaceId) → has ps p ≡ true → moved ps j owner p ≡ j
moved_there ps j owner p e = ap (λ b. if b then j else owner p) e

moved_else : (ps : List PlaceId) (j : ℕ) (owner : PlaceId → ℕ) (p : PlaceId) → has ps p ≡ false → moved ps j owner p ≡ owner p
moved_else ps j owner p e = ap (λ b. if b then j else owner p) e

either_is : (b : Bool) → (b ≡ true) ⊎ (b ≡ false)
either_is true = inl refl
either_is false = inr refl

-- a view at the end of the list
last_view : (vs : List View) (w : View) → view_at (vs ++ w ∷ []) (length vs) ≡ w
last_view [] w = refl
last_view (v ∷ vs) w = last_view vs w

front_view : (vs : List View) (w : View) (j : ℕ) → j ≢ length vs → view_at (vs ++ w ∷ []) j ≡ view_at vs j
front_view [] w zero ne = absurd (ne refl)
front_view [] w (suc j) ne = refl
front_view (v ∷ vs) w zero ne = refl
front_view (v ∷ vs) w (suc j) ne = front_view vs w j (λ e. ne (ap suc e))

no_view : (vs : List View) → view_at vs (length vs) ≡ nobody
no_view [] = refl
no_view (v ∷ vs) = no_view vs

module _ (plan : Plan) where
  pub opens : count_of_places plan ≤ 64 → (ws : List ℕ) → ws ≡ replicate (count_of_words plan) 0 → Keep plan (opening ws (nones (count_of_requests plan)) (first_view plan))
  opens few ws zeros = record {
    lead = 0;
    owner = λ _. 0;
    few_places = few;
    all_words = ap (λ (l : List ℕ). length l) zeros ∙ length-replicate (count_of_words plan) 0;
    all_slots = length_homes (count_of_requests plan);
    all_lead_states = length-replicate (count_of_requests plan) NotLet;
    leads = refl;
    one_lead = λ j e. dite (ℕ_discrete j 0) (λ z. z) (λ other. absurd (cc (sym (ap (λ (u : View). u.leads) (beyond j other)) ∙ e)));
    knows_plan = refl;
    one_owner = λ j p e. dite (ℕ_discrete j 0) (λ z. sym z) (λ other. absurd (cc (sym (ap (λ (u : View). has u.places p) (beyond j other)) ∙ e)));
    at_own = λ j. subst (IsAtOwn (view_at (first_view plan ∷ []) j).places) (sym (idle j)) tt;
    apart = λ x y ne lx ly. absurd (subst IsLive (replicate_at (count_of_requests plan) x NotLet) lx);
    each_request = λ r l. subst (λ (z : LeadState). Fits plan (doing_at (first_view plan ∷ []) (λ _. 0)) (request_of r) z (get_or ws r 0) (home_at (map some (nones (count_of_requests plan))) r)) (sym (replicate_at (count_of_requests plan) r NotLet)) (zero_word r, homes_at (count_of_requests plan) r l);
    each_seat = λ j. subst (Works plan (λ _. 0) ws j) (sym (idle j)) tt;
    all_switches = length-replicate (count_of_words plan) 0;
    each_switch = λ i far. zero_word i ∙ sym (replicate_at (count_of_words plan) i 0);
    switches = λ i far. let z = zero_word i in omega arith;
  }
    where
      beyond : (j : ℕ) → j ≢ 0 → view_at (first_view plan ∷ []) j ≡ nobody
      beyond zero ne = absurd (ne refl)
      beyond (suc j) ne = refl

      idle : (j : ℕ) → (view_at (first_view plan ∷ []) j).doing ≡ Idle
      idle zero = refl
      idle (suc j) = refl

      zero_word : (r : ℕ) → get_or ws r 0 ≡ 0
      zero_word r = ap (λ (l : List ℕ). get_or l r 0) zeros ∙ replicate_at (count_of_words plan) r 0

  -- a seat is at its place still, where only idle seats' places have passed on
  works_moved : (d : Doing) (owner owner' : PlaceId → ℕ) (ws : List ℕ) (j : ℕ) → ((p : PlaceId) → d ≢ Idle → owner p ≡ j → owner' p ≡ j) → Works plan owner ws j d → Works plan owner' ws j d
  works_moved Idle owner owner' ws j stays h = tt
  works_moved (Waits r p) owner owner' ws j stays h = (stays p (λ e. cc) h.0, h.1, h.2)
  works_moved (Serves r p stop) owner owner' ws j stays h = (stays p (λ e. cc) h.0, h.1, h.2, h.3)

  pub splits : (id : ℕ) (v : View) (ps : List PlaceId) → v.doing ≡ Idle → ((p : PlaceId) → has ps p ≡ true → has v.places p ≡ true) → Splits (Keep plan) id v (with_places_off ps v) (given ps v)
  splits id v ps idle mine s k at =
      let here = at_view s.views id v at in
      let left : View = with_places_off ps v in let right : View = given ps v in
      let mid : List View = set s.views id left in
      let vs : List View = mid ++ right ∷ [] in
      let new : ℕ = length mid in
      let long : new ≡ length s.views = length-set s.views id left in
      let owner' : PlaceId → ℕ = moved ps new k.owner in
      let owns : (p : PlaceId) → has ps p ≡ true → k.owner p ≡ id = λ p e. k.one_owner id p (ap (λ (u : View). has u.places p) here.1 ∙ mine p e) in
      let near : id ≢ new = λ e. let l = here.0 in omega arith in
      let part : (A : Type 0) (f : View → A) → f left ≡ f v → f right ≡ f nobody → (j : ℕ) → f (view_at vs j) ≡ f (view_at s.views j) = λ A f a b j. dite (ℕ_discrete j new)
      (λ e. ap (λ (q : ℕ). f (view_at vs q)) e ∙ (ap f (last_view mid right) ∙ (b ∙ sym (ap (λ (q : ℕ). f (view_at s.views q)) (e ∙ long) ∙ ap f (no_view s.views)))))
      (λ other. ap f (front_view mid right j other) ∙ same_part f s.views id v left at a j) in
      let doing_same : (j : ℕ) → (view_at vs j).doing ≡ (view_at s.views j).doing = part Doing (λ u. u.doing) refl refl in
      let at_same : (p : PlaceId) → doing_at s.views k.owner p ≡ doing_at vs owner' p = λ p. ⊎_elim
      (λ e. let o = owns p e in ap (λ (j : ℕ). (view_at s.views j).doing) o ∙ (ap (λ (u : View). u.doing) here.1 ∙ (idle ∙ sym (ap (λ (j : ℕ). (view_at vs j).doing) (moved_there ps new k.owner p e) ∙ ap (λ (u : View). u.doing) (last_view mid right)))))
      (λ e. sym (ap (λ (j : ℕ). (view_at vs j).doing) (moved_else ps new k.owner p e) ∙ doing_same (k.owner p))) (either_is (has ps p)) in
      let lead_states = part (List LeadState) (λ u. u.lead_states) refl refl k.lead in
      let switches = part (List ℕ) (λ u. u.switches) refl refl k.lead in
      record {
        lead = k.lead;
        owner = owner';
        few_places = k.few_places;
        all_words = k.all_words;
        all_slots = k.all_slots;
        all_lead_states = ap (λ (ss : List LeadState). length ss) lead_states ∙ k.all_lead_states;
        leads = part Bool (λ u. u.leads) refl refl k.lead ∙ k.leads;
        one_lead = λ j e. k.one_lead j (sym (part Bool (λ u. u.leads) refl refl j) ∙ e);
        knows_plan = part (Option Plan) (λ u. u.plan) refl refl k.lead ∙ k.knows_plan;
        one_owner = λ j p e. dite (ℕ_discrete j new)
            (λ is. moved_there ps new k.owner p (sym (ap (λ (q : ℕ). has (view_at vs q).places p) is ∙ ap (λ (u : View). has u.places p) (last_view mid right)) ∙ e) ∙ sym is)
            (λ other. let f : has (view_at mid j).places p ≡ true = sym (ap (λ (u : View). has u.places p) (front_view mid right j other)) ∙ e in dite (ℕ_discrete j id)
            (λ is. let g : has (without v.places ps) p ≡ true = sym (ap (λ (q : ℕ). has (view_at mid q).places p) is ∙ ap (λ (u : View). has u.places p) (get_or-set_same s.views id left nobody here.0)) ∙ f in
            let t = has_without v.places ps p g in moved_else ps new k.owner p t.1 ∙ (k.one_owner id p (ap (λ (u : View). has u.places p) here.1 ∙ t.0) ∙ sym is))
            (λ apart. let g : k.owner p ≡ j = k.one_owner j p (sym (ap (λ (u : View). has u.places p) (get_or-set_other s.views id j left nobody apart)) ∙ f) in
            ⊎_elim (λ h. absurd (apart (sym g ∙ owns p h))) (λ h. moved_else ps new k.owner p h ∙ g) (either_is (has ps p))));
        at_own = λ j. dite (ℕ_discrete j new)
            (λ e. subst (IsAtOwn (view_at vs j).places) (sym (ap (λ (q : ℕ). (view_at vs q).doing) e ∙ ap (λ (u : View). u.doing) (last_view mid right))) tt)
            (λ other. subst (λ (u : View). IsAtOwn u.places u.doing) (sym (front_view mid right j other))
            (dite (ℕ_discrete j id)
            (λ e. subst (λ (u : View). IsAtOwn u.places u.doing) (sym (ap (view_at mid) e ∙ get_or-set_same s.views id left nobody here.0)) (subst (IsAtOwn left.places) (sym idle) tt))
            (λ apart. subst (λ (u : View). IsAtOwn u.places u.doing) (sym (get_or-set_other s.views id j left nobody apart)) (k.at_own j))));
        apart = subst (AreApart plan) (sym lead_states) k.apart;
        each_request = λ r l. subst (λ (z : (PlaceId → Doing) × LeadState). Fits plan z.0 (request_of r) z.1 (word s r) (home s r)) (λ i. ((λ p. at_same p i), ap (λ (ss : List LeadState). lead_state_at ss r) (sym lead_states) i)) (k.each_request r l);
        each_seat = λ j. subst (Works plan owner' s.words j) (sym (doing_same j)) (works_moved (view_at s.views j).doing k.owner owner' s.words j
            (λ p busy o. ⊎_elim (λ e. absurd (busy (ap (λ (q : ℕ). (view_at s.views q).doing) (sym o ∙ owns p e) ∙ (ap (λ (u : View). u.doing) here.1 ∙ idle)))) (λ e. moved_else ps new k.owner p e ∙ o) (either_is (has ps p))) (k.each_seat j));
        all_switches = ap (λ (xs : List ℕ). length xs) switches ∙ k.all_switches;
        each_switch = λ i far. k.each_switch i far ∙ sym (ap (λ (xs : List ℕ). get_or xs i 0) switches);
        switches = k.switches;
      }

  pub joins : (id : ℕ) (v : View) (other : ℕ) (w : View) → v.leads ≡ true → v.doing ≡ Idle → w.leads ≡ false → w.doing ≡ Idle → Joins (Keep plan) id v other w (joined v w) nobody
  joins id v other w leads idle led_not idle_too s k at two there =
      let here = at_view s.views id v at in
      let both : View = joined v w in
      let mid : List View = set s.views id both in
      let vs : List View = set mid other nobody in
      let far = at_view mid other w there in
      let was : view_at s.views other ≡ w = sym (get_or-set_other s.views id other both nobody two) ∙ far.1 in
      let l = led plan s k id v at leads in
      let owner' : PlaceId → ℕ = moved w.places id k.owner in
      let owns : (p : PlaceId) → has w.places p ≡ true → k.owner p ≡ other = λ p e. k.one_owner other p (ap (λ (u : View). has u.places p) was ∙ e) in
      let at_other : view_at vs other ≡ nobody = get_or-set_same mid other nobody nobody far.0 in
      let at_id : view_at vs id ≡ both = get_or-set_other mid other id nobody nobody (λ e. two (sym e)) ∙ get_or-set_same s.views id both nobody here.0 in
      let at_else : (j : ℕ) → j ≢ other → j ≢ id → view_at vs j ≡ view_at s.views j = λ j a b. get_or-set_other mid other j nobody nobody a ∙ get_or-set_other s.views id j both nobody b in
      let doing_same : (j : ℕ) → (view_at vs j).doing ≡ (view_at s.views j).doing = λ j. dite (ℕ_discrete j other)
      (λ e. ap (λ (q : ℕ). (view_at vs q).doing) e ∙ (ap (λ (u : View). u.doing) at_other ∙ sym (ap (λ (q : ℕ). (view_at s.views q).doing) e ∙ (ap (λ (u : View). u.doing) was ∙ idle_too))))
      (λ a. dite (ℕ_discrete j id) (λ e. ap (λ (q : ℕ). (view_at vs q).doing) e ∙ (ap (λ (u : View). u.doing) at_id ∙ sym (ap (λ (q : ℕ). (view_at s.views q).doing) e ∙ ap (λ (u : View). u.doing) here.1)))
      (λ b. ap (λ (u : View). u.doing) (at_else j a b))) in
      let at_same : (p : PlaceId) → doing_at s.views k.owner p ≡ doing_at vs owner' p = λ p. ⊎_elim
      (λ e. ap (λ (j : ℕ). (view_at s.views j).doing) (owns p e) ∙ (ap (λ (u : View). u.doing) was ∙ (idle_too ∙ sym (ap (λ (j : ℕ). (view_at vs j).doing) (moved_there w.places id k.owner p e) ∙ (ap (λ (u : View). u.doing) at_id ∙ idle)))))
      (λ e. sym (ap (λ (j : ℕ). (view_at vs j).doing) (moved_else w.places id k.owner p e) ∙ doing_same (k.owner p))) (either_is (has w.places p)) in
      let now : view_at vs k.lead ≡ both = ap (view_at vs) (sym l.is) ∙ at_id in
      let lead_states : (view_at vs k.lead).lead_states ≡ v.lead_states = ap (λ (u : View). u.lead_states) now in
      record {
        lead = k.lead;
        owner = owner';
        few_places = k.few_places;
        all_words = k.all_words;
        all_slots = k.all_slots;
        all_lead_states = ap (λ (ss : List LeadState). length ss) lead_states ∙ l.all_lead_states;
        leads = ap (λ (u : View). u.leads) now ∙ leads;
        one_lead = λ j e. dite (ℕ_discrete j other)
            (λ is. absurd (cc (sym (ap (λ (q : ℕ). (view_at vs q).leads) is ∙ ap (λ (u : View). u.leads) at_other) ∙ e)))
            (λ a. dite (ℕ_discrete j id) (λ is. is ∙ l.is) (λ b. k.one_lead j (sym (ap (λ (u : View). u.leads) (at_else j a b)) ∙ e)));
        knows_plan = ap (λ (u : View). u.plan) now ∙ l.knows_plan;
        one_owner = λ j p e. dite (ℕ_discrete j other)
            (λ is. absurd (cc (sym (ap (λ (q : ℕ). has (view_at vs q).places p) is ∙ ap (λ (u : View). has u.places p) at_other) ∙ e)))
            (λ a. dite (ℕ_discrete j id)
            (λ is. let f : has (w.places ++ v.places) p ≡ true = sym (ap (λ (q : ℕ). has (view_at vs q).places p) is ∙ ap (λ (u : View). has u.places p) at_id) ∙ e in
            ⊎_elim (λ h. moved_there w.places id k.owner p h ∙ sym is) (λ h. moved_else w.places id k.owner p h ∙ (k.one_owner id p (ap (λ (u : View). has u.places p) here.1 ∙ (sym (has_append w.places v.places p h) ∙ f)) ∙ sym is)) (either_is (has w.places p)))
            (λ b. let g : k.owner p ≡ j = k.one_owner j p (sym (ap (λ (u : View). has u.places p) (at_else j a b)) ∙ e) in
            ⊎_elim (λ h. absurd (a (sym g ∙ owns p h))) (λ h. moved_else w.places id k.owner p h ∙ g) (either_is (has w.places p))));
        at_own = λ j. dite (ℕ_discrete j other)
            (λ e. subst (λ (u : View). IsAtOwn u.places u.doing) (sym (ap (view_at vs) e ∙ at_other)) tt)
            (λ a. dite (ℕ_discrete j id)
            (λ e. subst (λ (u : View). IsAtOwn u.places u.doing) (sym (ap (view_at vs) e ∙ at_id)) (subst (IsAtOwn both.places) (sym idle) tt))
            (λ b. subst (λ (u : View). IsAtOwn u.places u.doing) (sym (at_else j a b)) (k.at_own j)));
        apart = subst (AreApart plan) (sym lead_states) l.apart;
        each_request = λ r near. subst (λ (z : (PlaceId → Doing) × LeadState). Fits plan z.0 (request_of r) z.1 (word s r) (home s r)) (λ i. ((λ p. at_same p i), ap (λ (ss : List LeadState). lead_state_at ss r) (sym lead_states) i)) (l.fits r near);
        each_seat = λ j. subst (Works plan owner' s.words j) (sym (doing_same j)) (works_moved (view_at s.views j).doing k.owner owner' s.words j
            (λ p busy o. ⊎_elim (λ e. absurd (busy (ap (λ (q : ℕ). (view_at s.views q).doing) (sym o ∙ owns p e) ∙ (ap (λ (u : View). u.doing) was ∙ idle_too)))) (λ e. moved_else w.places id k.owner p e ∙ o) (either_is (has w.places p))) (k.each_seat j));
        all_switches = ap (λ (u : View). length u.switches) now ∙ l.all_switches;
        each_switch = λ i far. l.each_switch i far ∙ sym (ap (λ (u : View). get_or u.switches i 0) now);
        switches = k.switches;
      }
