-- In a lawful history the commands that are done are the first ones of the plan.
use Rattle.std.proofs.Common.{◌≡◌, ◌⊎◌, ℕ, zero, suc, ◌+◌, ◌<◌, ◌≤◌, Bool, true, false, not, ◌&&◌, List, [], ◌∷◌, length, Option, None, Some, refl, sym, ◌∙◌, ap, subst, inl, inr, arith}
use Rattle.std.specs.Prelude.{nat_le, slice_get, unwrap_or}
use Rattle.std.specs.List.{enumerate_from, find}
use Rattle.std.specs.Option.{option_map}
use Rattle.std.proofs.lemmas.Bool.{and_cases, and_parts, both_ways, cases_Bool, eqb-true, false_from_ne_true, leb-true, not-false, or_cases, or_right}
use Rattle.std.proofs.lemmas.Option.{slice_get_within}
use Rattle.std.proofs.lemmas.Bool.Decides.{nat_tests}
use Rattle.conc_types.specs.declared.event.Event.{Event}
use Rattle.conc_types.specs.declared.event.Event.TheVariants as event
use Rattle.conc_types.specs.declared.event.Moment.{Moment}
use Rattle.conc_types.specs.declared.facts.State.{State}
use Rattle.conc_types.specs.declared.plan.Plan.{Plan}
use Rattle.conc_types.specs.declared.plan.Req.{Req}
use Rattle.conc_types.specs.declared.script.Order.{Order}
use Rattle.conc_types.specs.declared.setup.Setup.{Setup}
use Rattle.conc_types.specs.Scripts.{are_commands_from, entered_by, is_act}
use Rattle.conc_base_law.specs.Before.{occurs}
use Rattle.conc_base_law.specs.Kinds.{is_command}
use Rattle.conc_base_law.specs.Law.{is_lawful_so_far, may_follow}
use Rattle.conc_base_law.specs.Next.{forced, forced_command, forced_interrupt, forced_let, forced_step, has_step, is_allowed, is_due, is_left_running, let_event, may_let}
use Rattle.conc_base_law.specs.Plans.{precedes}
use Rattle.conc_base_law.specs.Stages.{set_step}
use Rattle.conc_base_law.specs.State.{has_come, is_done, state}
use Rattle.conc_base_law.specs.Words.{first_by, Has}
use Rattle.conc_base_law.proofs.Comes.{came}
use Rattle.conc_base_law.proofs.FactsAt.{numbered-map}
use Rattle.conc_base_law.proofs.FirstBy.{find-some}
use Rattle.conc_base_law.proofs.ForcedBy.{let_event-let, set_step-step}
use Rattle.conc_base_law.proofs.Numbers.{enumerated-numbered}
use Rattle.conc_base_law.proofs.Options.{and_then-some, map-some, or-some}
use Rattle.conc_base_law.proofs.Fronts.{enumerated-at, enumerated-number, find-first}

-- ---- the moments of commands do not fall

-- none is earlier than the moment before all
not_before : (setup : Setup) (next seconds m : ℕ) (orders : List Order) (x : ℕ × Order) → are_commands_from setup next seconds orders ≡ true
    → Has (enumerate_from m orders) x → seconds ≤ x.1.at.seconds
not_before setup next seconds m [] x ok h = absurd h
not_before setup next seconds m (order ∷ orders) x ok h =
    let p : (nat_le seconds order.at.seconds ≡ true) × (_ ≡ true) = and_parts (nat_le seconds order.at.seconds) _ ok in
    let q : _ × (are_commands_from setup (next + entered_by setup order.act) order.at.seconds orders ≡ true) = and_parts (is_act setup next order.act) _ p.1 in
    let here : seconds ≤ order.at.seconds = leb-true _ _ p.0 in
    elim h [
      | inl e ↦ let same : x.1.at.seconds ≡ order.at.seconds = ap (λ z. z.1.at.seconds) e in omega (arith, here, same)
      | inr on ↦
          let later : order.at.seconds ≤ x.1.at.seconds = not_before setup (next + entered_by setup order.act) order.at.seconds (m + 1) orders x q.1 on in
          omega (arith, here, later)
    ]

-- the later of two is not earlier
do_not_fall : (setup : Setup) (next seconds m : ℕ) (orders : List Order) (x y : ℕ × Order) → are_commands_from setup next seconds orders ≡ true
    → Has (enumerate_from m orders) x → Has (enumerate_from m orders) y → x.0 < y.0 → x.1.at.seconds ≤ y.1.at.seconds
do_not_fall setup next seconds m [] x y ok h k l = absurd h
do_not_fall setup next seconds m (order ∷ orders) x y ok h k l =
    let p : (nat_le seconds order.at.seconds ≡ true) × (_ ≡ true) = and_parts (nat_le seconds order.at.seconds) _ ok in
    let q : _ × (are_commands_from setup (next + entered_by setup order.act) order.at.seconds orders ≡ true) = and_parts (is_act setup next order.act) _ p.1 in
    elim k [
      | inl e ↦
          let a : (i : ℕ) × (x.0 ≡ m + i) × _ = enumerated-at m (order ∷ orders) x h in
          let b : y.0 ≡ m = ap (λ z. z.0) e in
          absurd (omega (arith, a.1, b, l))
      | inr on ↦ elim h [
        | inl e ↦
            let same : x.1.at.seconds ≡ order.at.seconds = ap (λ z. z.1.at.seconds) e in
            let later : order.at.seconds ≤ y.1.at.seconds = not_before setup (next + entered_by setup order.act) order.at.seconds (m + 1) orders y q.1 on in
            omega (arith, same, later)
        | inr too ↦ do_not_fall setup (next + entered_by setup order.act) order.at.seconds (m + 1) orders x y q.1 too on l
      ]
    ]

-- where a moment has come, one that is not later has come
come-before : (time : Option Moment) (t u : Moment) → t.seconds ≤ u.seconds → has_come time u ≡ true → has_come time t ≡ true
unfolding has_come
come-before None t u below h = cc
come-before (Some n) t u below h = grind (arith, nat_tests)

-- ---- a command that comes

-- where a command is forced, no interrupt is, and it is the first that is due
forced-due : (plan : Plan) (s : State) (n : ℕ) → forced plan s ≡ Some (event.Command n)
    → (order : ℕ × Order) × (find (is_due s) (enumerate_from 1 plan.script.commands) ≡ Some order) × (order.0 ≡ n)
unfolding forced forced_interrupt forced_command forced_step forced_let
forced-due plan s n h =
    let commands = enumerate_from 1 plan.script.commands in
    elim (or-some (forced_interrupt plan s) _ _ h) [
      | inl a ↦
          let p : (r : Req) × (find (is_left_running s) plan.requests ≡ Some r) × (event.Interrupt r.number ≡ event.Command n) =
          map-some (λ r. event.Interrupt r.number) (find (is_left_running s) plan.requests) _ a in
          cc
      | inr b ↦ elim (or-some (forced_command plan s) _ _ b) [
        | inl a ↦
            let p : (order : ℕ × Order) × (find (is_due s) commands ≡ Some order) × (event.Command order.0 ≡ event.Command n) =
            map-some (λ order. event.Command order.0) (find (is_due s) commands) _ a in
            let same : p.0.0 ≡ n = cc in
            (p.0, p.1, same)
        | inr c ↦ elim (or-some (forced_step plan s) _ _ c) [
          | inl a ↦
              let p : (set : Req) × (find (has_step plan s) plan.requests ≡ Some set) × (set_step plan s set ≡ Some (event.Command n)) =
              and_then-some (set_step plan s) (find (has_step plan s) plan.requests) _ a in
              elim (set_step-step plan s p.0 _ p.2) [ inl x ↦ let k : event.Command n ≡ event.Stage p.0.number x.0 = x.1 in cc | inr x ↦ let k : event.Command n ≡ event.CloseSet p.0.number x.0 = x.1 in cc ]
          | inr d ↦
              let p : (r : Req) × (first_by precedes (may_let plan s) plan.requests ≡ Some r) × (let_event r ≡ event.Command n) =
              map-some let_event (first_by precedes (may_let plan s) plan.requests) _ d in
              elim (let_event-let p.0 _ p.2) [ inl x ↦ let k : event.Command n ≡ event.OpenSet p.0.number = x.1 in cc | inr x ↦ let k : event.Command n ≡ event.LetOut p.0.number = x.1 in cc ]
        ]
      ]
    ]

-- whether a command is due: not done, and its moment has come
pub is_due-state : (plan : Plan) (past : List Event) (order : ℕ × Order) → Has (enumerate_from 1 plan.script.commands) order
    → is_due (state plan past) order ≡ (not (is_done past order) && has_come (state plan past).time order.1.at)
unfolding is_due state
is_due-state plan past order here =
    let commands = enumerate_from 1 plan.script.commands in
    ap (λ b. not b && has_come (state plan past).time order.1.at)
    (ap (λ o. unwrap_or o false) (numbered-map (is_done past) commands order.0)
    ∙ ap (λ o. unwrap_or (option_map (is_done past) o) false) (enumerated-numbered plan.script.commands order here))

-- the command that comes is one of the plan, and all before it are done
pub record IsNext (plan : Plan) (past : List Event) (n : ℕ) : Type 0 where
  pub order : ℕ × Order
  pub element : Has (enumerate_from 1 plan.script.commands) order
  pub number : order.0 ≡ n
  pub before : (y : ℕ × Order) → Has (enumerate_from 1 plan.script.commands) y → y.0 < n → is_done past y ≡ true

-- where the first that is due is this one, it is so
next-is : (plan : Plan) (past : List Event) (n : ℕ) (order : ℕ × Order) → find (is_due (state plan past)) (enumerate_from 1 plan.script.commands) ≡ Some order
    → order.0 ≡ n → IsNext plan past n
next-is plan past n order h same =
    let s = state plan past in
    let commands = enumerate_from 1 plan.script.commands in
    let f : (is_due s order ≡ true) × Has commands order = find-some (is_due s) commands order h in
    let due : (not (is_done past order) && has_come s.time order.1.at) ≡ true = sym (is_due-state plan past order f.1) ∙ f.0 in
    let come : has_come s.time order.1.at ≡ true = (and_parts (not (is_done past order)) _ due).1 in
    record {
      order = order;
      element = f.1;
      number = same;
      before = λ y k l.
          let below : y.0 < order.0 = omega (arith, l, same) in
          let not_due : (not (is_done past y) && has_come s.time y.1.at) ≡ false =
          sym (is_due-state plan past y k) ∙ find-first (is_due s) 1 plan.script.commands order h y k below in
          let earlier : y.1.at.seconds ≤ order.1.at.seconds = do_not_fall plan.setup 1 0 1 plan.script.commands y order plan.commands k f.1 below in
          elim (and_cases _ _ not_due) [
            | inl done ↦ not-false _ done
            | inr off ↦ absurd (both_ways _ off (come-before s.time y.1.at order.1.at earlier come))
          ];
    }

-- a command that may follow is so
pub command_next : (plan : Plan) (past : List Event) (n : ℕ) → may_follow plan None past (event.Command n) ≡ true → IsNext plan past n
unfolding may_follow is_allowed
command_next plan past n h =
    elim (came plan (state plan past) None (event.Command n) refl h) [
      | inl f ↦ let p : (order : ℕ × Order) × (find (is_due (state plan past)) (enumerate_from 1 plan.script.commands) ≡ Some order) × (order.0 ≡ n) = forced-due plan (state plan past) n f in
          next-is plan past n p.0 p.1 p.2
      | inr a ↦ absurd (cc a.1)
    ]

-- ---- in a lawful history

-- the event of a command
pub command-event : (n : ℕ) (e : Event) → is_command n e ≡ true → e ≡ event.Command n
command-event n (event.Command m) h = ap (λ z. event.Command z) (eqb-true m n h)
command-event n _ h = cc

-- what holds of the commands done: each is one of the plan, and each before it is done too
pub record AreFirst (plan : Plan) (past : List Event) : Type 0 where
  pub within : (n : ℕ) → occurs (is_command n) past ≡ true → n ≤ length plan.script.commands
  pub before : (m n : ℕ) → 0 < m → m < n → occurs (is_command n) past ≡ true → occurs (is_command m) past ≡ true

-- of the command that comes
within_next : (plan : Plan) (past : List Event) (n : ℕ) → IsNext plan past n → n ≤ length plan.script.commands
within_next plan past n c =
    let p : (k : ℕ) × (c.order.0 ≡ 1 + k) × (slice_get plan.script.commands k ≡ Some c.order.1) = enumerated-at 1 plan.script.commands c.order c.element in
    omega (arith, p.1, c.number, slice_get_within plan.script.commands p.0 c.order.1 p.2)

-- a command before it is done
before_next : (plan : Plan) (past : List Event) (m n : ℕ) → IsNext plan past n → 0 < m → m < n → occurs (is_command m) past ≡ true
unfolding is_done
before_next plan past m n c pos less =
    let y : (y : ℕ × Order) × Has (enumerate_from 1 plan.script.commands) y × (y.0 ≡ m) =
    enumerated-number 1 plan.script.commands m pos (omega (arith, within_next plan past n c, less)) in
    ap (λ z. occurs (is_command z) past) (sym y.2) ∙ c.before y.0 y.1 (omega (arith, y.2, less))

-- the commands that are done are the first ones
pub are_first : (plan : Plan) (past : List Event) → is_lawful_so_far plan past ≡ true → AreFirst plan past
unfolding is_lawful_so_far
are_first plan [] lawful = record { within = λ n h. cc; before = λ m n pos less h. cc }
are_first plan (e ∷ past) lawful =
    let p : (is_lawful_so_far plan past ≡ true) × (may_follow plan None past e ≡ true) = and_parts _ _ lawful in
    let old : AreFirst plan past = are_first plan past p.0 in
    let next : (n : ℕ) → is_command n e ≡ true → IsNext plan past n =
    λ n c. command_next plan past n (subst (λ d. may_follow plan None past d ≡ true) (command-event n e c) p.1) in
    record {
      within = λ n h. elim (or_cases (is_command n e) _ h) [ inl c ↦ within_next plan past n (next n c) | inr o ↦ old.within n o ];
      before = λ m n pos less h. or_right _ _ (elim (or_cases (is_command n e) _ h) [
        | inl c ↦ before_next plan past m n (next n c) pos less
        | inr o ↦ old.before m n pos less o
      ]);
    }

-- ---- how many are done

-- the last of the first numbers that pass, where the numbers that pass are the first ones
last_first : (test : ℕ → Bool) (bound : ℕ) → ((n : ℕ) → bound < n → test n ≡ false)
    → ((m n : ℕ) → 0 < m → m < n → test n ≡ true → test m ≡ true)
    → (k : ℕ) × (k ≤ bound) × ((n : ℕ) → 0 < n → n ≤ k → test n ≡ true) × ((n : ℕ) → k < n → test n ≡ false)
last_first test zero none down = (zero, omega arith, λ n pos few. absurd (omega (arith, pos, few)), none)
last_first test (suc b) none down = elim (cases_Bool (test (suc b))) [
  | inl hit ↦ (suc b, omega arith, λ n pos few. below n pos few hit, none)
  | inr miss ↦
      let p : (k : ℕ) × (k ≤ b) × ((n : ℕ) → 0 < n → n ≤ k → test n ≡ true) × ((n : ℕ) → k < n → test n ≡ false) =
      last_first test b (λ n more. above n more miss) down in
      (p.0, omega (arith, p.1), p.2, p.3)
] where
  cases_at : (m n : ℕ) → m ≤ n → (m ≡ n) ⊎ (m < n)
  cases_at m n low = grind arith

  below : (n : ℕ) → 0 < n → n ≤ suc b → test (suc b) ≡ true → test n ≡ true
  below n pos few hit = elim (cases_at n (suc b) few) [ inl e ↦ ap test e ∙ hit | inr l ↦ down n (suc b) pos l hit ]

  above : (n : ℕ) → b < n → test (suc b) ≡ false → test n ≡ false
  above n more miss = elim (cases_at (suc b) n (omega (arith, more))) [ inl e ↦ ap test (sym e) ∙ miss | inr l ↦ none n l ]

-- the first commands, as many as this, are done, and no others
pub record IsCount (plan : Plan) (past : List Event) (count : ℕ) : Type 0 where
  pub few : count ≤ length plan.script.commands
  pub done : (n : ℕ) → 0 < n → n ≤ count → occurs (is_command n) past ≡ true
  pub undone : (n : ℕ) → count < n → occurs (is_command n) past ≡ false

-- there is such a number
pub count_done : (plan : Plan) (past : List Event) → is_lawful_so_far plan past ≡ true → (count : ℕ) × IsCount plan past count
count_done plan past lawful =
    let a : AreFirst plan past = are_first plan past lawful in
    let p : (k : ℕ) × (k ≤ length plan.script.commands) × ((n : ℕ) → 0 < n → n ≤ k → occurs (is_command n) past ≡ true) × ((n : ℕ) → k < n → occurs (is_command n) past ≡ false) =
    last_first (λ n. occurs (is_command n) past) (length plan.script.commands)
    (λ n more. false_from_ne_true _ (λ h. let few : n ≤ length plan.script.commands = a.within n h in omega (arith, few, more)))
    (λ m n pos less h. a.before m n pos less h) in
    (p.0, record { few = p.1; done = p.2; undone = p.3 })
