-- The files that are made are accepted.
use Rattle.std.proofs.Common.{◌≡◌, ◌∙◌, ◌≤◌, ◌<◌, ◌+◌, ◌-◌, ◌*◌, ℕ, zero, suc, false, List, [], ◌∷◌, None, ap, arith, get_or, length, refl, subst, sym, take}
use Rattle.std.specs.Prelude.{nat_lt}
use Rattle.std.proofs.lemmas.Bool.Decides.{nat_tests}
use Rattle.std.proofs.lemmas.List.FromFn.{get_or-map-range_with_len}
use Rattle.conc_types.specs.Expansion.{expansion}
use Rattle.conc_types.specs.Faults.{first_fault}
use Rattle.conc_plan.specs.Faults.{plan_fault, record_kind}
use Rattle.conc_plan.proofs.Commands.{count-more, length-parts}
use Rattle.conc_make.specs.Accepted.{AreAccepted}
use Rattle.conc_make.specs.Draws.{after, drawn}
use Rattle.conc_make.specs.Files.{clock_text, script_text, setup_text, table_text}
use Rattle.conc_make.proofs.TheClock.{clock-spelled, the_readings}
use Rattle.conc_make.proofs.TheItems.{item-few, item_at}
use Rattle.conc_make.proofs.TheScript.{length-orders, no-fault, order_at, orders, script-spelled, the_script}
use Rattle.conc_make.proofs.TheSetup.{programs_pass, setup-is, the_setup}
use Rattle.conc_make.proofs.TheTable.{table-spelled, the_table}

order-here : (size x i : ℕ) → i < size → order_at (after (4 * i) x) ≡ get_or (orders size x) i (order_at (after (4 * i) x))
unfolding orders
order-here size x i below =
    sym (get_or-map-range_with_len (λ j. order_at (after (4 * j) x)) 0 size i i (order_at (after (4 * i) x)) below (omega arith))

-- a submission enters four requests at most
few-requests : (size x i : ℕ) → i ≤ size → length (expansion the_setup (take i (orders size x))) ≤ 4 * i
few-requests size x zero low = omega arith
few-requests size x (suc i) low =
    let y = after (4 * i) x in
    let what = item_at (drawn 9 (after 1 y)) in
    let count = length-orders size x in
    let next : i + 1 ≡ suc i = omega arith in
    let more = count-more the_setup (orders size x) i (order_at y) (expansion the_setup (take i (orders size x))) (omega arith) (order-here size x i (omega arith)) refl in
    let so_far = few-requests size x i (omega arith) in
    let all : length (expansion the_setup (take (i + 1) (orders size x))) ≤ 4 * suc i = omega (arith, more, so_far, length-parts the_setup what, item-few (drawn 9 (after 1 y))) in
    subst (λ n. length (expansion the_setup (take n (orders size x))) ≤ 4 * suc i) next all

record-none : (size x i : ℕ) → size ≤ 4000 → i < size → record_kind the_setup (orders size x) (2 + i) ≡ None
unfolding record_kind
record-none size x i few below =
    let place : 2 + i - 1 ≡ suc i = omega arith in
    let count = few-requests size x (suc i) (omega arith) in
    let low : nat_lt 16384 (length (expansion the_setup (take (suc i) (orders size x)))) ≡ false = grind (arith, nat_tests) in
    rw (place, low) refl

records-none : (size x : ℕ) → size ≤ 4000 → first_fault (record_kind the_setup (orders size x)) 2 (length (orders size x)) ≡ None
records-none size x few =
    ap (first_fault (record_kind the_setup (orders size x)) 2) (length-orders size x)
    ∙ no-fault (record_kind the_setup (orders size x)) 2 size (λ i below. record-none size x i few below)

planned : (seed size : ℕ) (few : size ≤ 4000) → plan_fault the_setup (the_script seed size few).commands (the_table seed ∷ []) ≡ None
unfolding plan_fault the_script
planned seed size few = rw (programs_pass seed, records-none size (after 128 seed) few) refl

pub accepted : (seed size : ℕ) → size ≤ 4000 → AreAccepted setup_text (script_text seed size) clock_text (table_text seed)
accepted seed size few = record {
  setup_read = the_setup;
  script_read = the_script seed size few;
  clock_read = the_readings;
  table_read = the_table seed;
  setup_is = setup-is;
  script_is = script-spelled seed size few;
  clock_is = clock-spelled;
  table_is = table-spelled seed;
  planned = planned seed size few;
}

-- the same of files with these bytes
pub accepted_by : (seed size : ℕ) (setup script clock table : List ℕ) → size ≤ 4000 → setup ≡ setup_text → script ≡ script_text seed size → clock ≡ clock_text → table ≡ table_text seed
    → AreAccepted setup script clock table
accepted_by seed size setup script clock table few e f g h = rw (e, f, g, h) (accepted seed size few)
