-- What is known of a script when some of its records are read.
use Rattle.std.proofs.Common.{◌≡◌, refl, ◌∙◌, ap, sym, ◌≤◌, ◌+◌, ◌-◌, ◌*◌, ℕ, suc, Bool, true, false, List, [], ◌∷◌, ◌++◌, length, map, get_or, take, append_assoc, arith}
use Rattle.std.specs.Prelude.{nat_le, nat_lt, is_none, not, Option, None, Some}
use Rattle.std.specs.List.{sum_by}
use Rattle.std.specs.Option.{option_map_or}
use Rattle.std.proofs.lemmas.Bool.{and_from, le-leb, ltb-false}
use Rattle.std.proofs.lemmas.List.{append-nil, get_or_append_left, get_or_at, length-map, length_push, map-append, take_at}
use Rattle.std.proofs.lemmas.List.Sums.{sum_by-append}
use Rattle.conc_types.specs.declared.kind.RefusalKind.{RefusalKind}
use Rattle.conc_types.specs.declared.kind.RefusalKind.TheVariants as refused
use Rattle.conc_types.specs.declared.event.Moment.{Moment}
use Rattle.conc_types.specs.declared.script.Act.{Act}
use Rattle.conc_types.specs.declared.script.Order.{Order}
use Rattle.conc_types.specs.declared.setup.Setup.{Setup}
use Rattle.conc_types.specs.Faults.{first_broken, first_fault}
use Rattle.conc_types.specs.Scripts.{are_commands_from, entered_by, is_act}
use Rattle.conc_base_law.specs.Calendar.{civil_of, is_civil, is_spelling, moment_of}
use Rattle.conc_data_records.specs.Records.{Record}
use Rattle.conc_script.specs.Orders.{fault_behind, ReadsRecords}
use Rattle.conc_script.specs.Rules.{action_rules, record_rules}
use Rattle.conc_script.specs.Script.{at_field, entered_before, entered_by_record, header, is_earlier, is_record, order_of, record_kind}
use Rattle.conc_script.proofs.Faults.{fault_here, fault_later, fault_none}

abbrev seconds_or : Option Moment → ℕ
seconds_or before = option_map_or (λ t. t.seconds) before 0

-- some records behind the header break no rule; these are their commands, how many requests they enter and the moment of the last
pub record ReadsOn (setup : Setup) (records rest : List Record) (commands : List Order) (entered : ℕ) (before : Option Moment) : Type 0 where
  pub done : List Record
  pub all : records ≡ done ++ rest
  pub list : map (order_of setup) done ≡ map (λ order. Some order) commands
  pub entered_is : entered ≡ sum_by (entered_by_record setup) (header ∷ done)
  pub before_is : before ≡ moment_of (at_field (get_or (header ∷ done) (length done) []))
  pub faults : fault_behind setup records ≡ first_fault (record_kind setup (header ∷ records)) (length commands + 2) (length rest)
  pub few : length commands ≤ 4096
  pub small : entered ≤ length commands * 4097
  pub fits : (more : List Order) → are_commands_from setup (entered + 1) (seconds_or before) more ≡ true → are_commands_from setup 1 0 (commands ++ more) ≡ true

-- the header says no moment
header_moment : moment_of (at_field header) ≡ None
unfolding moment_of is_spelling civil_of is_civil
header_moment = refl

pub reads_none : (setup : Setup) (records : List Record) (commands : List Order) → commands ≡ [] → ReadsOn setup records records commands 0 None
unfolding entered_by_record
reads_none setup records commands e =
    rw e (record {
      done = [];
      all = refl;
      list = refl;
      entered_is = refl;
      before_is = sym header_moment;
      faults = refl;
      few = omega arith;
      small = omega arith;
      fits = λ more h. h;
    })

-- the rules of the record after those that are read
kind_next : (setup : Setup) (records after : List Record) (r : Record) (commands : List Order) (entered : ℕ) (before : Option Moment) → ReadsOn setup records (r ∷ after) commands entered before
    → record_kind setup (header ∷ records) (length commands + 2) ≡ first_broken (record_rules setup (length commands + 2) entered before r)
unfolding record_kind entered_before
kind_next setup records after r commands entered before reads =
    let many : length reads.done ≡ length commands = sym (length-map reads.done (order_of setup)) ∙ (ap length reads.list ∙ length-map commands (λ (order : Order). Some order)) in
    let place : length commands + 2 - 1 ≡ suc (length reads.done) = omega (arith, many) in
    let place_before : suc (length reads.done) - 1 ≡ length reads.done = omega arith in
    let here : get_or (header ∷ records) (suc (length reads.done)) [] ≡ r = rw reads.all (get_or_at reads.done r after [] (length reads.done) refl) in
    let last : get_or (header ∷ records) (length reads.done) [] ≡ get_or (header ∷ reads.done) (length reads.done) [] =
    rw reads.all (get_or_append_left (header ∷ reads.done) (r ∷ after) [] (length reads.done) (omega arith)) in
    let front : take (suc (length reads.done)) (header ∷ records) ≡ header ∷ reads.done = rw reads.all (take_at (header ∷ reads.done) (r ∷ after) (suc (length reads.done)) refl) in
    rw (place, place_before, here, last, front, ← reads.entered_is, ← reads.before_is) refl

few_broken : (fields many : Bool) (rest : List (Bool × RefusalKind)) → first_broken ((fields, refused.NotCsv) ∷ (many, refused.TooManyLines) ∷ rest) ≡ None → many ≡ false
few_broken true many rest e = absurd cc
few_broken false true rest e = absurd cc
few_broken false false rest e = refl

not_before : (before : Option Moment) (at : Moment) → is_earlier (Some at) before ≡ false → nat_le (seconds_or before) at.seconds ≡ true
not_before None at e = le-leb 0 at.seconds (omega arith)
not_before (Some t) at e = le-leb t.seconds at.seconds (ltb-false at.seconds t.seconds e)

-- one more record is read
pub reads_more : (setup : Setup) (records after : List Record) (r : Record) (commands more : List Order) (entered entered' number : ℕ) (before : Option Moment) (at : Moment) (a : Act)
    → ReadsOn setup records (r ∷ after) commands entered before → number ≡ length commands + 2 → first_broken (record_rules setup number entered before r) ≡ None
    → order_of setup r ≡ Some (record { at = at; act = a }) → moment_of (at_field r) ≡ Some at → is_earlier (Some at) before ≡ false → is_act setup (entered + 1) a ≡ true
    → entered_by_record setup r ≡ entered_by setup a → entered' ≡ entered + entered_by setup a → entered_by setup a ≤ 4097 → more ≡ commands ++ record { at = at; act = a } ∷ []
    → ReadsOn setup records after more entered' (Some at)
reads_more setup records after r commands more entered entered' number before at a reads n passes said moment later fit enters total few m =
    let order : Order = record { at = at; act = a } in
    let passes' = rw n at passes in
    let rest_of = (is_none (moment_of (at_field r)), refused.BadField) ∷ (is_earlier (moment_of (at_field r)) before, refused.MomentBack) ∷ action_rules setup entered r in
    let under : length commands + 2 ≤ 4097 = ltb-false 4097 (length commands + 2) (few_broken (not (is_record r)) (nat_lt 4097 (length commands + 2)) rest_of passes') in
    let many : length more ≡ length commands + 1 = rw m (length_push commands order) in
    let behind : length (reads.done ++ r ∷ []) ≡ length reads.done + 1 = length_push reads.done r in
    let place : suc (length reads.done) ≡ length (reads.done ++ r ∷ []) = omega (arith, behind) in
    let next : length commands + 2 + 1 ≡ length more + 2 = omega (arith, many) in
    let sum = sum_by-append (entered_by_record setup) (header ∷ reads.done) (r ∷ []) in
    let shift : entered' + 1 ≡ entered + 1 + entered_by setup a = omega (arith, total) in
    record {
      done = reads.done ++ r ∷ [];
      all = reads.all ∙ sym (append_assoc reads.done (r ∷ []) after);
      list = rw (m, map-append (order_of setup) reads.done (r ∷ []), map-append (λ (o : Order). Some o) commands (order ∷ []), reads.list, said) refl;
      entered_is = omega (arith, total, sum, reads.entered_is, enters);
      before_is = rw (get_or_at (header ∷ reads.done) r [] [] (length (reads.done ++ r ∷ [])) place) (sym moment);
      faults =
          reads.faults ∙ (fault_later (record_kind setup (header ∷ records)) (length commands + 2) (length after) (kind_next setup records after r commands entered before reads ∙ passes')
          ∙ ap (λ (k : ℕ). first_fault (record_kind setup (header ∷ records)) k (length after)) next);
      few = omega (arith, many, under);
      small = omega (arith, total, few, reads.small, many);
      fits = λ rest h.
          rw (m, append_assoc commands (order ∷ []) rest)
          (reads.fits (order ∷ rest) (and_from (nat_le (seconds_or before) at.seconds) _ (not_before before at later) (and_from (is_act setup (entered + 1) a) _ fit (rw shift at h))));
    }

-- the next record breaks a rule
pub reads_fault : (setup : Setup) (records after : List Record) (r : Record) (commands : List Order) (entered number : ℕ) (kind : RefusalKind) (before : Option Moment)
    → ReadsOn setup records (r ∷ after) commands entered before → number ≡ length commands + 2 → first_broken (record_rules setup number entered before r) ≡ Some kind
    → fault_behind setup records ≡ Some (number, kind)
reads_fault setup records after r commands entered number kind before reads n broken =
    rw n (reads.faults ∙ fault_here (record_kind setup (header ∷ records)) (length commands + 2) (length after) kind (kind_next setup records after r commands entered before reads ∙ (rw n at broken)))

-- all records are read
pub reads_all : (setup : Setup) (records : List Record) (commands : List Order) (entered : ℕ) (before : Option Moment) → ReadsOn setup records [] commands entered before
    → ReadsRecords setup records commands
reads_all setup records commands entered before reads = record {
  faultless = reads.faults ∙ fault_none (record_kind setup (header ∷ records)) (length commands + 2);
  list = ap (map (order_of setup)) (reads.all ∙ append-nil reads.done) ∙ reads.list;
  few = reads.few;
  fits = rw append-nil at (reads.fits [] refl);
}
