-- The reader of scripts accepts what a file of repeats is expanded to.
use Rattle.std.proofs.Common.{◌≡◌, ◌∙◌, ◌+◌, ◌-◌, ◌<◌, ◌≤◌, ℕ, zero, suc, true, false, List, [], ◌∷◌, IsSome, Option, Some, None, ap, arith, drop, get_or, length, map, refl}
use Rattle.std.specs.Prelude.{nat_lt}
use Rattle.std.specs.List.Sorted.{IsNonDecreasingBy}
use Rattle.std.proofs.lemmas.Bool.{le-ltb}
use Rattle.std.proofs.lemmas.List.{get_or-map, length-map}
use Rattle.std.proofs.lemmas.List.Sorted.{All-permutation, length_permutation}
use Rattle.conc_types.specs.declared.event.Moment.{Moment}
use Rattle.conc_types.specs.declared.item.Item.{Item}
use Rattle.conc_types.specs.declared.kind.RefusalKind.{RefusalKind}
use Rattle.conc_types.specs.declared.script.Act.TheVariants as act
use Rattle.conc_types.specs.declared.script.Order.{Order}
use Rattle.conc_types.specs.declared.script.Script.{Script}
use Rattle.conc_types.specs.declared.setup.Setup.{Setup}
use Rattle.conc_types.specs.Faults.{fault_or, first_fault}
use Rattle.conc_base_law.specs.Calendar.{civil_of, civil_text, is_civil, is_spelling, moment_at, moment_of, month_lengths}
use Rattle.conc_data_records.specs.Records.{Record, records_of}
use Rattle.conc_script.specs.Script.{act_of, at_field, has_form, is_earlier, item_named, order_of, record_at, record_kind, records_fault, script_fault, start_of, submission_of, what_rules}
use Rattle.conc_repeat.specs.declared.dues.Due.{Due}
use Rattle.conc_repeat.specs.Script.{dues_of, Expands, IsByMoment, line_of, script_header, seconds, submission, text_of}
use Rattle.conc_repeat.specs.Series.{argument_field, user_field, what_field}
use Rattle.conc_repeat.specs.Kept.{fault_behind}
use Rattle.conc_data_repeat_laws.specs.Readings.{command_at, command_of, HasNames, IsReadAs}
use Rattle.conc_data_repeat_laws.proofs.Fields.{Keeps, keeps, moment-back}
use Rattle.conc_data_repeat_laws.proofs.ReadBack.{script-read}
use Rattle.conc_data_repeat_laws.proofs.Records.{few-commands, file-known, good-at, length-dues, series-known}
use Rattle.conc_data_repeat_laws.proofs.Sizes.{line-short, text-short}

-- ---- one submission

form-is : (at : Moment) (r : Record) → Keeps r → has_form (submission at r) ≡ true
unfolding has_form
form-is at r k = rw (k.user, k.priority.is, k.domain.is, k.argument) refl

kind-none : (setup : Setup) (records : List Record) (n : ℕ) (at : Moment) (r : Record) (item : Item) → record_at records n ≡ submission at r → n ≤ 4097 → Keeps r
    → is_earlier (Some at) (moment_of (at_field (record_at records (n - 1)))) ≡ false → item_named setup (what_field r) ≡ Some item → record_kind setup records n ≡ None
unfolding record_kind what_rules
kind-none setup records n at r item here low k early named =
    let few : nat_lt 4097 n ≡ false = le-ltb 4097 n low in
    rw (here, k.line at, few, moment-back at, early, named, form-is at r k) refl

-- the command that the line of a submission says
record HasCommand (setup : Setup) (at : Moment) (r : Record) : Type 0 where
  order : Order
  given : command_at setup at r ≡ Some order
  said : order_of setup (submission at r) ≡ Some order

has-command : (setup : Setup) (at : Moment) (r : Record) (item : Item) → Keeps r → item_named setup (what_field r) ≡ Some item → HasCommand setup at r
unfolding order_of act_of submission_of start_of
has-command setup at r item k named = record {
  order = record { at = at; act = act.Submit item (user_field r) k.priority.value at k.domain.value (argument_field r) };
  given = rw (named, k.priority.is, k.domain.is) refl;
  said = rw (moment-back at, named, k.priority.is, k.domain.is) refl;
}

-- ---- lists

no-fault : (kind_at : ℕ → Option RefusalKind) (first count : ℕ) → ((i : ℕ) → i < count → kind_at (first + i) ≡ None) → first_fault kind_at first count ≡ None
unfolding first_fault
no-fault kind_at first zero none = refl
no-fault kind_at first (suc count) none =
    let start : first ≡ first + 0 = omega arith in
    let here : kind_at first ≡ None = ap kind_at start ∙ none 0 (omega arith) in
    let later : (i : ℕ) → i < count → kind_at (first + 1 + i) ≡ None = λ i below.
    (let same : first + 1 + i ≡ first + suc i = omega arith in ap kind_at same ∙ none (suc i) (omega arith)) in
    ap (λ k. fault_or first k (first_fault kind_at (first + 1) count)) here ∙ no-fault kind_at (first + 1) count later

record HasOrders (setup : Setup) (records : List Record) (dues : List Due) : Type 0 where
  orders : List Order
  many : length orders ≡ length dues
  given : map (command_of setup records) dues ≡ map (λ order. Some order) orders
  said : map (order_of setup) (map (line_of records) dues) ≡ map (λ order. Some order) orders

has-orders : (setup : Setup) (records : List Record) (dues : List Due) → ((k : ℕ) (d : Due) → k < length dues → HasCommand setup (get_or dues k d).at (get_or records (get_or dues k d).series []))
    → HasOrders setup records dues
has-orders setup records [] h = record { orders = []; many = refl; given = refl; said = refl }
has-orders setup records (due ∷ dues) h =
    let here = h 0 due (omega arith) in
    let later = has-orders setup records dues (λ k d below. h (suc k) d (omega arith)) in
    record {
      orders = here.order ∷ later.orders;
      many = ap suc later.many;
      given = rw (here.given, later.given) refl;
      said = rw (here.said, later.said) refl;
    }

-- ---- the script

header-moment : moment_of (at_field script_header) ≡ None
unfolding moment_of is_spelling is_civil civil_of civil_text month_lengths
header-moment = refl

first-due : Due
unfolding moment_at
first-due = record { at = moment_at 0; series = 0 }

module _ (setup : Setup) (records : List Record) (dues : List Due) (rising : IsNonDecreasingBy seconds dues)
    (known : (k : ℕ) (d : Due) → k < length dues → (get_or dues k d).series < length records)
    (good : (j : ℕ) → j < length records → Keeps (get_or records j []))
    (names : HasNames setup records) (few : length dues ≤ 4096) where
  line-at : (i : ℕ) → i < length dues → get_or (map (line_of records) dues) i [] ≡ line_of records (get_or dues i first-due)
  line-at i below = get_or-map (line_of records) dues i first-due [] below

  named-at : (i : ℕ) (d : Due) → i < length dues → (item : Item) × (item_named setup (what_field (get_or records (get_or dues i d).series [])) ≡ Some item)
  named-at i d below = by _ (names (get_or dues i d).series [] (known i d below))
    where
      by : (o : Option Item) → IsSome o → (item : Item) × (o ≡ Some item)
      by None e = absurd cc
      by (Some item) e = (item, refl)

  not-earlier : (i : ℕ) → i < length dues → is_earlier (Some (get_or dues i first-due).at) (moment_of (at_field (get_or (script_header ∷ map (line_of records) dues) i []))) ≡ false
  not-earlier zero below = rw header-moment refl
  not-earlier (suc j) below =
      let before = rising j (suc j) first-due (omega arith) below in
      rw (line-at j (omega arith), moment-back (get_or dues j first-due).at) (le-ltb (seconds (get_or dues (suc j) first-due)) (seconds (get_or dues j first-due)) before)

  kind-at : (i : ℕ) → i < length dues → record_kind setup (script_header ∷ map (line_of records) dues) (2 + i) ≡ None
  kind-at i below =
      let due = get_or dues i first-due in
      let named = named-at i first-due below in
      let place : 2 + i - 1 ≡ suc i = omega arith in
      let before : 2 + i - 1 - 1 ≡ i = omega arith in
      kind-none setup (script_header ∷ map (line_of records) dues) (2 + i) (get_or dues i first-due).at (get_or records (get_or dues i first-due).series []) named.0
      (ap (λ n. get_or (script_header ∷ map (line_of records) dues) n []) place ∙ line-at i below) (omega arith) (good (get_or dues i first-due).series (known i first-due below))
      (ap (λ n. is_earlier (Some (get_or dues i first-due).at) (moment_of (at_field (get_or (script_header ∷ map (line_of records) dues) n [])))) before ∙ not-earlier i below)
      named.1

  records-faultless : records_fault setup (script_header ∷ map (line_of records) dues) ≡ None
  records-faultless =
      ap (first_fault (record_kind setup (script_header ∷ map (line_of records) dues)) 2) (length-map dues (line_of records))
      ∙ no-fault (record_kind setup (script_header ∷ map (line_of records) dues)) 2 (length dues) kind-at

  short-text : length (text_of (script_header ∷ map (line_of records) dues)) ≤ 67108864
  short-text =
      text-short (line_of records) dues (λ k d below. line-short (get_or dues k d).at (get_or records (get_or dues k d).series []) (good (get_or dues k d).series (known k d below)).short) few

  faultless : script_fault setup (text_of (script_header ∷ map (line_of records) dues)) ≡ None
  unfolding script_fault
  faultless =
      let small : nat_lt 67108864 (length (text_of (script_header ∷ map (line_of records) dues))) ≡ false = le-ltb 67108864 (length (text_of (script_header ∷ map (line_of records) dues))) short-text in
      rw (small, script-read records dues) records-faultless

  the-orders : HasOrders setup records dues
  the-orders = has-orders setup records dues (λ k d below.
      has-command setup (get_or dues k d).at (get_or records (get_or dues k d).series []) (named-at k d below).0 (good (get_or dues k d).series (known k d below)) (named-at k d below).1)

  the_script : Script
  the_script = record { commands = the-orders.orders; few = omega (arith, the-orders.many, few) }

  read-as : (bytes : List ℕ) → bytes ≡ text_of (script_header ∷ map (line_of records) dues) → IsByMoment (dues_of records) dues → IsReadAs setup records bytes
  unfolding the_script
  read-as bytes is ordered = record {
    script = the_script;
    spelled = record {
      faultless = rw is faultless;
      commands = rw (is, script-read records dues) the-orders.said;
    };
    dues = dues;
    by_moment = ordered;
    commands = the-orders.given;
  }

known-file : (setup : Setup) (records : List Record) (dues : List Due) (bytes : List ℕ) → fault_behind records ≡ None → IsByMoment (dues_of records) dues
    → bytes ≡ text_of (script_header ∷ map (line_of records) dues) → HasNames setup records → IsReadAs setup records bytes
known-file setup records dues bytes clean ordered text names =
    let known = All-permutation (λ (due : Due). due.series < length records) (dues_of records) dues ordered.same (series-known 0 (length records) records (omega arith)) in
    let many = length_permutation (dues_of records) dues ordered.same in
    let few : length dues ≤ 4096 = omega (arith, many, length-dues 0 records, few-commands records clean) in
    read-as setup records dues ordered.rising known (λ j below. keeps (get_or records j []) (good-at records j clean below)) names few bytes text ordered

pub accepted : (setup : Setup) (file bytes : List ℕ) → Expands file bytes → HasNames setup (drop 1 (records_of file)) → IsReadAs setup (drop 1 (records_of file)) bytes
accepted setup file bytes expands names =
    known-file setup (drop 1 (records_of file)) expands.script.dues bytes (file-known file expands.faultless).1 expands.script.by_moment expands.script.text names
