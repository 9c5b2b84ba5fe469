-- The script's text is a script of the setup's.
use Rattle.std.proofs.Common.{◌≡◌, ◌∙◌, ◌≤◌, ◌<◌, ◌+◌, ◌-◌, ◌*◌, ℕ, zero, suc, true, false, List, [], ◌∷◌, ◌++◌, Option, Some, None, codes, ap, arith, drop, get_or, length, length-append, map, refl}
use Rattle.std.specs.Prelude.{nat_lt}
use Rattle.std.specs.Fmt.{decimal}
use Rattle.std.specs.List.{list_all, range_with_len}
use Rattle.std.specs.Str.{chars, is_utf8}
use Rattle.std.proofs.lemmas.Bool.Decides.{nat_tests}
use Rattle.std.proofs.lemmas.List.FromFn.{get_or-map-range_with_len, length-map-range_with_len}
use lib.Utf8.{encode}
use Rattle.csv.specs.Reading.{strip_bom}
use Rattle.conc_types.specs.declared.kind.RefusalKind.{RefusalKind}
use Rattle.conc_types.specs.declared.item.Item.{Item}
use Rattle.conc_types.specs.declared.script.Act.TheVariants as act
use Rattle.conc_types.specs.declared.script.Order.{Order}
use Rattle.conc_types.specs.declared.script.Script.{Script}
use Rattle.conc_types.specs.Faults.{fault_or, first_fault}
use Rattle.conc_types.specs.Texts.{is_name, is_text}
use Rattle.conc_base_law.specs.Calendar.{civil_of, civil_text, is_civil, is_spelling, moment_of, month_lengths}
use Rattle.conc_data_records.specs.Records.{Record, records_of}
use Rattle.conc_script.specs.Script.{SpellsScript, act_of, at_field, domain_of, has_form, is_earlier, is_record, item_named, order_of, priority_of, record_at, record_kind, records_fault, script_fault, start_of, submission_of, what_rules}
use Rattle.conc_make.specs.Draws.{after, drawn}
use Rattle.conc_make.specs.Files.{item_word, line, made, moment_word, script_header, script_text, submission, text_of}
use Rattle.conc_make.proofs.Lines.{submission-parts}
use Rattle.conc_make.proofs.ReadBack.{ReadsBack, is_plain, made-read, made-short, plain-reads}
use Rattle.conc_make.proofs.TheClock.{moment-is, the_moment}
use Rattle.conc_make.proofs.TheItems.{item-found, item_at}
use Rattle.conc_make.proofs.TheSetup.{the_setup}
use Rattle.conc_make.proofs.Tried.{IsLettered, IsWord, domain-word, drawn-below, item-is_word, priority-word, user-word}

-- ---- one submission

abbrev fields : (what user rank domain : List ℕ) → Record
fields what user rank domain = moment_word ∷ codes "submit" ∷ what ∷ user ∷ rank ∷ [] ∷ domain ∷ [] ∷ []

abbrev order_with : Item → List ℕ → ℕ → List ℕ → Order
order_with what user priority domain = record { at = the_moment; act = act.Submit what user priority the_moment domain [] }

order-is : (what user rank domain : List ℕ) (i : Item) (p : ℕ) → item_named the_setup what ≡ Some i → priority_of rank ≡ Some p → domain_of domain ≡ Some domain
    → order_of the_setup (fields what user rank domain) ≡ Some (order_with i user p domain)
unfolding order_of act_of submission_of start_of
order-is what user rank domain i p named ranked placed = rw (moment-is, named, ranked, placed) refl

utf8-words : (is_utf8 moment_word ≡ true) × ((is_utf8 (codes "submit") ≡ true) × (is_utf8 [] ≡ true))
unfolding is_utf8 chars encode
utf8-words = (refl, (refl, refl))

record-so : (what user rank domain : List ℕ) → is_utf8 what ≡ true → is_utf8 user ≡ true → is_utf8 rank ≡ true → is_utf8 domain ≡ true → is_record (fields what user rank domain) ≡ true
unfolding is_record
record-so what user rank domain w u r d = rw (utf8-words.0, utf8-words.1.0, utf8-words.1.1, w, u, r, d) refl

empty-text : is_text 200 [] ≡ true
unfolding is_utf8 chars encode
empty-text = refl

form-so : (what user rank domain : List ℕ) (p : ℕ) → is_name user ≡ true → priority_of rank ≡ Some p → domain_of domain ≡ Some domain → has_form (fields what user rank domain) ≡ true
unfolding has_form
form-so what user rank domain p named ranked placed = rw (named, ranked, placed, empty-text) refl

domain-so : (rest : List ℕ) → is_name (100 ∷ rest) ≡ true → domain_of (100 ∷ rest) ≡ Some (100 ∷ rest)
unfolding domain_of
domain-so rest e = rw e refl

kind-none : (what user rank domain : List ℕ) (records : List Record) (n : ℕ) (i : Item) → record_at records n ≡ fields what user rank domain → n ≤ 4097
    → is_record (fields what user rank domain) ≡ true
    → is_earlier (Some the_moment) (moment_of (at_field (record_at records (n - 1)))) ≡ false
    → item_named the_setup what ≡ Some i → has_form (fields what user rank domain) ≡ true
    → record_kind the_setup records n ≡ None
unfolding record_kind what_rules
kind-none what user rank domain records n i here low is_rec early named form =
    let few : nat_lt 4097 n ≡ false = grind (arith, nat_tests) in
    rw (here, is_rec, few, moment-is, early, named, form) refl

-- the command of a submission
abbrev pub order_at : ℕ → Order
order_at x = order_with (item_at (drawn 9 (after 1 x))) (codes "u" ++ decimal (drawn 3 (after 2 x))) (1 + drawn 99 (after 3 x)) (codes "d" ++ decimal (drawn 4 (after 4 x)))

-- what its words keep
record Keeps (x : ℕ) : Type 0 where
  what : IsWord 2 (item_word (drawn 9 (after 1 x)))
  found : item_named the_setup (item_word (drawn 9 (after 1 x))) ≡ Some (item_at (drawn 9 (after 1 x)))
  user : IsLettered (codes "u" ++ decimal (drawn 3 (after 2 x)))
  rank : IsWord 2 (decimal (1 + drawn 99 (after 3 x)))
  ranked : priority_of (decimal (1 + drawn 99 (after 3 x))) ≡ Some (1 + drawn 99 (after 3 x))
  domain : IsLettered (codes "d" ++ decimal (drawn 4 (after 4 x)))
  placed : domain_of (codes "d" ++ decimal (drawn 4 (after 4 x))) ≡ Some (codes "d" ++ decimal (drawn 4 (after 4 x)))

keeps : (x : ℕ) → Keeps x
keeps x =
    let nine = drawn-below 9 (after 1 x) (omega arith) in
    let rank = priority-word (drawn 99 (after 3 x)) (drawn-below 99 (after 3 x) (omega arith)) in
    let domain = domain-word (drawn 4 (after 4 x)) (drawn-below 4 (after 4 x) (omega arith)) in
    record {
      what = item-is_word (drawn 9 (after 1 x)) nine;
      found = item-found (drawn 9 (after 1 x)) nine;
      user = user-word (drawn 3 (after 2 x)) (drawn-below 3 (after 2 x) (omega arith));
      rank = rank.0;
      ranked = rank.1;
      domain = domain;
      placed = domain-so (decimal (drawn 4 (after 4 x))) domain.name;
    }

pub submission-order : (x : ℕ) → order_of the_setup (submission x) ≡ Some (order_at x)
unfolding submission
submission-order x = let k = keeps x in order-is (item_word (drawn 9 (after 1 x))) (codes "u" ++ decimal (drawn 3 (after 2 x))) (decimal (1 + drawn 99 (after 3 x))) (codes "d" ++ decimal (drawn 4 (after 4 x))) (item_at (drawn 9 (after 1 x))) (1 + drawn 99 (after 3 x)) k.found k.ranked k.placed

eight-plain : (what user rank domain : List ℕ) → is_plain what ≡ true → is_plain user ≡ true → is_plain rank ≡ true → is_plain domain ≡ true → list_all is_plain (fields what user rank domain) ≡ true
eight-plain what user rank domain w u r d = rw (w, u, r, d) refl

submission-reads : (x : ℕ) → ReadsBack (submission x)
unfolding submission
submission-reads x = let k = keeps x in plain-reads moment_word (codes "submit") (drop 2 (fields (item_word (drawn 9 (after 1 x))) (codes "u" ++ decimal (drawn 3 (after 2 x))) (decimal (1 + drawn 99 (after 3 x))) (codes "d" ++ decimal (drawn 4 (after 4 x))))) (eight-plain (item_word (drawn 9 (after 1 x))) (codes "u" ++ decimal (drawn 3 (after 2 x))) (decimal (1 + drawn 99 (after 3 x))) (codes "d" ++ decimal (drawn 4 (after 4 x))) k.what.plain k.user.word.plain k.rank.plain k.domain.word.plain)

eight-short : (what user rank domain : List ℕ) → length what ≤ 2 → length (117 ∷ user) ≤ 2 → length rank ≤ 2 → length (100 ∷ domain) ≤ 2
    → length (line (fields what (117 ∷ user) rank (100 ∷ domain))) ≤ 41
eight-short what user rank domain w u r d =
    omega (
      arith,
      ap length (submission-parts moment_word (codes "submit") what user rank domain),
      length-append what (44 ∷ 117 ∷ (user ++ 44 ∷ (rank ++ 44 ∷ 44 ∷ 100 ∷ (domain ++ 44 ∷ 10 ∷ [])))),
      length-append user (44 ∷ (rank ++ 44 ∷ 44 ∷ 100 ∷ (domain ++ 44 ∷ 10 ∷ []))),
      length-append rank (44 ∷ 44 ∷ 100 ∷ (domain ++ 44 ∷ 10 ∷ [])),
      length-append domain (44 ∷ 10 ∷ []),
    )

submissions-short : (x : ℕ) → length (line (submission x)) ≤ 41
unfolding submission
submissions-short x =
    let k = keeps x in
    eight-short (item_word (drawn 9 (after 1 x))) (decimal (drawn 3 (after 2 x))) (decimal (1 + drawn 99 (after 3 x))) (decimal (drawn 4 (after 4 x))) k.what.short k.user.word.short k.rank.short k.domain.word.short

-- ---- the records

header-reads : ReadsBack script_header
header-reads =
    plain-reads (codes "at") (codes "do")
    (codes "what" ∷ codes "user" ∷ codes "priority" ∷ codes "start" ∷ codes "domain" ∷ codes "argument" ∷ []) refl

no_mark : (size x : ℕ) → strip_bom (text_of (script_header ∷ made submission 4 size x)) ≡ text_of (script_header ∷ made submission 4 size x)
unfolding strip_bom text_of
no_mark size x = refl

script-records : (seed size : ℕ) → records_of (script_text seed size) ≡ script_header ∷ made submission 4 size (after 128 seed)
unfolding script_text
script-records seed size = made-read script_header submission 4 size (after 128 seed) header-reads submission-reads (no_mark size (after 128 seed))

few-bytes : (size n : ℕ) → size ≤ 4000 → n ≤ 47 + 41 * size → nat_lt 67108864 n ≡ false
few-bytes size n few short = let many : n ≤ 47 + 164000 = omega arith in grind (arith, nat_tests)

script-short : (seed size : ℕ) → length (script_text seed size) ≤ 47 + 41 * size
unfolding script_text
script-short seed size = made-short script_header submission 4 size (after 128 seed) 41 submissions-short

-- ---- no fault

pub no-fault : (kind_at : ℕ → Option RefusalKind) (first count : ℕ) → ((i : ℕ) → i < count → kind_at (first + i) ≡ None) → first_fault kind_at first count ≡ None
unfolding first_fault
no-fault kind_at first zero none = refl
no-fault kind_at first (suc count) none =
    let start : first ≡ first + 0 = omega arith in
    let here : kind_at first ≡ None = ap kind_at start ∙ none 0 (omega arith) in
    let later : (i : ℕ) → i < count → kind_at (first + 1 + i) ≡ None = λ i below.
    (let same : first + 1 + i ≡ first + suc i = omega arith in ap kind_at same ∙ none (suc i) (omega arith)) in
    ap (λ k. fault_or first k (first_fault kind_at (first + 1) count)) here ∙ no-fault kind_at (first + 1) count later

module _ (size x : ℕ) where
  abbrev records : List Record
  records = script_header ∷ made submission 4 size x

  row-at : (i : ℕ) → i < size → get_or records (suc i) [] ≡ submission (after (4 * i) x)
  unfolding made
  row-at i below = get_or-map-range_with_len (λ j. submission (after (4 * j) x)) 0 size i i [] below (omega arith)

  no-moment : moment_of (codes "at") ≡ None
  unfolding moment_of is_spelling is_civil civil_of civil_text month_lengths
  no-moment = refl

  not-below : (n : ℕ) → nat_lt n n ≡ false
  not-below n = grind (arith, nat_tests)

  -- no record before it has a later moment
  not-earlier : (i : ℕ) → i < size → is_earlier (Some the_moment) (moment_of (at_field (get_or records i []))) ≡ false
  unfolding submission
  not-earlier zero below = rw no-moment refl
  not-earlier (suc j) below = rw (row-at j (omega arith), moment-is) (not-below the_moment.seconds)

  kind-at : (i : ℕ) → i < size → size ≤ 4000 → record_kind the_setup records (2 + i) ≡ None
  unfolding submission
  kind-at i below few =
      let y = after (4 * i) x in
      let k = keeps y in
      let place : 2 + i - 1 ≡ suc i = omega arith in
      let before : 2 + i - 1 - 1 ≡ i = omega arith in
      kind-none (item_word (drawn 9 (after 1 y))) (codes "u" ++ decimal (drawn 3 (after 2 y))) (decimal (1 + drawn 99 (after 3 y))) (codes "d" ++ decimal (drawn 4 (after 4 y)))
      records (2 + i) (item_at (drawn 9 (after 1 y)))
      (ap (λ n. get_or records n []) place ∙ row-at i below) (omega arith)
      (record-so (item_word (drawn 9 (after 1 y))) (codes "u" ++ decimal (drawn 3 (after 2 y))) (decimal (1 + drawn 99 (after 3 y))) (codes "d" ++ decimal (drawn 4 (after 4 y))) k.what.utf8 k.user.word.utf8 k.rank.utf8 k.domain.word.utf8)
      (ap (λ n. is_earlier (Some the_moment) (moment_of (at_field (get_or records n [])))) before ∙ not-earlier i below)
      k.found (form-so (item_word (drawn 9 (after 1 y))) (codes "u" ++ decimal (drawn 3 (after 2 y))) (decimal (1 + drawn 99 (after 3 y))) (codes "d" ++ decimal (drawn 4 (after 4 y))) (1 + drawn 99 (after 3 y)) k.user.name k.ranked k.placed)

  length-made : length (made submission 4 size x) ≡ size
  unfolding made
  length-made = length-map-range_with_len (λ j. submission (after (4 * j) x)) 0 size

  records-faultless : size ≤ 4000 → records_fault the_setup records ≡ None
  records-faultless few =
      ap (first_fault (record_kind the_setup records) 2) length-made ∙ no-fault (record_kind the_setup records) 2 size (λ i below. kind-at i below few)

faultless_by : (bytes : List ℕ) (found : List Record) → nat_lt 67108864 (length bytes) ≡ false → records_of bytes ≡ found → records_fault the_setup found ≡ None → script_fault the_setup bytes ≡ None
unfolding script_fault
faultless_by bytes found few is none = rw (few, is) none

-- ---- the commands

unfoldable pub orders : ℕ → ℕ → List Order
orders size x = map (λ i. order_at (after (4 * i) x)) (range_with_len 0 size)

orders-are : (g : ℕ → ℕ) (xs : List ℕ) → map (order_of the_setup) (map (λ i. submission (g i)) xs) ≡ map (λ order. Some order) (map (λ i. order_at (g i)) xs)
orders-are g [] = refl
orders-are g (i ∷ xs) =
    ap (λ o. o ∷ map (order_of the_setup) (map (λ j. submission (g j)) xs)) (submission-order (g i))
    ∙ ap (λ os. Some (order_at (g i)) ∷ os) (orders-are g xs)

pub length-orders : (size x : ℕ) → length (orders size x) ≡ size
unfolding orders
length-orders size x = length-map-range_with_len (λ i. order_at (after (4 * i) x)) 0 size

-- the script that is made
unfoldable pub the_script : (seed size : ℕ) → size ≤ 4000 → Script
the_script seed size few = record { commands = orders size (after 128 seed); few = let many = length-orders size (after 128 seed) in omega arith }

pub script-spelled : (seed size : ℕ) (few : size ≤ 4000) → SpellsScript the_setup (script_text seed size) (the_script seed size few)
unfolding the_script orders made
script-spelled seed size few = record {
  faultless = faultless_by (script_text seed size) (script_header ∷ made submission 4 size (after 128 seed))
      (few-bytes size _ few (script-short seed size)) (script-records seed size) (records-faultless size (after 128 seed) few);
  commands = ap (λ rs. map (order_of the_setup) (drop 1 rs)) (script-records seed size) ∙ orders-are (λ i. after (4 * i) (after 128 seed)) (range_with_len 0 size);
}
