-- Accepted files are not refused.
use Rattle.std.proofs.Common.{◌≡◌, inl, inr, ℕ, zero, suc, ◌+◌, ◌≤◌, true, false, List, [], ◌∷◌, length, take, Option, None, Some, refl, sym, ◌∙◌, ap, subst, arith}
use Rattle.std.specs.Prelude.{nat_lt, Ok, Result, slice_get}
use Rattle.std.specs.List.{AllZip, sum_by}
use Rattle.std.specs.Result.{result_err}
use Rattle.std.proofs.lemmas.Bool.{cond-false, le-ltb}
use Rattle.std.proofs.lemmas.List.Sums.{sum_by-cons}
use Rattle.conc_edge_clock.specs.Clocks.{ClockState}
use Rattle.conc_types.specs.declared.kind.RefusalKind.TheVariants as refused
use Rattle.conc_types.specs.declared.refusal.FileKind.{FileKind}
use Rattle.conc_types.specs.declared.refusal.FileKind.TheVariants as kind
use Rattle.conc_types.specs.declared.refusal.Refusal.{Refusal}
use Rattle.conc_types.specs.declared.script.Order.{Order}
use Rattle.conc_types.specs.declared.setup.Setup.{Setup}
use Rattle.conc_types.specs.declared.table.Table.{Table}
use Rattle.conc_types.specs.Faults.{Fault}
use Rattle.conc_outside.specs.Files.{Files, Gives}
use Rattle.conc_plan.specs.Faults.{plan_fault}
use Rattle.conc_script.specs.Clock.{clock_fault}
use Rattle.conc_script.specs.Script.{script_fault, SpellsScript}
use Rattle.conc_script.proofs.OneScript.{commands-one}
use Rattle.conc_setup.specs.Setups.{fault_in, setup_in}
use Rattle.conc_tables.specs.Tables.{SpellsTable, table_fault}
use Rattle.conc_tables.proofs.OneTable.{table-one}
use Rattle.conc_top_inputs.specs.Given.{HasScript, HasSetup, is_system, IsNext, IsNextTable, Names, Exposed}
use Rattle.conc_top_inputs.specs.Refusals.{fault_of_table, HasFault, IsInputRefused, IsPlanRefused}
use Rattle.conc_top_laws.specs.Accepted.{AreAccepted, IsClockAccepted}

-- ---- what is given is one

some-same : {X : Type 0} (a b : X) → Some a ≡ Some b → a ≡ b
some-same a b is = cc is

no-fault : {X : Type 0} (o : Option X) (x : X) → o ≡ None → o ≡ Some x → ⊥
no-fault o x none some = let two : None ≡ Some x = sym none ∙ some in cc two

pub gives-one : (files : Files) (name a b : List ℕ) → Gives (Some files) name a → Gives (Some files) name b → a ≡ b
gives-one files name a b one other = some-same a b (sym one ∙ other)

ok-same : (a b : Setup) (r : Result Setup Fault) → r ≡ Ok a → r ≡ Ok b → a ≡ b
ok-same a b r one other = let two : Ok a ≡ Ok b = sym one ∙ other in cc two

setup-one : (files : Files) (names : Names) (a b : HasSetup (Some files) names) → a.setup ≡ b.setup
setup-one files names a b =
    let same = gives-one files names.setup a.bytes b.bytes a.given b.given in
    ok-same a.setup b.setup (setup_in b.bytes) (ap setup_in (sym same) ∙ a.spells) b.spells

script-one : (files : Files) (names : Names) (a b : HasScript (Some files) names) → a.script.commands ≡ b.script.commands
script-one files names a b =
    let same = gives-one files names.script a.bytes b.bytes a.given b.given in
    let setup = setup-one files names a.before b.before in
    let spells = subst (λ (s : Setup). SpellsScript s b.bytes a.script) setup (subst (λ (bytes : List ℕ). SpellsScript a.before.setup bytes a.script) same a.spells) in
    commands-one b.before.setup b.bytes a.script b.script spells b.spells

-- ---- tables

tables-one : (files : Files) (names : List (List ℕ)) (c d : List (List ℕ)) (s t : List Table) → AllZip (Gives (Some files)) names c → AllZip (Gives (Some files)) names d
    → AllZip SpellsTable c s → AllZip SpellsTable d t → s ≡ t
tables-one files [] [] [] [] [] a b p q = refl
tables-one files (n ∷ ns) (x ∷ xs) (y ∷ ys) (u ∷ us) (v ∷ vs) a b p q =
    let same = gives-one files n x y a.0 b.0 in
    let first = table-one y u v (subst (λ (z : List ℕ). SpellsTable z u) same p.0) q.0 in
    let rest = tables-one files ns xs ys us vs a.1 b.1 p.1 q.1 in
    ap (λ (z : Table). z ∷ us) first ∙ ap (λ (z : List Table). v ∷ z) rest
tables-one files [] (x ∷ xs) d s t a b p q = absurd a
tables-one files [] [] (y ∷ ys) s t a b p q = absurd b
tables-one files [] [] [] (u ∷ us) t a b p q = absurd p
tables-one files [] [] [] [] (v ∷ vs) a b p q = absurd q
tables-one files (n ∷ ns) [] d s t a b p q = absurd a
tables-one files (n ∷ ns) (x ∷ xs) [] s t a b p q = absurd b
tables-one files (n ∷ ns) (x ∷ xs) (y ∷ ys) [] t a b p q = absurd p
tables-one files (n ∷ ns) (x ∷ xs) (y ∷ ys) (u ∷ us) [] a b p q = absurd q

-- a table that is spelled, with those before it within the limit, has no fault
first-faultless : (before total : ℕ) (bytes : List ℕ) (table : Table) → SpellsTable bytes table → before + (length bytes + total) ≤ 134217728 → fault_of_table before bytes ≡ None
first-faultless before total bytes table spells fit =
    let within : nat_lt 134217728 (before + length bytes) ≡ false = le-ltb _ _ (omega (arith, fit)) in
    cond-false (nat_lt 134217728 (before + length bytes)) (Some (0, refused.TooLarge)) (table_fault bytes) within ∙ spells.faultless

each-faultless : (files : Files) (names c : List (List ℕ)) (tables : List Table) → AllZip (Gives (Some files)) names c → AllZip SpellsTable c tables
    → (before : ℕ) → before + sum_by length c ≤ 134217728 → (n : ℕ) (name : List ℕ) → slice_get names n ≡ Some name → (d : List (List ℕ)) → AllZip (Gives (Some files)) (take n names) d
    → (bytes : List ℕ) → Gives (Some files) name bytes → fault_of_table (before + sum_by length d) bytes ≡ None
each-faultless files [] c tables a p before fit n name at d b bytes given = let two : None ≡ Some name = at in cc two
each-faultless files (x ∷ xs) [] tables a p before fit n name at d b bytes given = absurd a
each-faultless files (x ∷ xs) (y ∷ ys) [] a p before fit n name at d b bytes given = absurd p
each-faultless files (x ∷ xs) (y ∷ ys) (t ∷ ts) a p before fit zero name at (z ∷ zs) b bytes given = absurd b
each-faultless files (x ∷ xs) (y ∷ ys) (t ∷ ts) a p before fit zero name at [] b bytes given =
    let named : x ≡ name = some-same x name at in
    let same = gives-one files name y bytes (subst (λ (k : List ℕ). Gives (Some files) k y) named a.0) given in
    let none : before + 0 ≡ before = omega arith in
    ap (λ (k : ℕ). fault_of_table k bytes) none
    ∙ first-faultless before (sum_by length ys) bytes t (subst (λ (k : List ℕ). SpellsTable k t) same p.0) (omega (arith, fit, ap length same, sum_by-cons length y ys))
each-faultless files (x ∷ xs) (y ∷ ys) (t ∷ ts) a p before fit (suc n) name at [] b bytes given = absurd b
each-faultless files (x ∷ xs) (y ∷ ys) (t ∷ ts) a p before fit (suc n) name at (z ∷ zs) b bytes given =
    let same = gives-one files x z y b.0 a.0 in
    let sum : before + sum_by length (z ∷ zs) ≡ before + length y + sum_by length zs = omega (arith, ap length same, sum_by-cons length z zs) in
    ap (λ (k : ℕ). fault_of_table k bytes) sum
    ∙ each-faultless files xs ys ts a.1 p.1 (before + length y) (omega (arith, fit, sum_by-cons length y ys)) n name at zs b.1 bytes given

-- ---- a file

abbrev pub exposed-of : Files → ClockState → ClockState → Exposed
exposed-of files before after = record { files = Some files; clock_before = before; clock_after = after }

clock-faultless : (files : Files) (clock : Option (List ℕ)) (name bytes : List ℕ) → IsClockAccepted files clock → clock ≡ Some name → is_system name ≡ false → Gives (Some files) name bytes
    → clock_fault bytes ≡ None
clock-faultless files None name bytes accepted named own given = let two : None ≡ Some name = named in cc two
clock-faultless files (Some clock) name bytes (inl system) named own given =
    let same = some-same clock name named in
    let two : true ≡ false = sym system ∙ ap is_system same ∙ own in
    cc two
clock-faultless files (Some clock) name bytes (inr has) named own given =
    let same = some-same clock name named in
    let is = gives-one files name has.bytes bytes (subst (λ (k : List ℕ). Gives (Some files) k has.bytes) same has.given) given in
    ap clock_fault (sym is) ∙ has.spells.faultless

module _ (files : Files) (before after : ClockState) (names : Names) (accepted : AreAccepted files names) where
  table-faultless : (number : ℕ) (name : List ℕ) (next : IsNextTable (exposed-of files before after) names number name) (bytes : List ℕ) → Gives (Some files) name bytes
      → fault_of_table (sum_by length next.given.contents) bytes ≡ None
  table-faultless number name next bytes given =
      let same = setup-one files names next.before.before.before accepted.script.before in
      let named = subst (λ (s : Setup). slice_get s.tables number ≡ Some name) same next.named in
      let read = subst (λ (s : Setup). AllZip (Gives (Some files)) (take number s.tables) next.given.contents) same next.given.given in
      let zero_more : 0 + sum_by length next.given.contents ≡ sum_by length next.given.contents = omega arith in
      ap (λ (k : ℕ). fault_of_table k bytes) (sym zero_more)
      ∙ each-faultless files accepted.script.before.setup.tables accepted.given.contents accepted.tables accepted.given.given accepted.given.spell 0 (omega (arith, accepted.given.fit)) number name
      named next.given.contents read bytes given

  file-unrefused : (file : FileKind) (name : List ℕ) (next : IsNext (exposed-of files before after) names file name) (bytes : List ℕ) (fault : Fault) → Gives (Some files) name bytes
      → HasFault (exposed-of files before after) names file name next bytes fault → ⊥
  file-unrefused kind.Setup name next bytes fault given has =
      let same = gives-one files names.setup accepted.script.before.bytes bytes accepted.script.before.given (subst (λ (k : List ℕ). Gives (Some files) k bytes) next given) in
      let none : fault_in bytes ≡ None = ap (λ (r : Result Setup Fault). result_err r) (ap setup_in (sym same) ∙ accepted.script.before.spells) in
      no-fault (fault_in bytes) fault none has
  file-unrefused kind.Script name next bytes fault given has =
      let same = gives-one files names.script accepted.script.bytes bytes accepted.script.given (subst (λ (k : List ℕ). Gives (Some files) k bytes) next.1 given) in
      let setup = setup-one files names next.0 accepted.script.before in
      let none : script_fault next.0.setup bytes ≡ None = ap (λ (s : Setup). script_fault s bytes) setup ∙ ap (script_fault accepted.script.before.setup) (sym same) ∙ accepted.script.spells.faultless in
      no-fault (script_fault next.0.setup bytes) fault none has
  file-unrefused kind.Clock name next bytes fault given has =
      no-fault (clock_fault bytes) fault (clock-faultless files names.clock name bytes accepted.clock next.1 next.2 given) has
  file-unrefused (kind.Table number) name next bytes fault given has =
      no-fault (fault_of_table (sum_by length next.given.contents) bytes) fault (table-faultless number name next bytes given) has
  file-unrefused kind.Repeats name next bytes fault given has = absurd has
  file-unrefused kind.Parts name next bytes fault given has = absurd has

  plan-unrefused : (refusal : Refusal) (name : List ℕ) → IsPlanRefused (exposed-of files before after) names refusal name → ⊥
  plan-unrefused refusal name is =
      let has = is.files.before.before in
      let setup = setup-one files names has.before accepted.script.before in
      let commands = script-one files names has accepted.script in
      let given = subst (λ (s : Setup). AllZip (Gives (Some files)) s.tables is.files.given.contents) setup is.files.given.given in
      let tables = tables-one files accepted.script.before.setup.tables is.files.given.contents accepted.given.contents is.tables accepted.tables given accepted.given.given is.files.given.spell accepted.given.spell in
      let none : plan_fault has.before.setup has.script.commands is.tables ≡ None =
      ap (λ (s : Setup). plan_fault s has.script.commands is.tables) setup
      ∙ ap (λ (o : List Order). plan_fault accepted.script.before.setup o is.tables) commands
      ∙ ap (plan_fault accepted.script.before.setup accepted.script.script.commands) tables ∙ accepted.faultless in
      no-fault _ _ none is.fault

  pub unrefused : (refusal : Refusal) (name : List ℕ) → IsInputRefused (exposed-of files before after) names refusal name → ⊥
  unrefused refusal name (inl is) = file-unrefused refusal.file name is.next is.bytes (refusal.line, refusal.kind) is.given is.fault
  unrefused refusal name (inr is) = plan-unrefused refusal name is
