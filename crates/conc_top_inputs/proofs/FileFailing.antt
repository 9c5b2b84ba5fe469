-- A file that ends the reading, against what the failure means.
use Rattle.std.proofs.Common.{◌≡◌, ◌≤◌, ℕ, ◌+◌, ◌<◌, List, [], ◌∷◌, ◌++◌, Option, None, Some, length, get_or, take, sym, ◌∙◌, subst, refl, inl, inr, lit≤, arith, true}
use Rattle.std.specs.Prelude.{IfSome}
use Rattle.std.specs.List.{sum_by}
use Rattle.std.proofs.lemmas.List.Elements.{all_zip_more}
use Rattle.std.proofs.lemmas.Option.{slice_get_read}
use Rattle.std.proofs.lemmas.List.Sums.{sum_by-append}
use Rattle.std.proofs.lemmas.Slice.Zip.{all_zipped_more}
use Rattle.conc_types.specs.declared.refusal.FileKind.{FileKind}
use Rattle.conc_types.specs.declared.refusal.FileKind.TheVariants as kind
use Rattle.conc_types.specs.declared.refusal.Refusal.{Refusal}
use Rattle.conc_types.specs.declared.script.Readings.{Readings}
use Rattle.conc_types.specs.declared.table.Table.{Table}
use Rattle.conc_types.specs.Faults.{Fault}
use Rattle.conc_outside.specs.Counts.{Rose}
use Rattle.conc_outside.specs.declared.error.ShelfFail.TheVariants as fail
use Rattle.conc_outside.specs.Files.{file_named, Files, Gives, IsLater, Lacks, ShelfState}
use Rattle.conc_tables.specs.Tables.{SpellsTable}
use Rattle.conc_top_inputs.specs.declared.error.InputFail.{InputFail}
use Rattle.conc_top_inputs.specs.declared.error.InputFail.TheVariants as input
use Rattle.conc_top_inputs.specs.declared.error.FileFail.{FileFail}
use Rattle.conc_top_inputs.specs.declared.error.FileFail.TheVariants as file_fail
use Rattle.conc_top_inputs.specs.Fails.{IsThere, FailsWith}
use Rattle.conc_top_inputs.specs.Given.{HasScript, HasTables, is_system, IsNext, Names, ReadsFrom, sources, Sources, Exposed, exposed_by}
use Rattle.conc_top_inputs.specs.Reading.{HasTablesIn, TakesTable}
use Rattle.conc_top_inputs.specs.declared.given.Progress.{Progress}
use Rattle.conc_top_inputs.specs.Refusals.{fault_of_table, HasFault, IsFileRefused}
use Rattle.conc_top_inputs.specs.FileFails.{Ends, IsFailAt, FailsAtClock, FailsInTables, FailsUnshown}
use Rattle.conc_top_inputs.specs.Ways.{fail_at}
use Rattle.conc_data_digests.specs.Taken.{HasTaken}
use Rattle.conc_data_digests.specs.declared.input.InputDigest.{InputDigest}
use Rattle.conc_top_inputs.proofs.Digesting.{TookTables, took-more, took-none}

-- a count that rose late rose in all
Rose-wider : (a b c : ℕ) → a ≤ b → Rose b c → Rose a c
Rose-wider a b c h (inl rose) = inl (omega (arith, h, rose))
Rose-wider a b c h (inr end) = inr end

pub IsLater-trans : (a b c : ShelfState) → IsLater a b → IsLater b c → IsLater a c
IsLater-trans a b c h k = record {
  files = k.files ∙ h.files;
  absences = omega (arith, h.absences, k.absences);
  faults = omega (arith, h.faults, k.faults);
}

pub IsLater-refl : (a : ShelfState) → IsLater a a
IsLater-refl a = record { files = refl; absences = omega arith; faults = omega arith }

-- the same file ends a longer reading
pub ends-wider : (old mid new : ShelfState) (has_fault : List ℕ → Fault → Type 0) (file : FileKind) (name : List ℕ) (s : FileFail) → IsLater old mid
    → Ends mid new has_fault file name s → Ends old new has_fault file name s
ends-wider old mid new has_fault file name (file_fail.Refused refusal) later h =
    record { bytes = h.bytes; given = subst (λ t. Gives t name h.bytes) later.files h.given; file_is = h.file_is; fault = h.fault }
ends-wider old mid new has_fault file name file_fail.Absent later h =
    (subst (λ t. Lacks t name) later.files h.0, Rose-wider old.absences mid.absences new.absences later.absences h.1)
ends-wider old mid new has_fault file name file_fail.ReadFault later h =
    (subst (λ t. IsThere t name) later.files h.0, Rose-wider old.faults mid.faults new.faults later.faults h.1)
ends-wider old mid new has_fault file name file_fail.NoMemory later h = tt

refused : (exposed : Exposed) (names : Names) (file : FileKind) (name : List ℕ) (next : IsNext exposed names file name) (refusal : Refusal) (bytes : List ℕ)
    → refusal.file ≡ file → Gives exposed.files name bytes → HasFault exposed names file name next bytes (refusal.line, refusal.kind) → IsFileRefused exposed names refusal name
refused exposed names file name next refusal bytes same given fault =
    let at : (n : IsNext exposed names refusal.file name) × HasFault exposed names refusal.file name n bytes (refusal.line, refusal.kind)
    = subst (λ k. (n : IsNext exposed names k name) × HasFault exposed names k name n bytes (refusal.line, refusal.kind)) (sym same) (next, fault) in
    record { next = at.0; bytes = bytes; given = given; fault = at.1 }

stops-by : (old new : Sources) (names : Names) (file : FileKind) (name : List ℕ) (next : IsNext (exposed_by old new) names file name) (s : FileFail)
    → Ends old.shelf new.shelf (HasFault (exposed_by old new) names file name next) file name s → FailsWith old new names (fail_at s name)
stops-by old new names file name next (file_fail.Refused refusal) h = inl (refused (exposed_by old new) names file name next refusal h.bytes h.file_is h.given h.fault)
stops-by old new names file name next file_fail.Absent h = record { file = file; next = next; lacking = h.0; counted = h.1 }
stops-by old new names file name next file_fail.ReadFault h = record { file = file; next = next; there = h.0; counted = h.1 }
stops-by old new names file name next file_fail.NoMemory h = tt

-- the file that was next ends the reading, and this is its failure
pub stops-at : (old new : Sources) (mid : ShelfState) (names : Names) (file : FileKind) (name : List ℕ) (next : IsNext (exposed_by old new) names file name) (s : FileFail) (end : InputFail)
    → IsLater old.shelf mid → Ends mid new.shelf (HasFault (exposed_by old new) names file name next) file name s → IsFailAt s name end → FailsWith old new names end
stops-at old new mid names file name next s end later h (inl is) = subst (FailsWith old new names) (sym is)
    (stops-by old new names file name next s (ends-wider old.shelf mid new.shelf (HasFault (exposed_by old new) names file name next) file name s later h))
stops-at old new mid names file name next s end later h (inr is) = subst (FailsWith old new names) (sym is) tt

-- the clock that is named was read, also as seen from the beginning
pub reads-clock : (old new : Sources) (mid : ShelfState) → mid.files ≡ old.shelf.files → (name : List ℕ) (readings : Readings)
    → ReadsFrom (exposed_by (sources mid old.clock) new) name readings (is_system name) → ReadsFrom (exposed_by old new) name readings (is_system name)
reads-clock old new mid same name readings =
    subst (λ files. ReadsFrom (record { files = files; clock_before = old.clock; clock_after = new.clock }) name readings (is_system name)) same

-- the clock that was asked ends the reading
unshown : (old new : Sources) (names : Names) (name : List ℕ) → HasScript old.shelf.files names → names.clock ≡ Some name → is_system name ≡ true
    → (end : InputFail) → FailsUnshown old.clock new.clock end → FailsWith old new names end
unshown old new names name before named asked input.ClockFault h = record { before = before; name = name; named = named; asked = asked; silent = h }
unshown old new names name before named asked input.NoMemory h = tt
unshown old new names name before named asked (input.Refused refusal file) h = absurd h
unshown old new names name before named asked (input.Absent file) h = absurd h
unshown old new names name before named asked (input.ReadFault file) h = absurd h

-- the clock that is named ends the reading
pub clock-end : (old new : Sources) (mid : ShelfState) (names : Names) (name : List ℕ) (end : InputFail) → HasScript old.shelf.files names → names.clock ≡ Some name
    → IsLater old.shelf mid → FailsAtClock (sources mid old.clock) new name end → FailsWith old new names end
clock-end old new mid names name end before named later (inl h) = unshown old new names name before named h.0 end h.1
clock-end old new mid names name end before named later (inr h) =
    stops-at old new mid names kind.Clock name (before, named, h.from_file) h.cause end later h.ends h.is

-- ---- tables

sum_by-one : (bytes : List ℕ) → sum_by length (bytes ∷ []) ≡ length bytes
sum_by-one bytes = grind arith

-- the tables were read, have so many bytes together, and the digest took them in
abbrev pub AreRead : Option Files → List (List ℕ) → List Table → ℕ → InputDigest → InputDigest → Type 0
AreRead exposed names tables total old new =
    (h : HasTables exposed names tables) × (sum_by length h.contents ≡ total) × TookTables old new names h.contents

-- no table was read
pub tables-none : (exposed : Option Files) (tables : List Table) (digest : InputDigest) → tables ≡ [] → AreRead exposed [] tables 0 digest digest
tables-none exposed tables digest none = rw none (record { contents = []; given = tt; spell = tt; fit = lit≤ tt }, refl, took-none digest)

-- one more table was read
pub tables-more : (exposed : Option Files) (names : List (List ℕ)) (i : ℕ) (name : List ℕ) (tables : List Table) (table : Table) (old : InputDigest) (mid new : Progress)
    → i < length names → name ≡ get_or names i name → TakesTable exposed name mid new table
    → AreRead exposed (take i names) tables mid.bytes old mid.digest → AreRead exposed (take (i + 1) names) (tables ++ table ∷ []) new.bytes old new.digest
tables-more exposed names i name tables table old mid new below here more (has, so_far, taken) =
    let sum : sum_by length (has.contents ++ more.bytes ∷ []) ≡ new.bytes = omega (arith, sum_by-append length has.contents (more.bytes ∷ []), sum_by-one more.bytes, so_far, more.counted) in (
      record {
        contents = has.contents ++ more.bytes ∷ [];
        given = all_zip_more (Gives exposed) names has.contents i name more.bytes below here has.given more.given;
        spell = all_zipped_more SpellsTable has.contents tables more.bytes table has.spell more.spells;
        fit = omega (arith, sum, more.fit);
      },
      sum,
      took-more old mid.digest new.digest exposed names i name more.bytes tables has below here taken more.digest,
    )

-- all were read
pub all-read : (exposed : Option Files) (names some : List (List ℕ)) (tables : List Table) (total : ℕ) (old new : InputDigest) → some ≡ names
    → AreRead exposed some tables total old new → HasTablesIn exposed names old new tables
all-read exposed names some tables total old new all read =
    subst (λ l. HasTablesIn exposed l old new tables) all (record { given = read.0; digest = read.2 })

-- the table that was next ends the reading
pub tables-file_fail : (old mid new : ShelfState) (names : List (List ℕ)) (i number : ℕ) (name : List ℕ) (tables : List Table) (has : HasTables old.files (take i names) tables) (total : ℕ) (s : FileFail) (end : InputFail)
    → i < length names → name ≡ get_or names i name → number ≡ i → IsLater old mid → sum_by length has.contents ≡ total
    → Ends mid new (λ bytes fault. fault_of_table total bytes ≡ Some fault) (kind.Table number) name s → IsFailAt s name end → FailsInTables old new names end
tables-file_fail old mid new names i number name tables has total s end below here at later so_far h (inr is) = inl is
tables-file_fail old mid new names i number name tables has total s end below here at later so_far h (inl is) =
    inr (record {
      number = i;
      name = name;
      named = slice_get_read names (length names) i name refl below here;
      tables = tables;
      given = has;
      cause = s;
      ends = ends-wider old mid new (λ bytes fault. fault_of_table (sum_by length has.contents) bytes ≡ Some fault) (kind.Table i) name s later
          (subst (λ n. Ends mid new (λ bytes fault. fault_of_table n bytes ≡ Some fault) (kind.Table i) name s) (sym so_far)
          (subst (λ n. Ends mid new (λ bytes fault. fault_of_table total bytes ≡ Some fault) (kind.Table n) name s) at h));
      is = is;
    })
