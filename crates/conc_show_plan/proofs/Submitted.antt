-- What is read of the records of a script, one by one.
use Rattle.std.proofs.Common.{◌≡◌, refl, sym, ◌∙◌, ap, ◌<◌, ◌≤◌, ◌+◌, ℕ, List, [], ◌∷◌, ◌++◌, append_assoc, length, le-ltb, lt-ltb}
use Rattle.std.specs.Prelude.{None, Some}
use Rattle.std.proofs.lemmas.List.{append-nil}
use Rattle.conc_data_records.specs.Records.{Record}
use Rattle.conc_show_plan.specs.Submits.{short_record, submit_in, submits_from}

-- some records are read, of which these submit; the rest is left, and this is the number of its first one
pub record IsRead (records rest : List Record) (submits : List ℕ) (number : ℕ) : Type 0 where
  pub list : submits_from 1 records ≡ submits ++ submits_from number rest
  pub fault : short_record 2 records ≡ short_record (number + 1) rest

submits_more : (number : ℕ) (r : Record) (records : List Record) → submits_from number (r ∷ records) ≡ submit_in number r ++ submits_from (number + 1) records
unfolding submits_from
submits_more number r records = refl

long_more : (number : ℕ) (r : Record) (records : List Record) → 2 ≤ length r → short_record number (r ∷ records) ≡ short_record (number + 1) records
unfolding short_record
long_more number r records h = rw (le-ltb (length r) 2 h) refl

-- one more record is read
pub read_more : (records rest after : List Record) (r : Record) (submits more : List ℕ) (number next : ℕ) → IsRead records rest submits number → rest ≡ r ∷ after → 2 ≤ length r
    → more ≡ submits ++ submit_in number r → next ≡ number + 1 → IsRead records after more next
read_more records rest after r submits more number next read is long m n = record {
  list =
      read.list ∙ (ap (λ (x : List ℕ). submits ++ x) (ap (submits_from number) is ∙ (submits_more number r after ∙ ap (λ (k : ℕ). submit_in number r ++ submits_from k after) (sym n)))
      ∙ (sym (append_assoc submits (submit_in number r) (submits_from next after)) ∙ ap (λ (x : List ℕ). x ++ submits_from next after) (sym m)));
  fault = read.fault ∙ (ap (short_record (number + 1)) is ∙ (long_more (number + 1) r after long ∙ ap (λ (k : ℕ). short_record (k + 1) after) (sym n)));
}

short_here : (number : ℕ) (r : Record) (records : List Record) → length r < 2 → short_record number (r ∷ records) ≡ Some number
unfolding short_record
short_here number r records h = rw (lt-ltb (length r) 2 h) refl

-- the next record is too short
pub read_short : (records rest after : List Record) (r : Record) (submits : List ℕ) (number place : ℕ) → IsRead records rest submits number → rest ≡ r ∷ after → length r < 2 → place ≡ number + 1
    → short_record 2 records ≡ Some place
read_short records rest after r submits number place read is short p =
    read.fault ∙ (ap (short_record (number + 1)) is ∙ (short_here (number + 1) r after short ∙ ap (λ (k : ℕ). Some k) (sym p)))

no_short : (number : ℕ) → short_record number [] ≡ None
unfolding short_record
no_short number = refl

no_submits : (number : ℕ) → submits_from number [] ≡ []
unfolding submits_from
no_submits number = refl

-- all records are read
pub read_fine : (records rest : List Record) (submits : List ℕ) (number : ℕ) → IsRead records rest submits number → rest ≡ [] → short_record 2 records ≡ None
read_fine records rest submits number read is = read.fault ∙ (ap (short_record (number + 1)) is ∙ no_short (number + 1))

pub read_all : (records rest : List Record) (submits : List ℕ) (number : ℕ) → IsRead records rest submits number → rest ≡ [] → submits ≡ submits_from 1 records
read_all records rest submits number read is = sym (read.list ∙ (ap (λ (x : List ℕ). submits ++ x) (ap (submits_from number) is ∙ no_submits number) ∙ append-nil submits))
