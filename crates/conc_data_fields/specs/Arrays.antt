-- Arrays of values of one form.
use lib.Dec.{leb-zero}
use Rattle.std.specs.Prelude.{ℕ, IsTrue, if◌then◌else◌, nat_lt, ◌+◌, ◌≤◌, List, [], ◌∷◌, length, Option, None, Some, Result, Ok, Err}
use Rattle.std.proofs.lemmas.Bool.{and_parts, leb-true}
use Rattle.toml.specs.Data.{Data, Items, no_items, item, as_array}
use Rattle.conc_types.specs.declared.kind.RefusalKind.{RefusalKind}
use Rattle.conc_types.specs.declared.kind.RefusalKind.TheVariants as refused
use Rattle.conc_types.specs.RefusalKinds.{lesser_of}
use Rattle.conc_types.specs.Words.{is_between}
use Rattle.conc_data_fields.specs.Kinds.{judged, or_kind, proven}
use Rattle.conc_data_fields.specs.declared.values.Counted.{Counted}

-- what each item of an array is read as
unfoldable pub read_all : {A : Type 0} → (Data → Result A RefusalKind) → Items → List (Result A RefusalKind)
read_all form no_items = []
read_all form (item value rest) = form value ∷ read_all form rest

-- the lesser of the kind of what is wrong here and of what is wrong elsewhere
abbrev pub lesser : {A : Type 0} → Result A RefusalKind → Option RefusalKind → Option RefusalKind
lesser (Ok a) kind = kind
lesser (Err j) None = Some j
lesser (Err j) (Some k) = Some (lesser_of k j)

-- the least kind of what is wrong
unfoldable pub worst : {A : Type 0} → List (Result A RefusalKind) → Option RefusalKind
worst [] = None
worst (r ∷ rest) = lesser r (worst rest)

abbrev pub good_before : {A : Type 0} → Result A RefusalKind → List A → List A
good_before (Ok a) later = a ∷ later
good_before (Err k) later = later

-- the values of those with which nothing is wrong
unfoldable pub goods : {A : Type 0} → List (Result A RefusalKind) → List A
goods [] = []
goods (r ∷ rest) = good_before r (goods rest)

abbrev pub unless : {A : Type 0} → Option RefusalKind → A → Result A RefusalKind
unless None a = Ok a
unless (Some k) a = Err k

-- all the values, or the least kind of what is wrong with one of them
abbrev pub all_good : {A : Type 0} → List (Result A RefusalKind) → Result (List A) RefusalKind
all_good all = unless (worst all) (goods all)

-- what is wrong with a number of items that is off its limits: too few are `OutOfRange`, too many `TooMany`
abbrev pub number_kind : ℕ → ℕ → RefusalKind
number_kind few count = if nat_lt count few then refused.OutOfRange else refused.TooMany

-- a list of so many values
abbrev pub counted : {A : Type 0} (few most : ℕ) → List A → Result (Counted A few most) RefusalKind
counted few most list =
    proven (is_between few most (length list)) (λ counted. record { list = list; counted = counted }) (number_kind few (length list))

-- there may be no value, where there need be none
pub none_few : (most : ℕ) → IsTrue (is_between 0 most 0)
none_few most = leb-zero most

-- no values, where there need be none
abbrev pub no_values : {A : Type 0} (most : ℕ) → Counted A 0 most
no_values most = record { list = []; counted = none_few most }

-- the number of the values is within the greater limit
pub within_most : {A : Type 0} {few most : ℕ} (values : Counted A few most) → length values.list ≤ most
within_most values = leb-true _ _ (and_parts _ _ values.counted).1

abbrev pub list_of : {A : Type 0} → (Data → Result A RefusalKind) → Items → Result (List A) RefusalKind
list_of form items = all_good (read_all form items)

-- an array of items of a form, or the least kind of what is wrong with an item
unfoldable pub list_in : {A : Type 0} → (Data → Result A RefusalKind) → Data → Result (List A) RefusalKind
list_in form value = or_kind refused.WrongKind (list_of form) (as_array value)

-- an array of so many items of a form: the least kind of what is wrong with an item, and else what is
-- wrong with their number
unfoldable pub array_in : {A : Type 0} (few most : ℕ) → (Data → Result A RefusalKind) → Data → Result (Counted A few most) RefusalKind
array_in few most form value = judged (counted few most) (list_in form value)

-- the first with which something is wrong, as its line and its kind
unfoldable pub first_wrong : {A : Type 0} → ℕ → List (Result A RefusalKind) → Option (ℕ × RefusalKind)
first_wrong line [] = None
first_wrong line (Ok a ∷ rest) = first_wrong (line + 1) rest
first_wrong line (Err k ∷ rest) = Some (line, k)
