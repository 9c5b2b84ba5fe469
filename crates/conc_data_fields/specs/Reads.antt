-- What is read of values where memory may lack.
use Rattle.std.specs.Prelude.{Option, None, Some, Result, Ok, Err}
use Rattle.conc_types.specs.declared.error.ReadFail.{ReadFail}
use Rattle.conc_types.specs.declared.error.ReadFail.TheVariants as fail
use Rattle.conc_types.specs.declared.kind.RefusalKind.{RefusalKind}
use Rattle.conc_types.specs.RefusalKinds.{lesser_of}

-- why a value of a document is not read
abbrev pub FieldFail : Type 0
FieldFail = ReadFail RefusalKind

-- what is said of the value or the kind that is read, of which nothing is said where memory lacked
abbrev pub IfRead : {A : Type 0} → Result A FieldFail → (Result A RefusalKind → Type 0) → Type 0
IfRead (Ok a) says = says (Ok a)
IfRead (Err (fail.Refused kind)) says = says (Err kind)
IfRead (Err fail.NoMemory) says = Unit {0}

-- what is read of a value for which memory does not lack
abbrev pub read_as : {A : Type 0} → Result A RefusalKind → Result A FieldFail
read_as (Ok a) = Ok a
read_as (Err kind) = Err (fail.Refused kind)

-- what two values fail for together: the lesser kind, and no kind where memory lacked for one
abbrev pub lesser_fail : FieldFail → FieldFail → FieldFail
lesser_fail (fail.Refused j) (fail.Refused k) = fail.Refused (lesser_of j k)
lesser_fail (fail.Refused j) fail.NoMemory = fail.NoMemory
lesser_fail fail.NoMemory other = fail.NoMemory

-- both values, or what they fail for together
abbrev pub both_read : {A B : Type 0} → Result A FieldFail → Result B FieldFail → Result (A × B) FieldFail
both_read (Ok a) (Ok b) = Ok (a, b)
both_read (Ok a) (Err k) = Err k
both_read (Err j) (Ok b) = Err j
both_read (Err j) (Err k) = Err (lesser_fail j k)

-- the value, or what it fails for together with the kind of what is wrong beside it
abbrev pub beside_read : {A : Type 0} → Option RefusalKind → Result A FieldFail → Result A FieldFail
beside_read None r = r
beside_read (Some j) (Ok a) = Err (fail.Refused j)
beside_read (Some j) (Err k) = Err (lesser_fail (fail.Refused j) k)

-- what a value is made into, where it is read
abbrev pub good_read : {A B : Type 0} → (A → B) → Result A FieldFail → Result B FieldFail
good_read make (Ok a) = Ok (make a)
good_read make (Err k) = Err k

-- what a value that is read is judged to be
abbrev pub judged_read : {A B : Type 0} → (A → Result B RefusalKind) → Result A FieldFail → Result B FieldFail
judged_read judge (Ok a) = read_as (judge a)
judged_read judge (Err k) = Err k
