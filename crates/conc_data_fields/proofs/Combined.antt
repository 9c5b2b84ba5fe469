-- What is read of several values is what is read of each, put together.
use Rattle.std.proofs.Common.{◌≡◌, ap, refl, Option, None, Some, Result, Ok, Err}
use Rattle.conc_types.specs.declared.error.ReadFail.TheVariants as fail
use Rattle.conc_types.specs.declared.kind.RefusalKind.{RefusalKind}
use Rattle.conc_data_fields.specs.Kinds.{beside, both, good, judged}
use Rattle.conc_data_fields.specs.Reads.{FieldFail, IfRead, beside_read, both_read, good_read, judged_read, read_as}

-- what is read is this
abbrev pub IsRead : {A : Type 0} → Result A FieldFail → Result A RefusalKind → Type 0
IsRead read value = IfRead read (λ r. r ≡ value)

pub read_as-is : {A : Type 0} (value : Result A RefusalKind) → IsRead (read_as value) value
read_as-is (Ok a) = refl
read_as-is (Err k) = refl

pub both-read : {A B : Type 0} (a : Result A FieldFail) (b : Result B FieldFail) (x : Result A RefusalKind) (y : Result B RefusalKind)
    → IsRead a x → IsRead b y → IsRead (both_read a b) (both x y)
both-read (Ok a) (Ok b) x y p q = rw (← p, ← q) refl
both-read (Ok a) (Err (fail.Refused k)) x y p q = rw (← p, ← q) refl
both-read (Ok a) (Err fail.NoMemory) x y p q = tt
both-read (Err (fail.Refused j)) (Ok b) x y p q = rw (← p, ← q) refl
both-read (Err fail.NoMemory) (Ok b) x y p q = tt
both-read (Err (fail.Refused j)) (Err (fail.Refused k)) x y p q = rw (← p, ← q) refl
both-read (Err (fail.Refused j)) (Err fail.NoMemory) x y p q = tt
both-read (Err fail.NoMemory) (Err k) x y p q = tt

pub beside-read : {A : Type 0} (kind : Option RefusalKind) (r : Result A FieldFail) (x : Result A RefusalKind)
    → IsRead r x → IsRead (beside_read kind r) (beside kind x)
beside-read None r x p = p
beside-read (Some j) (Ok a) x p = rw (← p) refl
beside-read (Some j) (Err (fail.Refused k)) x p = rw (← p) refl
beside-read (Some j) (Err fail.NoMemory) x p = tt

pub good-read : {A B : Type 0} (make : A → B) (r : Result A FieldFail) (x : Result A RefusalKind)
    → IsRead r x → IsRead (good_read make r) (good make x)
good-read make (Ok a) x p = rw (← p) refl
good-read make (Err (fail.Refused k)) x p = rw (← p) refl
good-read make (Err fail.NoMemory) x p = tt

pub judged-read : {A B : Type 0} (judge : A → Result B RefusalKind) (r : Result A FieldFail) (x : Result A RefusalKind)
    → IsRead r x → IsRead (judged_read judge r) (judged judge x)
judged-read judge (Ok a) x p = rw (← p) (read_as-is (judge a))
judged-read judge (Err (fail.Refused k)) x p = rw (← p) refl
judged-read judge (Err fail.NoMemory) x p = tt

-- what fails for one value fails for what is made of it
pub judged-fails : {A B : Type 0} (judge : A → Result B RefusalKind) (e : FieldFail) (x : Result A RefusalKind)
    → IsRead (Err e) x → IsRead (Err e) (judged judge x)
judged-fails judge (fail.Refused k) x p = rw (← p) refl
judged-fails judge fail.NoMemory x p = tt

-- both are read where the two are read together
pub both_read-ok : {A B : Type 0} (r : Result A FieldFail) (s : Result B FieldFail) (a : A) (b : B) → both_read r s ≡ Ok (a, b) → (r ≡ Ok a) × (s ≡ Ok b)
both_read-ok {A = A} {B = B} (Ok x) (Ok y) a b e =
    let same : (x, y) ≡ (a, b) = cc in
    (ap (λ (p : A × B). Ok p.0) same, ap (λ (p : A × B). Ok p.1) same)
both_read-ok (Ok x) (Err k) a b e = absurd (cc)
both_read-ok (Err j) (Ok y) a b e = absurd (cc)
both_read-ok (Err j) (Err k) a b e = absurd (cc)
