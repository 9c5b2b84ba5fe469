-- What stands where nothing is wrong.
use Rattle.std.proofs.Common.{◌≡◌, ◌∙◌, sym, refl, ap, Bool, true, false, List, [], ◌∷◌, length, map, Option, None, Some, Result, Ok, Err}
use Rattle.std.specs.Prelude.{IfOk, IsTrue}
use Rattle.conc_types.specs.declared.kind.RefusalKind.{RefusalKind}
use Rattle.conc_data_fields.specs.Arrays.{all_good, goods, lesser, unless, worst}
use Rattle.conc_data_fields.specs.Kinds.{both, good, judged, or_kind, proven}
use Rattle.conc_data_fields.specs.Reads.{FieldFail}
use Rattle.conc_data_fields.proofs.Combined.{IsRead}
use Rattle.conc_setup.proofs.Each.{each_count}

pub judged-ok : {A B : Type 0} (f : A → Result B RefusalKind) (r : Result A RefusalKind) (b : B) → judged f r ≡ Ok b → (a : A) × (r ≡ Ok a) × (f a ≡ Ok b)
judged-ok f (Ok a) b e = (a, refl, e)
judged-ok f (Err k) b e = absurd (cc)

pub good-ok : {A B : Type 0} (f : A → B) (r : Result A RefusalKind) (b : B) → good f r ≡ Ok b → (a : A) × (r ≡ Ok a) × (f a ≡ b)
good-ok f (Ok a) b e = (a, refl, cc)
good-ok f (Err k) b e = absurd (cc)

pub both-ok : {A B : Type 0} (r : Result A RefusalKind) (s : Result B RefusalKind) (a : A) (b : B) → both r s ≡ Ok (a, b) → (r ≡ Ok a) × (s ≡ Ok b)
both-ok {A = A} {B = B} (Ok x) (Ok y) a b e =
    let same : (x, y) ≡ (a, b) = cc in
    (ap (λ (p : A × B). Ok p.0) same, ap (λ (p : A × B). Ok p.1) same)
both-ok (Ok x) (Err k) a b e = absurd (cc)
both-ok (Err j) (Ok y) a b e = absurd (cc)
both-ok (Err j) (Err k) a b e = absurd (cc)

pub or_kind-ok : {A B : Type 0} (k : RefusalKind) (f : A → Result B RefusalKind) (o : Option A) (b : B) → or_kind k f o ≡ Ok b → (a : A) × (o ≡ Some a) × (f a ≡ Ok b)
or_kind-ok k f None b e = absurd (cc)
or_kind-ok k f (Some a) b e = (a, refl, e)

pub proven-ok : {A : Type 0} (test : Bool) (make : IsTrue test → A) (k : RefusalKind) (a : A) → proven test make k ≡ Ok a → (fact : IsTrue test) × (make fact ≡ a)
proven-ok true make k a e = (refl, cc)
proven-ok false make k a e = absurd (cc)

never_none : (A : Type 0) (k : RefusalKind) (o : Option RefusalKind) → lesser {A = A} (Err k) o ≡ None → ⊥
never_none A k None e = cc
never_none A k (Some j) e = cc

goods-all : {A : Type 0} (rs : List (Result A RefusalKind)) → worst rs ≡ None → rs ≡ map Ok (goods rs)
unfolding worst goods
goods-all [] e = refl
goods-all (Ok a ∷ rs) e = ap (λ later. Ok a ∷ later) (goods-all rs e)
goods-all {A = A} (Err k ∷ rs) e = absurd (never_none A k (worst rs) e)

unless-ok : {A : Type 0} (o : Option RefusalKind) (a b : A) → unless o a ≡ Ok b → (o ≡ None) × (a ≡ b)
unless-ok None a b e = (refl, cc)
unless-ok (Some k) a b e = absurd (cc)

-- all are values
pub all_good-ok : {A : Type 0} (rs : List (Result A RefusalKind)) (values : List A) → all_good rs ≡ Ok values → rs ≡ map Ok values
all_good-ok rs values e =
    let p = unless-ok (worst rs) (goods rs) values e in
    goods-all rs p.0 ∙ ap (λ (xs : List _). map Ok xs) p.1

-- there are as many values as there were items
pub good_count : {A B : Type 0} (f : A → Result B RefusalKind) (xs : List A) (r : Result (List B) FieldFail) → IsRead r (all_good (map f xs)) → IfOk r (λ ys. length ys ≡ length xs)
good_count f xs (Ok ys) e = each_count f xs ys (all_good-ok (map f xs) ys (sym e))
good_count f xs (Err e) h = tt
