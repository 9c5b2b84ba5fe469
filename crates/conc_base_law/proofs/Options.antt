-- What a chain of options gives, where it gives something.
use Rattle.std.proofs.Common.{◌≡◌, ◌⊎◌, Bool, true, false, Option, None, Some, refl, inl, inr}
use Rattle.std.specs.Option.{option_and_then, option_map, option_or}
use Rattle.std.specs.Bool.{then_some}
use Rattle.conc_types.specs.Words.{some_and}

-- what a map gives is made from a value
pub map-some : {A B : Type 0} (f : A → B) (o : Option A) (y : B) → option_map f o ≡ Some y → (x : A) × (o ≡ Some x) × (f x ≡ y)
map-some f None y h = cc
map-some f (Some x) y h = let e : f x ≡ y = cc in (x, refl, e)

-- what a chain gives is given for a value
pub and_then-some : {A B : Type 0} (f : A → Option B) (o : Option A) (y : B) → option_and_then f o ≡ Some y
    → (x : A) × (o ≡ Some x) × (f x ≡ Some y)
and_then-some f None y h = cc
and_then-some f (Some x) y h = (x, refl, h)

-- what a test gives is given where it holds
pub then_some-some : {A : Type 0} (b : Bool) (x y : A) → then_some b x ≡ Some y → (b ≡ true) × (x ≡ y)
then_some-some true x y h = let e : x ≡ y = cc in (refl, e)
then_some-some false x y h = cc

-- what one of two options gives is given by the first, or by the second
pub or-some : {A : Type 0} (a b : Option A) (y : A) → option_or a b ≡ Some y → (a ≡ Some y) ⊎ (b ≡ Some y)
or-some None b y h = inr h
or-some (Some x) b y h = inl h

-- a value that passes is there
pub some_and-some : {A : Type 0} (test : A → Bool) (o : Option A) → some_and test o ≡ true → (x : A) × (o ≡ Some x) × (test x ≡ true)
some_and-some test None h = cc
some_and-some test (Some x) h = (x, refl, h)
