-- Values, or the least kind of the rules that are broken.
use Rattle.std.specs.Prelude.{Bool, true, false, IsTrue, refl, Option, None, Some, Result, Ok, Err}
use Rattle.conc_types.specs.declared.kind.RefusalKind.{RefusalKind}
use Rattle.conc_types.specs.RefusalKinds.{lesser_of}

-- both values, or the lesser kind of what is wrong with them
abbrev pub both : {A B : Type 0} → Result A RefusalKind → Result B RefusalKind → Result (A × B) RefusalKind
both (Ok a) (Ok b) = Ok (a, b)
both (Ok a) (Err k) = Err k
both (Err j) (Ok b) = Err j
both (Err j) (Err k) = Err (lesser_of j k)

-- the value, or the lesser kind of what is wrong with it and beside it
abbrev pub beside : {A : Type 0} → Option RefusalKind → Result A RefusalKind → Result A RefusalKind
beside None r = r
beside (Some j) (Ok x) = Err j
beside (Some j) (Err k) = Err (lesser_of j k)

-- what a value is made into, where nothing is wrong with it
abbrev pub good : {A B : Type 0} → (A → B) → Result A RefusalKind → Result B RefusalKind
good make (Ok a) = Ok (make a)
good make (Err k) = Err k

-- what a value that nothing is wrong with yet is judged to be
abbrev pub judged : {A B : Type 0} → (A → Result B RefusalKind) → Result A RefusalKind → Result B RefusalKind
judged judge (Ok a) = judge a
judged judge (Err k) = Err k

-- what the form makes of what is there, and this kind where nothing is
abbrev pub or_kind : {A B : Type 0} → RefusalKind → (A → Result B RefusalKind) → Option A → Result B RefusalKind
or_kind kind form None = Err kind
or_kind kind form (Some a) = form a

-- what is made of the fact that a test passes, and this kind where it fails
abbrev pub proven : {A : Type 0} → (test : Bool) → (IsTrue test → A) → RefusalKind → Result A RefusalKind
proven true make kind = Ok (make refl)
proven false make kind = Err kind
