-- What a rule names.
use Rattle.std.specs.Prelude.{Bool, ◌||◌, Option, is_some}

-- it names a program, a type or a user
abbrev pub names_any : {P T U : Type 0} → Option P → Option T → Option U → Bool
names_any program request_type user = is_some program || (is_some request_type || is_some user)
