-- What is read of the values of an array is what is read of the items that contracts see.
use Rattle.std.proofs.Common.{◌≡◌, List, [], ◌∷◌, map, Result, refl, ap}
use Rattle.toml.specs.Data.{Data}
use Rattle.toml.specs.View.{items_view, view}
use Rattle.toml.specs.declared.value.Value.{Value}
use Rattle.conc_types.specs.declared.kind.RefusalKind.{RefusalKind}
use Rattle.conc_data_fields.specs.Arrays.{read_all}

pub read_all-view : {A : Type 0} (form : Data → Result A RefusalKind) (values : List Value) → map (λ v. form (view v)) values ≡ read_all form (items_view values)
unfolding read_all
read_all-view form [] = refl
read_all-view form (v ∷ values) = ap (λ rest. form (view v) ∷ rest) (read_all-view form values)
