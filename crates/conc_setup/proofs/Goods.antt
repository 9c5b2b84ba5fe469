-- The limits of what is read hold of what is right among it.
use Rattle.std.proofs.Common.{◌≤◌, List, [], ◌∷◌, length, Result, Ok, Err, arith}
use Rattle.conc_types.specs.declared.kind.RefusalKind.{RefusalKind}
use Rattle.conc_data_fields.specs.Arrays.{goods}
use Rattle.conc_setup.specs.FirstPass.{IsFew, accepted}
use Rattle.conc_setup.specs.declared.raw.Document.{Document}
use Rattle.conc_data_fields.specs.Arrays.{within_most}
use Rattle.std.proofs.lemmas.Bool.{leb-true}

goods-few : {A : Type 0} (rs : List (Result A RefusalKind)) → length (goods rs) ≤ length rs
unfolding goods
goods-few [] = omega arith
goods-few (Ok a ∷ rs) = let few = goods-few rs in omega arith
goods-few (Err k ∷ rs) = let few = goods-few rs in omega arith

pub accepted-few : (document : Document) → IsFew (accepted document)
accepted-few document = record {
  programs = omega (arith, goods-few document.programs.list, within_most document.programs);
  entries = omega (arith, goods-few document.entries.list, within_most document.entries);
  managers = omega (arith, goods-few document.managers.list, within_most document.managers);
  sets = omega (arith, goods-few document.sets.list, within_most document.sets);
  places = leb-true _ _ document.few_places;
}
