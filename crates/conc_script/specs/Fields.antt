-- The fields of a record as a list.
use Rattle.std.specs.Prelude.{[], ◌∷◌}
use Rattle.conc_data_records.specs.Records.{Record}
use Rattle.conc_script.specs.declared.fields.Fields.{Fields}

abbrev pub list_of : Fields → Record
list_of f =
    f.at.now ∷ f.word.now ∷ f.what.now ∷ f.user.now ∷ f.priority.now ∷ f.start.now ∷ f.domain.now ∷ f.argument.now ∷ []
