-- The fields of a line as a list.
use Rattle.std.specs.Prelude.{ℕ, List, [], ◌∷◌}
use Rattle.conc_show_plan.specs.declared.fields.Fields.{Fields}

abbrev pub list_of : Fields → List (List ℕ)
list_of f =
    f.number.now ∷ f.priority.now ∷ f.start.now ∷ f.member.set.now ∷ f.member.stage.now ∷ f.domain.now ∷ f.user.now ∷ f.name.now ∷ []
