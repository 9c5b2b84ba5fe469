-- What is made of the fact that a number is within a limit is what is made of a test of it.
use Rattle.std.proofs.Common.{◌≡◌, ◌∙◌, ap, ℕ, ◌≤◌, Ok}
use Rattle.std.proofs.lemmas.Bool.{le-leb, leb-true}
use Rattle.std.specs.Coded.{le_prop}
use Rattle.std.specs.Prelude.{nat_le}
use Rattle.conc_types.specs.declared.kind.RefusalKind.{RefusalKind}
use Rattle.conc_data_fields.proofs.Proven.{proven-pass}
use Rattle.conc_data_fields.specs.Kinds.{proven}

pub proven-few : {A : Type 0} (n most : ℕ) (make : n ≤ most → A) (kind : RefusalKind) (few : n ≤ most)
    → Ok (make few) ≡ proven (nat_le n most) (λ t. make (leb-true n most t)) kind
proven-few n most make kind few =
    ap (λ f. Ok (make f)) (le_prop few (leb-true n most (le-leb n most few)))
    ∙ proven-pass (nat_le n most) (λ t. make (leb-true n most t)) kind (le-leb n most few)
