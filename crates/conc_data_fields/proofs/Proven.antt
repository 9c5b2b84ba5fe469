-- What is made of the fact that a test passes is the same for each proof of that fact.
use Rattle.std.proofs.Common.{◌≡◌, refl, ap, subst, ℕ, Bool, true, false, List, Ok}
use Rattle.std.proofs.lemmas.Bool.{false≢true}
use Rattle.std.specs.Prelude.{IsTrue}
use mathlib.Core.Bool.{Bool-set}
use Rattle.conc_types.specs.declared.kind.RefusalKind.{RefusalKind}
use Rattle.conc_types.specs.declared.kind.RefusalKind.TheVariants as refused
use Rattle.conc_types.specs.Texts.{is_text}
use Rattle.conc_data_fields.specs.Forms.{text_of}
use Rattle.conc_data_fields.specs.Kinds.{proven}

pub proven-pass : {A : Type 0} (test : Bool) (make : IsTrue test → A) (kind : RefusalKind) (fact : IsTrue test) → Ok (make fact) ≡ proven test make kind
proven-pass true make kind fact = ap (λ f. Ok (make f)) (Bool-set true true fact refl)
proven-pass false make kind fact = absurd (false≢true fact)

pub short_text : (most : ℕ) (bytes text : List ℕ) (short : IsTrue (is_text most text)) → text ≡ bytes → Ok (record { text = text; short = short }) ≡ text_of most bytes
short_text most bytes text short same =
    subst (λ b. Ok (record { text = text; short = short }) ≡ text_of most b) same (proven-pass (is_text most text) (λ s. record { text = text; short = s }) refused.OutOfRange short)
