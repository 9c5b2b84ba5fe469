-- The forms of the fields of a command.
use Rattle.std.proofs.Common.{◌≡◌, refl, ◌∙◌, ap, sym, ℕ, true, false, List, [], ◌∷◌, codes}
use Rattle.std.specs.Prelude.{◌||◌, not, is_none, is_some, Option, None, Some}
use Rattle.std.specs.Str.{chars, is_utf8}
use Rattle.std.proofs.lemmas.Bool.{and_from, and_left, and_right}
use lib.Utf8.{encode}
use Rattle.conc_types.specs.declared.event.Moment.{Moment}
use Rattle.conc_types.specs.Texts.{is_name, is_text}
use Rattle.conc_types.specs.Words.{is_empty}
use Rattle.conc_base_law.specs.Calendar.{moment_of}
use Rattle.conc_data_records.specs.Records.{Record}
use Rattle.conc_script.specs.Rules.{submit_form}
use Rattle.conc_script.specs.Script.{argument_field, domain_field, domain_of, priority_field, priority_of, start_field, start_of, user_field}

pub is_name_standard : is_name (codes "Standard") ≡ true
unfolding is_utf8 chars encode
is_name_standard = refl

not_none : {T : Type 0} (o : Option T) → not (is_none o) ≡ is_some o
not_none None = refl
not_none (Some x) = refl

-- a start has its form where there is one
start_form : (at : Moment) (bytes : List ℕ) → is_some (start_of at bytes) ≡ (is_empty bytes || not (is_none (moment_of bytes)))
unfolding start_of
start_form at [] = refl
start_form at (x ∷ bytes) = sym (not_none (moment_of (x ∷ bytes)))

pub form_kept : (at : Moment) (r : Record) → is_name (user_field r) ≡ true → is_some (priority_of (priority_field r)) ≡ true → is_some (start_of at (start_field r)) ≡ true
    → is_some (domain_of (domain_field r)) ≡ true → is_text 200 (argument_field r) ≡ true → true ≡ submit_form r
form_kept at r user priority start domain argument =
    sym (and_from _ _ user (and_from _ _ (not_none (priority_of (priority_field r)) ∙ priority)
    (and_from _ _ (sym (start_form at (start_field r)) ∙ start) (and_from _ _ (not_none (domain_of (domain_field r)) ∙ domain) argument))))

pub form_without_start : (at : Moment) (r : Record) → start_of at (start_field r) ≡ None → false ≡ submit_form r
form_without_start at r e =
    let none : (is_empty (start_field r) || not (is_none (moment_of (start_field r)))) ≡ false = sym (start_form at (start_field r)) ∙ ap (λ (o : Option Moment). is_some o) e in
    sym (and_right (is_name (user_field r)) _ (and_right (not (is_none (priority_of (priority_field r)))) _ (and_left _ _ none)))
