-- The rules and the meaning of a record, by its word.
use Rattle.std.proofs.Common.{◌≡◌, refl, ◌∙◌, ap, sym, ℕ, Bool, true, false, List, codes}
use Rattle.std.specs.Prelude.{◌||◌, if◌then◌else◌, is_some, Option, None, Some}
use Rattle.conc_types.specs.declared.kind.RefusalKind.TheVariants as refused
use Rattle.conc_types.specs.declared.event.Moment.{Moment}
use Rattle.conc_types.specs.declared.event.RequestId.{RequestId}
use Rattle.conc_types.specs.declared.script.Act.{Act}
use Rattle.conc_types.specs.declared.setup.Setup.{Setup}
use Rattle.conc_types.specs.Decimals.{decimal_value}
use Rattle.conc_types.specs.Faults.{first_broken}
use Rattle.conc_types.specs.Scripts.{entered_by}
use Rattle.conc_base_law.specs.Calendar.{moment_of}
use Rattle.conc_data_records.specs.Records.{Record}
use Rattle.conc_script.specs.declared.actions.Submission.{Submission}
use Rattle.conc_script.specs.declared.actions.Verb.{Verb}
use Rattle.conc_script.specs.declared.actions.Verb.TheVariants as verb
use Rattle.conc_script.specs.Actions.{act_with, submit_by, verb_of}
use Rattle.conc_script.specs.Rules.{action_rules, request_rules, submit_rules}
use Rattle.conc_script.specs.Script.{act_of, at_field, entered_by_record, has_form, is, is_submit, is_word, item_named, order_of, submission_of, what_field, what_rules, word_field}

-- ---- submissions

pub rules_of_submit : (setup : Setup) (entered : ℕ) (r : Record) → is_submit r ≡ true → first_broken (action_rules setup entered r) ≡ first_broken (submit_rules setup r)
unfolding what_rules has_form
rules_of_submit setup entered r e = rw e refl

pub act_of_submit : (setup : Setup) (at : Moment) (r : Record) (s : Submission) → is_submit r ≡ true → submission_of setup at r ≡ Some (submit_by s)
    → act_of setup at r ≡ Some (submit_by s)
unfolding act_of
act_of_submit setup at r s e said = rw e said

pub entered_by_submit : (setup : Setup) (r : Record) (s : Submission) → is_submit r ≡ true → item_named setup (what_field r) ≡ Some s.item
    → entered_by_record setup r ≡ entered_by setup (submit_by s)
unfolding entered_by_record
entered_by_submit setup r s e named = rw (e, named) refl

-- ---- commands on requests

-- the words of these commands, where a test says of each whether it is the one
is_verb : (submit hold unhold cancel terminate : Bool) → submit ≡ false
    → (submit || (hold || (unhold || (cancel || terminate)))) ≡ is_some (if hold then Some verb.Hold else (if unhold then Some verb.Unhold else (if cancel then Some verb.Cancel else (if terminate then Some verb.Terminate else None))))
is_verb submit true unhold cancel terminate e = rw e refl
is_verb submit false true cancel terminate e = rw e refl
is_verb submit false false true terminate e = rw e refl
is_verb submit false false false true e = rw e refl
is_verb submit false false false false e = rw e refl

word_is_verb : (word : List ℕ) → is (codes "submit") word ≡ false → is_word word ≡ is_some (verb_of word)
word_is_verb word e =
    is_verb (is (codes "submit") word) (is (codes "hold") word) (is (codes "unhold") word) (is (codes "cancel") word) (is (codes "terminate") word) e

pub rules_of_request : (setup : Setup) (entered : ℕ) (r : Record) (v : Verb) → is_submit r ≡ false → verb_of (word_field r) ≡ Some v
    → first_broken (action_rules setup entered r) ≡ first_broken (request_rules entered r)
unfolding what_rules has_form
rules_of_request setup entered r v e known =
    let word : is_word (word_field r) ≡ true = word_is_verb (word_field r) e ∙ ap (λ (o : Option Verb). is_some o) known in
    rw (word, e) refl

act_on_verb : (hold unhold cancel terminate : Bool) (v : Verb) (q : RequestId)
    → (if hold then Some verb.Hold else (if unhold then Some verb.Unhold else (if cancel then Some verb.Cancel else (if terminate then Some verb.Terminate else None)))) ≡ Some v
    → (if hold then act_with verb.Hold q else (if unhold then act_with verb.Unhold q else (if cancel then act_with verb.Cancel q else act_with verb.Terminate q))) ≡ act_with v q
act_on_verb true unhold cancel terminate v q e = let s : verb.Hold ≡ v = cc in ap (λ (w : Verb). act_with w q) s
act_on_verb false true cancel terminate v q e = let s : verb.Unhold ≡ v = cc in ap (λ (w : Verb). act_with w q) s
act_on_verb false false true terminate v q e = let s : verb.Cancel ≡ v = cc in ap (λ (w : Verb). act_with w q) s
act_on_verb false false false true v q e = let s : verb.Terminate ≡ v = cc in ap (λ (w : Verb). act_with w q) s
act_on_verb false false false false v q e = absurd cc

pub act_of_request : (setup : Setup) (at : Moment) (r : Record) (v : Verb) (q : RequestId) → is_submit r ≡ false → verb_of (word_field r) ≡ Some v
    → decimal_value (what_field r) ≡ Some q.number → act_of setup at r ≡ Some (act_with v q)
unfolding act_of
act_of_request setup at r v q e known named =
    rw (e, named) (ap (λ (a : Act). Some a) (act_on_verb (is (codes "hold") (word_field r)) (is (codes "unhold") (word_field r)) (is (codes "cancel") (word_field r)) (is (codes "terminate") (word_field r)) v q known))

enters_none : (setup : Setup) (v : Verb) (q : RequestId) → entered_by setup (act_with v q) ≡ 0
enters_none setup verb.Hold q = refl
enters_none setup verb.Unhold q = refl
enters_none setup verb.Cancel q = refl
enters_none setup verb.Terminate q = refl

pub entered_by_request : (setup : Setup) (r : Record) (v : Verb) (q : RequestId) → is_submit r ≡ false → entered_by_record setup r ≡ entered_by setup (act_with v q)
unfolding entered_by_record
entered_by_request setup r v q e = rw e (sym (enters_none setup v q))

-- ---- commands

pub order_said : (setup : Setup) (r s : Record) (at : Moment) (a : Act) → r ≡ s → moment_of (at_field s) ≡ Some at → act_of setup at s ≡ Some a → order_of setup r ≡ Some (record { at = at; act = a })
unfolding order_of
order_said setup r s at a same e f = rw (same, e, f) refl
