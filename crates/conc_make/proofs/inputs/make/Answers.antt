use Rattle.std.proofs.Common.{◌≡◌, ◌∙◌, ◌∷◌, ◌++◌, ap, rules}
use Rattle.conc_make.specs.Files.{clock_text, made, script_header, script_text, setup_text, submission, table_text, text_of}
use Rattle.conc_make.proofs.Accepted.{accepted_by}
use Rattle.conc_make.proofs.inputs.make.Goals as goal

pub returns-clause-accepted : goal.returns-clause-accepted
unfolding script_text clock_text
returns-clause-accepted c =
    let table : c.put_table.new.out.items ≡ table_text c.args.seed =
    c.in_ok-put_table.ensures.text ∙ ap (λ l. l ++ table_text c.args.seed) c.new-table.ensures.items in
    let script : c.put_script.new.out.items ≡ script_text c.args.seed c.args.size =
    c.in_ok-put_script.ensures
    ∙ ap (λ l. l ++ text_of (script_header ∷ made submission 4 c.args.size c.put_table.new.draws.number)) c.new-script.ensures.items
    ∙ ap (λ x. text_of (script_header ∷ made submission 4 c.args.size x)) c.in_ok-put_table.ensures.number in
    let setup : c.in_ok-to_vec.field-0.items ≡ setup_text = search rules in
    let clock : c.in_ok-to_vec-2.field-0.items ≡ clock_text = search rules in
    accepted_by c.args.seed c.args.size _ _ _ _ c.requires.few setup script clock table
