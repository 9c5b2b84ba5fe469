use Rattle.std.proofs.Common.{◌∙◌, ◌++◌, ap, ℕ, List}
use Rattle.std.specs.Prelude.{codes}
use Rattle.std.specs.Fmt.{decimal}
use Rattle.std.proofs.lemmas.Result.{on_ok_weaker}
use Rattle.conc_base_law.specs.Text.{phase_word, status_word}
use Rattle.conc_show_tables.specs.Json.{json_set, name_member, word_member}
use Rattle.conc_show_tables.proofs.Joined.{joined}
use Rattle.conc_show_tables.proofs.json_lines.put_names.Goals as goal

pub returns : goal.returns
returns c =
    let all1 = joined c.args.out.now.items (codes "\"request\":") (decimal c.args.row.now.request.number) c.put_bytes.new.out.items c.put_decimal.new.out.items (c.in_ok-put_bytes.ensures) (c.in_ok-put_decimal.ensures.ok ∙ ap (λ (n : ℕ). c.put_bytes.new.out.items ++ decimal n) c.from.ensures) in
    let all2 = joined c.args.out.now.items (codes "\"request\":" ++ decimal c.args.row.now.request.number) (name_member c.args.row.now.name) c.put_decimal.new.out.items c.put_name.new.out.items (all1) (c.in_ok-put_name.ensures ∙ ap (λ (w : List ℕ). c.put_decimal.new.out.items ++ name_member w) c.as_bytes.ensures) in
    let all3 = joined c.args.out.now.items (codes "\"request\":" ++ decimal c.args.row.now.request.number ++ name_member c.args.row.now.name) (json_set c.args.facts.set) c.put_name.new.out.items c.put_set.new.out.items (all2) (c.in_ok-put_set.ensures) in
    let all4 = joined c.args.out.now.items (codes "\"request\":" ++ decimal c.args.row.now.request.number ++ name_member c.args.row.now.name ++ json_set c.args.facts.set) (word_member (codes "phase") (phase_word c.args.row.now.phase)) c.put_set.new.out.items c.put_word.new.out.items (all3) (c.in_ok-put_word.ensures ∙ ap (λ (w : List ℕ). c.put_set.new.out.items ++ word_member (codes "phase") w) c.phase_bytes.ensures) in
    on_ok_weaker c.put_word-2.result (λ last. joined c.args.out.now.items (codes "\"request\":" ++ decimal c.args.row.now.request.number ++ name_member c.args.row.now.name ++ json_set c.args.facts.set ++ word_member (codes "phase") (phase_word c.args.row.now.phase)) (word_member (codes "status") (status_word c.args.row.now.status)) c.put_word.new.out.items c.put_word-2.new.out.items (all4) (last ∙ ap (λ (w : List ℕ). c.put_word.new.out.items ++ word_member (codes "status") w) c.status_bytes.ensures)) c.put_word-2.ensures
