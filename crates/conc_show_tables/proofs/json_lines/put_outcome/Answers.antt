use Rattle.std.proofs.Common.{◌∙◌, ◌++◌, ap, ℕ, List}
use Rattle.std.specs.Prelude.{codes}
use Rattle.std.proofs.lemmas.Result.{on_ok_weaker}
use Rattle.conc_show_tables.specs.Json.{json_outcome, json_request, quoted, word_member}
use Rattle.conc_show_tables.proofs.Joined.{joined}
use Rattle.conc_show_tables.proofs.json_lines.put_outcome.Goals as goal

pub returns : goal.returns
returns c =
    on_ok_weaker c.put_word.result
    (λ last. joined c.args.out.now.items (quoted c.args.word.now ++ json_request c.args.request) (json_outcome c.args.outcome) c.put_about.new.out.items c.put_word.new.out.items (c.in_ok-put_about.ensures)
    (last ∙ ap (λ (w : List ℕ). c.put_about.new.out.items ++ word_member (codes "outcome") w) c.outcome_bytes.ensures)) c.put_word.ensures
