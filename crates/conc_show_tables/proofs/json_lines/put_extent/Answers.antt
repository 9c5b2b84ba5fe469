use Rattle.std.proofs.Common.{◌∙◌, ◌++◌, ap, ℕ}
use Rattle.std.specs.Prelude.{codes}
use Rattle.std.proofs.lemmas.Result.{on_ok_weaker}
use Rattle.conc_show_tables.specs.Json.{number_member}
use Rattle.conc_show_tables.proofs.Joined.{joined}
use Rattle.conc_show_tables.proofs.json_lines.put_extent.Goals as goal

pub returns-in_ok-put_member_number-in-Some : goal.returns-in_ok-put_member_number-in-Some
returns-in_ok-put_member_number-in-Some c =
    rw c.in-Some.is (on_ok_weaker c.put_member_number-in-Some.result (λ last. joined c.args.out.now.items (number_member (codes "offset") c.in-Some.extent.offset) (number_member (codes "length") c.in-Some.extent.length) c.put_member_number.new.out.items c.put_member_number-in-Some.new.out.items (c.in_ok-put_member_number-in-Some.ensures) (last ∙ ap (λ (n : ℕ). c.put_member_number.new.out.items ++ number_member (codes "length") n) c.from.ensures)) c.put_member_number-in-Some.ensures)
