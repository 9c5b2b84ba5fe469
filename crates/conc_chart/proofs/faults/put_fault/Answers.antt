use Rattle.std.proofs.Common.{◌++◌}
use Rattle.std.specs.Prelude.{codes}
use Rattle.std.proofs.lemmas.Result.{on_ok_weaker}
use Rattle.conc_show_tables.proofs.Joined.{joined}
use Rattle.conc_chart.specs.Faults.{line_part}
use Rattle.conc_chart.proofs.faults.put_fault.Goals as goal

pub returns : goal.returns
returns c =
    let all1 = joined c.args.out.now.items (codes "conc_chart: ") (c.args.file.now) c.put_bytes.new.out.items c.put_bytes-2.new.out.items c.in_ok-put_bytes.ensures c.in_ok-put_bytes-2.ensures in
    let all2 = joined c.args.out.now.items (codes "conc_chart: " ++ c.args.file.now) (codes ":") c.put_bytes-2.new.out.items c.put_bytes-3.new.out.items all1 c.in_ok-put_bytes-3.ensures in
    let all3 = joined c.args.out.now.items (codes "conc_chart: " ++ c.args.file.now ++ codes ":") (line_part c.args.line) c.put_bytes-3.new.out.items c.put_line_part.new.out.items all2 c.in_ok-put_line_part.ensures in
    let all4 = joined c.args.out.now.items (codes "conc_chart: " ++ c.args.file.now ++ codes ":" ++ line_part c.args.line) (codes " ") c.put_line_part.new.out.items c.put_bytes-4.new.out.items all3 c.in_ok-put_bytes-4.ensures in
    let all5 = joined c.args.out.now.items (codes "conc_chart: " ++ c.args.file.now ++ codes ":" ++ line_part c.args.line ++ codes " ") (c.args.cause.now) c.put_bytes-4.new.out.items c.put_bytes-5.new.out.items all4 c.in_ok-put_bytes-5.ensures in
    on_ok_weaker c.put_bytes-6.result (λ last. joined c.args.out.now.items (codes "conc_chart: " ++ c.args.file.now ++ codes ":" ++ line_part c.args.line ++ codes " " ++ c.args.cause.now) (codes "\n") c.put_bytes-5.new.out.items c.put_bytes-6.new.out.items all5 last) c.put_bytes-6.ensures
