use Rattle.std.proofs.Common.{◌∙◌, ◌++◌, ap, ℕ}
use Rattle.std.specs.Prelude.{Option, codes}
use Rattle.std.proofs.lemmas.Result.{on_ok_weaker}
use Rattle.conc_show_tables.specs.Facts.{seconds_between}
use Rattle.conc_show_tables.specs.Json.{json_extent, json_moment, json_number, json_place}
use Rattle.conc_show_tables.proofs.Joined.{joined}
use Rattle.conc_show_tables.proofs.json_lines.put_facts.Goals as goal

pub returns : goal.returns
returns c =
    let all1 = joined c.args.out.now.items (json_place c.args.facts.place) (json_moment (codes "do") c.args.facts.done_at) c.put_start_place.new.out.items c.put_time.new.out.items (c.in_ok-put_start_place.ensures) (c.in_ok-put_time.ensures) in
    let all2 = joined c.args.out.now.items (json_place c.args.facts.place ++ json_moment (codes "do") c.args.facts.done_at) (json_moment (codes "let") c.args.facts.let_at) c.put_time.new.out.items c.put_time-2.new.out.items (all1) (c.in_ok-put_time-2.ensures) in
    let all3 = joined c.args.out.now.items (json_place c.args.facts.place ++ json_moment (codes "do") c.args.facts.done_at ++ json_moment (codes "let") c.args.facts.let_at) (json_moment (codes "start") c.args.facts.start_at) c.put_time-2.new.out.items c.put_time-3.new.out.items (all2) (c.in_ok-put_time-3.ensures) in
    let all4 = joined c.args.out.now.items (json_place c.args.facts.place ++ json_moment (codes "do") c.args.facts.done_at ++ json_moment (codes "let") c.args.facts.let_at ++ json_moment (codes "start") c.args.facts.start_at) (json_moment (codes "end") c.args.facts.end_at) c.put_time-3.new.out.items c.put_time-4.new.out.items (all3) (c.in_ok-put_time-4.ensures) in
    let all5 = joined c.args.out.now.items (json_place c.args.facts.place ++ json_moment (codes "do") c.args.facts.done_at ++ json_moment (codes "let") c.args.facts.let_at ++ json_moment (codes "start") c.args.facts.start_at ++ json_moment (codes "end") c.args.facts.end_at) (json_number (codes "waited") (seconds_between c.args.facts.let_at c.args.facts.start_at)) c.put_time-4.new.out.items c.put_number.new.out.items (all4) (c.in_ok-put_number.ensures ∙ ap (λ (n : Option ℕ). c.put_time-4.new.out.items ++ json_number (codes "waited") n) c.seconds_between.ensures) in
    let all6 = joined c.args.out.now.items (json_place c.args.facts.place ++ json_moment (codes "do") c.args.facts.done_at ++ json_moment (codes "let") c.args.facts.let_at ++ json_moment (codes "start") c.args.facts.start_at ++ json_moment (codes "end") c.args.facts.end_at ++ json_number (codes "waited") (seconds_between c.args.facts.let_at c.args.facts.start_at)) (json_number (codes "ran") (seconds_between c.args.facts.start_at c.args.facts.end_at)) c.put_number.new.out.items c.put_number-2.new.out.items (all5) (c.in_ok-put_number-2.ensures ∙ ap (λ (n : Option ℕ). c.put_number.new.out.items ++ json_number (codes "ran") n) c.seconds_between-2.ensures) in
    on_ok_weaker c.put_extent.result (λ last. joined c.args.out.now.items (json_place c.args.facts.place ++ json_moment (codes "do") c.args.facts.done_at ++ json_moment (codes "let") c.args.facts.let_at ++ json_moment (codes "start") c.args.facts.start_at ++ json_moment (codes "end") c.args.facts.end_at ++ json_number (codes "waited") (seconds_between c.args.facts.let_at c.args.facts.start_at) ++ json_number (codes "ran") (seconds_between c.args.facts.start_at c.args.facts.end_at)) (json_extent c.args.facts.extent) c.put_number-2.new.out.items c.put_extent.new.out.items (all6) (last)) c.put_extent.ensures
