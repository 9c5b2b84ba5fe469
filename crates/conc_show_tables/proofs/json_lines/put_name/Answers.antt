use Rattle.std.proofs.Common.{◌++◌}
use Rattle.std.specs.Prelude.{codes, flat_map}
use Rattle.std.proofs.lemmas.Result.{on_ok_weaker}
use Rattle.conc_show_tables.specs.Json.{escaped, key_text}
use Rattle.conc_show_tables.proofs.Joined.{joined}
use Rattle.conc_show_tables.proofs.json_lines.put_name.Goals as goal

pub returns : goal.returns
returns c =
    let text = flat_map escaped c.args.name.now in
    let both = joined c.put_key.new.out.items (codes "\"") text c.put_bytes.new.out.items c.put_escaped.new.out.items c.in_ok-put_bytes.ensures c.in_ok-put_escaped.ensures in
    on_ok_weaker c.put_bytes-2.result
    (λ last. joined c.args.out.now.items (key_text (codes "program")) (codes "\"" ++ text ++ codes "\"") c.put_key.new.out.items c.put_bytes-2.new.out.items c.in_ok-put_key.ensures
    (joined c.put_key.new.out.items (codes "\"" ++ text) (codes "\"") c.put_escaped.new.out.items c.put_bytes-2.new.out.items both last))
    c.put_bytes-2.ensures
