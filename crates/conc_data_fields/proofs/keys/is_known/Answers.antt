use Rattle.std.proofs.Common.{◌∙◌, Bor, List, ℕ}
use Rattle.std.specs.Str.{bytes_eq}
use Rattle.conc_data_fields.proofs.Known.{list_any-map}
use Rattle.conc_data_fields.proofs.keys.is_known.Goals as goal

pub returns : goal.returns
returns c = c.is_among.ensures ∙ list_any-map (bytes_eq c.args.key.now) (λ (k : Bor (List ℕ)). k.now) c.args.keys.now
