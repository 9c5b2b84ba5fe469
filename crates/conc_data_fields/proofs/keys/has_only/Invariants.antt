use Rattle.std.proofs.Common.{◌≡◌, map}
use Rattle.toml.specs.View.{members_view}
use Rattle.conc_data_fields.specs.Fields.{only}
use Rattle.conc_data_fields.proofs.keys.has_only.Given as goal

abbrev pub invariant-loop-key : goal.invariant-loop-key
invariant-loop-key l =
    (goal.iterator-loop-key).can_next l.key-iterator × (goal.iterator-loop-key).is_finite l.key-iterator
    × (only (map (λ k. k.now) l.keys) (members_view l.key-iterator) ≡ only (map (λ k. k.now) l.keys) (members_view l.table.entries))
