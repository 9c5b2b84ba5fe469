use Rattle.std.proofs.Common.{◌≡◌, ◌+◌, ◌*◌, ◌%◌, ◌<◌, take}
use Rattle.std.specs.List.{fold}
use Rattle.conc_event_classes.proofs.keys.bytes_key.Given as goal

abbrev pub invariant-loop-byte : goal.invariant-loop-byte
invariant-loop-byte l = (l.key ≡ fold (λ key byte. (key * 31 + byte) % 1021) 0 (take l.byte-index l.bytes)) × (l.key < 1021)
