-- An image that stays took any step.
use Rattle.std.proofs.Common.{ℕ, List, length, refl, arith}
use Rattle.std.proofs.lemmas.List.{take_all}
use Rattle.conc_disk.specs.Disk.{Shortened, Torn}

pub torn-same : (at n : ℕ) (c : List ℕ) → Torn at n c c
torn-same at n c = record { before = refl; after = refl; no_shorter = omega arith; no_longer = omega arith }

pub shortened-same : (n : ℕ) (c : List ℕ) → Shortened n c c
shortened-same n c = record { front = take_all (length c) c (omega arith); no_shorter = omega arith }
