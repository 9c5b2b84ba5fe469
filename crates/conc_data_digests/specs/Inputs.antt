-- The messages whose digests stand for the input of a run.
use Rattle.std.specs.Prelude.{ℕ, List, ◌++◌, length, map}
use Rattle.std.specs.Int.{to_be_bytes, w64}
use Rattle.std.specs.List.{concat}
use Rattle.sha2.specs.Sha256.{sha256}
use Rattle.conc_types.specs.declared.digests.Digests.{Digests}

-- bytes with their number before them, in 8 bytes
abbrev pub framed : List ℕ → List ℕ
framed bytes = to_be_bytes w64 (length bytes) ++ bytes

-- a table's name and its bytes
abbrev pub framed_table : List ℕ × List ℕ → List ℕ
framed_table table = framed table.0 ++ framed table.1

-- the setup, the script, and then each table
unfoldable pub message : List ℕ → List ℕ → List (List ℕ × List ℕ) → List ℕ
message setup script tables = framed setup ++ framed script ++ concat (map framed_table tables)

-- the same without the script
unfoldable pub base_message : List ℕ → List (List ℕ × List ℕ) → List ℕ
base_message setup tables = framed setup ++ concat (map framed_table tables)

abbrev pub input_digests : List ℕ → List ℕ → List (List ℕ × List ℕ) → Digests
input_digests setup script tables = record { full = sha256 (message setup script tables); base = sha256 (base_message setup tables) }
