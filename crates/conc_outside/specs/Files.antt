-- The files of a shelf: pairs of a name and the bytes of the file with this name.
use Rattle.std.specs.Prelude.{◌≡◌, ℕ, ◌≤◌, List, Option, Some, None, IfSome, take}
use Rattle.std.specs.List.{find}
use Rattle.std.specs.Option.{option_map}
use Rattle.std.specs.Str.{bytes_eq}

abbrev pub Files : Type 0
Files = List (List ℕ × List ℕ)

-- the file with this name
abbrev pub file_named : Files → List ℕ → Option (List ℕ)
file_named files name = option_map (λ f. f.1) (find (λ f. bytes_eq f.0 name) files)

-- what is read of a file: all of it, or its first 67,108,865 bytes
abbrev pub front_of : List ℕ → List ℕ
front_of bytes = take 67108865 bytes

-- where the shelf exposes its files, these bytes are what is read of the one with this name
abbrev pub Gives : Option Files → List ℕ → List ℕ → Type 0
Gives exposed name bytes = IfSome exposed (λ files. option_map front_of (file_named files name) ≡ Some bytes)

-- where the shelf exposes its files, there is none with this name
abbrev pub Lacks : Option Files → List ℕ → Type 0
Lacks exposed name = IfSome exposed (λ files. file_named files name ≡ None)

-- ---- a shelf

-- what a shelf exposes of its files, if it exposes them, and how often a file was lacking and a read failed
pub record ShelfState : Type 0 where
  pub files : Option Files
  pub absences : ℕ
  pub faults : ℕ

-- the files stay, and the counts do not fall
pub record IsLater (old new : ShelfState) : Type 0 where
  pub files : new.files ≡ old.files
  pub absences : old.absences ≤ new.absences
  pub faults : old.faults ≤ new.faults
