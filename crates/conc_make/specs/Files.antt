-- The bytes of the files that are made.
use Rattle.std.specs.Prelude.{ℕ, ◌+◌, ◌*◌, ◌==◌, if◌then◌else◌, List, [], ◌∷◌, ◌++◌, codes, map}
use Rattle.std.specs.Fmt.{decimal}
use Rattle.std.specs.List.{concat, join_with_byte, range_with_len}
use Rattle.conc_make.specs.Draws.{after, drawn}

-- ---- lines

-- the fields with commas between them, and the end of the line
abbrev pub line : List (List ℕ) → List ℕ
line fields = join_with_byte 44 fields ++ 10 ∷ []

-- a line for each record
unfoldable pub text_of : List (List (List ℕ)) → List ℕ
text_of records = concat (map line records)

-- so many records, each of the number before its draws, of which it takes so many
unfoldable pub made : (ℕ → List (List ℕ)) → ℕ → ℕ → ℕ → List (List (List ℕ))
made record_at draws count x = map (λ i. record_at (after (draws * i) x)) (range_with_len 0 count)

-- ---- the table

-- a row, which takes two draws after a number: the key's, and then the value's
unfoldable pub row : ℕ → List (List ℕ)
row x = (codes "k" ++ decimal (drawn 5 (after 1 x))) ∷ decimal (drawn 1000 (after 2 x)) ∷ []

abbrev pub table_header : List (List ℕ)
table_header = codes "k" ∷ codes "v" ∷ []

unfoldable pub table_text : ℕ → List ℕ
table_text seed = text_of (table_header ∷ made row 2 64 seed)

-- ---- the script

abbrev pub moment_word : List ℕ
moment_word = codes "2025-01-01T00:00:00"

-- one of the eight programs, or the set
abbrev pub item_word : ℕ → List ℕ
item_word n = if n == 8 then codes "S" else codes "P" ++ decimal n

-- a submission, which takes four draws after a number: the item's, the user's, the priority's and the domain's
unfoldable pub submission : ℕ → List (List ℕ)
submission x =
    moment_word ∷ codes "submit" ∷ item_word (drawn 9 (after 1 x)) ∷ (codes "u" ++ decimal (drawn 3 (after 2 x)))
    ∷ decimal (1 + drawn 99 (after 3 x)) ∷ [] ∷ (codes "d" ++ decimal (drawn 4 (after 4 x))) ∷ [] ∷ []

abbrev pub script_header : List (List ℕ)
script_header =
    codes "at" ∷ codes "do" ∷ codes "what" ∷ codes "user" ∷ codes "priority" ∷ codes "start" ∷ codes "domain" ∷ codes "argument" ∷ []

-- the script, which goes on with the numbers after the table's 128 draws
unfoldable pub script_text : ℕ → ℕ → List ℕ
script_text seed size = text_of (script_header ∷ made submission 4 size (after 128 seed))

-- ---- the clock

unfoldable pub clock_text : List ℕ
clock_text = moment_word ++ 10 ∷ []

-- ---- the setup

abbrev pub setup_head : List ℕ
setup_head = codes "tables = [\"m.csv\"]\n"

-- a program's entry, and what it says beyond its table, group and sum
abbrev pub program_entry : List ℕ → List ℕ → List ℕ
program_entry name more =
    codes "\n[[program]]\nname = \"" ++ (name ++ (codes "\"\ntable = \"m.csv\"\ngroup = \"k\"\nsum = \"v\"\n" ++ more))

abbrev pub program_entries : List ℕ
program_entries =
    program_entry (codes "P0") [] ++ (program_entry (codes "P1") [] ++ (program_entry (codes "P2") [] ++ (program_entry (codes "P3") []
    ++ (program_entry (codes "P4") [] ++ (program_entry (codes "P5") []
    ++ (program_entry (codes "P6") (codes "warn_over = 0\n") ++ program_entry (codes "P7") (codes "run_alone = true\n")))))))

abbrev pub incompatible_entries : List ℕ
incompatible_entries =
    codes "\n[[incompatible]]\nprogram = \"P0\"\nwith = \"P0\"\n"
    ++ (codes "\n[[incompatible]]\nprogram = \"P1\"\nwith = \"P2\"\ntype = \"global\"\n"
    ++ codes "\n[[incompatible]]\nprogram = \"P3\"\nwith = \"S\"\nscope = \"set\"\n")

abbrev pub manager_entry : List ℕ
manager_entry = codes "\n[[manager]]\nname = \"M\"\nshift = [{ places = 4 }]\n"

abbrev pub set_entry : List ℕ
set_entry =
    codes "\n[[set]]\nname = \"S\"\n"
    ++ (codes "\n[[set.stage]]\nname = \"A\"\nmembers = [\"P4\", \"P5\"]\non_success = \"B\"\non_warning = \"B\"\n"
    ++ codes "\n[[set.stage]]\nname = \"B\"\nmembers = [\"P6\"]\n")

unfoldable pub setup_text : List ℕ
setup_text = setup_head ++ (program_entries ++ (incompatible_entries ++ (manager_entry ++ set_entry)))
