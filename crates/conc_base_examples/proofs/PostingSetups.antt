-- Which setups are refused for what their programs post, as tables of cases. A line is the number of a program.
use Rattle.std.proofs.Common.{◌≡◌, ℕ, true, false, List, [], ◌∷◌, map, lit≤, Option, None, Some, refl}
use Rattle.std.specs.Prelude.{codes, IsTrue}
use Rattle.conc_types.specs.declared.item.Entry.{Entry}
use Rattle.conc_types.specs.declared.item.Item.TheVariants as item
use Rattle.conc_types.specs.declared.item.Reach.TheVariants as reach
use Rattle.conc_types.specs.declared.item.Scope.TheVariants as scope
use Rattle.conc_types.specs.declared.kind.RefusalKind.TheVariants as refused
use Rattle.conc_types.specs.declared.program.Program.{Program}
use Rattle.conc_types.specs.declared.set.SetDef.{SetDef}
use Rattle.conc_types.specs.declared.setup.Setup.{Setup}
use Rattle.conc_types.specs.declared.table.Table.{Table}
use Rattle.conc_types.specs.Faults.{Fault}
use Rattle.conc_base_posts.specs.Targets.{posts_fault}
use Rattle.conc_base_examples.proofs.Plans.{entry, one_stage, three_rows}
use Rattle.conc_base_examples.proofs.Computed.{the_law}
use Rattle.conc_base_examples.proofs.PostedPlans.{the_law_of_posts, global_entry, is_setup_over, no_rows, poster, reader, setup_over}

-- ---- tables, programs and sets

-- the tables t, u and w have two columns, one has one, and three has three
abbrev names : List (List ℕ)
names = codes "t.csv" ∷ codes "u.csv" ∷ codes "w.csv" ∷ codes "one.csv" ∷ codes "three.csv" ∷ []

abbrev tables : List Table
tables =
    three_rows ∷ no_rows ∷ no_rows
    ∷ record { columns = codes "k" ∷ []; rows = []; distinct = refl; even = refl; few = lit≤ tt }
    ∷ record { columns = codes "k" ∷ codes "v" ∷ codes "x" ∷ []; rows = []; distinct = refl; even = refl; few = lit≤ tt } ∷ []

-- two sets of A and B
abbrev two_sets : List SetDef
two_sets = one_stage (codes "R") (0 ∷ 1 ∷ []) refl ∷ one_stage (codes "S") (0 ∷ 1 ∷ []) refl ∷ []

-- a setup with no set, and one with these two
abbrev setup_of : (programs : List Program) (entries : List Entry) → IsTrue (is_setup_over names programs entries []) → Setup
setup_of programs entries fits = setup_over names programs entries [] fits

abbrev setup_with_sets : (programs : List Program) (entries : List Entry) → IsTrue (is_setup_over names programs entries two_sets) → Setup
setup_with_sets programs entries fits = setup_over names programs entries two_sets fits

abbrev faults : List Setup → List (Option Fault)
faults setups = map (λ setup. posts_fault setup tables) setups

-- it reads t and posts to u
abbrev poster_a : Program
poster_a = poster (codes "A") (codes "t.csv") (codes "u.csv")

-- it reads u
abbrev reader_b : Program
reader_b = reader (codes "B") (codes "u.csv")

-- it posts to this table
abbrev poster_to : List ℕ → Program
poster_to target = poster (codes "C") (codes "t.csv") target

-- an entry of type domain of the programs with these places
abbrev domain_entry : ℕ → ℕ → Entry
domain_entry one other = entry (item.Program one) (item.Program other) scope.Program reach.Domain

-- ---- no fault

-- nobody posts; A posts and B reads; two read what A posts; two post to tables that the other does not use
no_fault :
    faults
    (setup_of (reader (codes "R") (codes "t.csv") ∷ reader_b ∷ []) [] refl
    ∷ setup_of (poster_a ∷ reader_b ∷ []) (global_entry 0 0 ∷ global_entry 0 1 ∷ []) refl
    ∷ setup_of (poster_a ∷ reader_b ∷ reader (codes "R") (codes "u.csv") ∷ []) (global_entry 0 0 ∷ global_entry 0 1 ∷ global_entry 0 2 ∷ []) refl
    ∷ setup_of (poster_a ∷ poster_to (codes "w.csv") ∷ []) (global_entry 0 0 ∷ global_entry 1 1 ∷ []) refl ∷ [])
    ≡ None ∷ None ∷ None ∷ None ∷ []
unfolding the_law the_law_of_posts
no_fault = refl

-- ---- the table

-- it is not one of the setup's, it has one column, it has three; and the same of a second program
bad_target :
    faults
    (setup_of (poster_to (codes "x.csv") ∷ []) (global_entry 0 0 ∷ []) refl
    ∷ setup_of (poster_to (codes "one.csv") ∷ []) (global_entry 0 0 ∷ []) refl
    ∷ setup_of (poster_to (codes "three.csv") ∷ []) (global_entry 0 0 ∷ []) refl
    ∷ setup_of (reader_b ∷ poster_to (codes "x.csv") ∷ []) (global_entry 1 1 ∷ []) refl ∷ [])
    ≡ Some (1, refused.BadTarget) ∷ Some (1, refused.BadTarget) ∷ Some (1, refused.BadTarget) ∷ Some (2, refused.BadTarget) ∷ []
unfolding the_law the_law_of_posts
bad_target = refl

-- ---- the entries

-- A has no entry with itself; A and B have none, in either order of the programs; B's is with another program
no_entry :
    faults
    (setup_of (poster_a ∷ []) [] refl
    ∷ setup_of (poster_a ∷ reader_b ∷ []) (global_entry 0 0 ∷ []) refl
    ∷ setup_of (reader_b ∷ poster_a ∷ []) (global_entry 1 1 ∷ []) refl
    ∷ setup_of (poster_a ∷ reader_b ∷ reader (codes "R") (codes "u.csv") ∷ []) (global_entry 0 0 ∷ global_entry 0 2 ∷ global_entry 1 2 ∷ []) refl ∷ [])
    ≡ Some (1, refused.NotExclusive) ∷ Some (2, refused.NotExclusive) ∷ Some (2, refused.NotExclusive) ∷ Some (2, refused.NotExclusive) ∷ []
unfolding the_law the_law_of_posts
no_entry = refl

-- the entry of A and B serves in either order, whichever of the programs stands first
either_order :
    faults
    (setup_of (poster_a ∷ reader_b ∷ []) (global_entry 1 0 ∷ global_entry 0 0 ∷ []) refl
    ∷ setup_of (reader_b ∷ poster_a ∷ []) (global_entry 1 1 ∷ global_entry 0 1 ∷ []) refl
    ∷ setup_of (reader_b ∷ poster_a ∷ []) (global_entry 1 1 ∷ global_entry 1 0 ∷ []) refl ∷ [])
    ≡ None ∷ None ∷ None ∷ []
unfolding the_law the_law_of_posts
either_order = refl

-- an entry of type domain does not serve, of A alone and of A and B
of_type_domain :
    faults
    (setup_of (poster_a ∷ []) (domain_entry 0 0 ∷ []) refl
    ∷ setup_of (poster_a ∷ reader_b ∷ []) (global_entry 0 0 ∷ domain_entry 0 1 ∷ domain_entry 1 0 ∷ []) refl ∷ [])
    ≡ Some (1, refused.NotExclusive) ∷ Some (2, refused.NotExclusive) ∷ []
unfolding the_law the_law_of_posts
of_type_domain = refl

-- nor does it serve that programs run alone
run_alone :
    faults
    (setup_of (record poster_a { run_alone = true } ∷ []) [] refl
    ∷ setup_of (record poster_a { run_alone = true } ∷ record reader_b { run_alone = true } ∷ []) (global_entry 0 0 ∷ []) refl ∷ [])
    ≡ Some (1, refused.NotExclusive) ∷ Some (2, refused.NotExclusive) ∷ []
unfolding the_law the_law_of_posts
run_alone = refl

-- the scope does not matter
with_scope_set :
    faults
    (setup_of (poster_a ∷ []) (entry (item.Program 0) (item.Program 0) scope.Set reach.Global ∷ []) refl
    ∷ setup_of (poster_a ∷ reader_b ∷ []) (global_entry 0 0 ∷ entry (item.Program 0) (item.Program 1) scope.Set reach.Global ∷ []) refl
    ∷ setup_of (poster_a ∷ reader_b ∷ []) (global_entry 0 0 ∷ entry (item.Program 1) (item.Program 0) scope.Set reach.Global ∷ []) refl ∷ [])
    ≡ None ∷ None ∷ None ∷ []
unfolding the_law the_law_of_posts
with_scope_set = refl

-- a set does not stand for its members, nor for the program with its number
of_sets :
    faults
    (setup_with_sets (poster_a ∷ reader_b ∷ []) (entry (item.Set 0) (item.Set 0) scope.Set reach.Global ∷ []) refl
    ∷ setup_with_sets (poster_a ∷ reader_b ∷ []) (global_entry 0 0 ∷ entry (item.Program 0) (item.Set 1) scope.Set reach.Global ∷ []) refl
    ∷ setup_with_sets (poster_a ∷ reader_b ∷ []) (global_entry 0 0 ∷ entry (item.Set 1) (item.Program 0) scope.Program reach.Global ∷ []) refl
    ∷ setup_with_sets (poster_a ∷ reader_b ∷ []) (global_entry 0 0 ∷ entry (item.Set 0) (item.Program 1) scope.Program reach.Global ∷ []) refl
    ∷ setup_with_sets (poster_a ∷ reader_b ∷ []) (global_entry 0 0 ∷ entry (item.Set 0) (item.Set 1) scope.Set reach.Global ∷ []) refl
    ∷ setup_with_sets (poster_a ∷ reader_b ∷ []) (global_entry 0 0 ∷ global_entry 0 1 ∷ []) refl ∷ [])
    ≡ Some (1, refused.NotExclusive) ∷ Some (2, refused.NotExclusive) ∷ Some (2, refused.NotExclusive) ∷ Some (2, refused.NotExclusive)
    ∷ Some (2, refused.NotExclusive) ∷ None ∷ []
unfolding the_law the_law_of_posts
of_sets = refl

-- ---- which programs count

-- a disabled program counts: one that posts, alone and beside B; one that reads; one without a table
disabled :
    faults
    (setup_of (record poster_a { enabled = false } ∷ []) [] refl
    ∷ setup_of (record poster_a { enabled = false } ∷ reader_b ∷ []) (global_entry 0 0 ∷ []) refl
    ∷ setup_of (poster_a ∷ record reader_b { enabled = false } ∷ []) (global_entry 0 0 ∷ []) refl
    ∷ setup_of (record (poster_to (codes "x.csv")) { enabled = false } ∷ []) (global_entry 0 0 ∷ []) refl ∷ [])
    ≡ Some (1, refused.NotExclusive) ∷ Some (2, refused.NotExclusive) ∷ Some (2, refused.NotExclusive) ∷ Some (1, refused.BadTarget) ∷ []
unfolding the_law the_law_of_posts
disabled = refl

-- two programs that post to one table need an entry
one_table_for_two :
    faults
    (setup_of (poster_a ∷ poster_to (codes "u.csv") ∷ []) (global_entry 0 0 ∷ global_entry 1 1 ∷ []) refl
    ∷ setup_of (poster_a ∷ poster_to (codes "u.csv") ∷ []) (global_entry 0 0 ∷ global_entry 1 1 ∷ global_entry 0 1 ∷ []) refl ∷ [])
    ≡ Some (2, refused.NotExclusive) ∷ None ∷ []
unfolding the_law the_law_of_posts
one_table_for_two = refl

-- and so does a program that posts to a table which an earlier one reads, or to the table that it reads itself
tables_that_are_read :
    faults
    (setup_of (reader_b ∷ poster_to (codes "u.csv") ∷ []) (global_entry 1 1 ∷ []) refl
    ∷ setup_of (poster_to (codes "t.csv") ∷ []) [] refl
    ∷ setup_of (poster_to (codes "t.csv") ∷ []) (global_entry 0 0 ∷ []) refl ∷ [])
    ≡ Some (2, refused.NotExclusive) ∷ Some (1, refused.NotExclusive) ∷ None ∷ []
unfolding the_law the_law_of_posts
tables_that_are_read = refl

-- ---- two faults

-- on one line the table goes first
one_line :
    faults
    (setup_of (poster_to (codes "x.csv") ∷ []) [] refl
    ∷ setup_of (poster_to (codes "three.csv") ∷ []) [] refl
    ∷ setup_of (poster_a ∷ poster_to (codes "one.csv") ∷ []) (global_entry 0 0 ∷ []) refl ∷ [])
    ≡ Some (1, refused.BadTarget) ∷ Some (1, refused.BadTarget) ∷ Some (2, refused.BadTarget) ∷ []
unfolding the_law the_law_of_posts
one_line = refl

-- and of two lines the lesser one
two_lines :
    faults
    (setup_of (poster_a ∷ poster_to (codes "x.csv") ∷ []) [] refl
    ∷ setup_of (poster_to (codes "x.csv") ∷ poster_a ∷ []) [] refl
    ∷ setup_of (poster_a ∷ reader_b ∷ poster_to (codes "x.csv") ∷ []) (global_entry 0 0 ∷ []) refl
    ∷ setup_of (reader_b ∷ poster_to (codes "x.csv") ∷ poster_a ∷ []) [] refl ∷ [])
    ≡ Some (1, refused.NotExclusive) ∷ Some (1, refused.BadTarget) ∷ Some (2, refused.NotExclusive) ∷ Some (2, refused.BadTarget) ∷ []
unfolding the_law the_law_of_posts
two_lines = refl
