-- The numbers of a command are within their bounds.
use Rattle.std.proofs.Common.{◌≡◌, ◌≤◌, ℕ, Bool, true, false, List, [], ◌∷◌, Option, None, Some, refl, arith, rules}
use Rattle.std.specs.Bool.{then_some}
use Rattle.std.specs.Option.{option_and_then, option_map}
use Rattle.std.specs.Prelude.{◌&&◌, if◌then◌else◌, codes, IfSome}
use Rattle.conc_types.specs.Decimals.{decimal_value}
use Rattle.conc_types.specs.Words.{is_between}
use Rattle.conc_top_words.specs.declared.command.Command.{Command}
use Rattle.conc_top_words.specs.declared.command.Command.TheVariants as command
use Rattle.conc_top_words.specs.Words.{AreWithin, check_of, command_named, command_of, file_pair, is, is_file, make_of, number_between, output_of, repeat_of, plan_of, run_among, run_said, Said, said, size_of, status_of, threads_of, watchers_of}

abbrev IsWithin : Option Command → Type 0
IsWithin command = IfSome command AreWithin

-- ---- numbers

abbrev Between : ℕ → ℕ → ℕ → Type 0
Between least most n = (least ≤ n) × (n ≤ most)

is-between : (least most n : ℕ) → is_between least most n ≡ true → Between least most n
is-between least most n is = search rules

between-by : (least most n : ℕ) (b : Bool) → is_between least most n ≡ b → IfSome (then_some b n) (Between least most)
between-by least most n true is = is-between least most n is
between-by least most n false is = tt

between-of : (least most : ℕ) (o : Option ℕ) → IfSome (option_and_then (λ n. then_some (is_between least most n) n) o) (Between least most)
between-of least most None = tt
between-of least most (Some n) = between-by least most n (is_between least most n) refl

number-between : (least most : ℕ) (word : List ℕ) → IfSome (number_between least most word) (Between least most)
number-between least most word = between-of least most (decimal_value word)

-- ---- commands without numbers

then-within : (b : Bool) (c : Command) → AreWithin c → IsWithin (then_some b c)
then-within true c within = within
then-within false c within = tt

plain-within : {A : Type 0} (command : A → Command) → ((a : A) → AreWithin (command a)) → (o : Option A) → IsWithin (option_map command o)
plain-within command within None = tt
plain-within command within (Some a) = within a

plan-within : (words : List (List ℕ)) → IsWithin (plan_of words)
plan-within words = plain-within (λ files. command.Plan files.0 files.1) (λ files. tt) (file_pair words)

check-within : (words : List (List ℕ)) → IsWithin (check_of words)
check-within [] = tt
check-within (a ∷ []) = tt
check-within (a ∷ b ∷ []) = tt
check-within (a ∷ b ∷ c ∷ []) = tt
check-within (a ∷ b ∷ c ∷ d ∷ []) = then-within _ (command.Check a b c d) tt
check-within (a ∷ b ∷ c ∷ d ∷ e ∷ words) = tt

status-within : (words : List (List ℕ)) → IsWithin (status_of words)
status-within words = plain-within (λ files. command.Status files.0 files.1) (λ files. tt) (file_pair words)

-- ---- commands with numbers

among-within : (n w : ℕ) (files : List (List ℕ)) → n ≤ 32 → w ≤ 8 → IsWithin (run_among n w files)
among-within n w [] few few' = tt
among-within n w (a ∷ []) few few' = tt
among-within n w (a ∷ b ∷ []) few few' = tt
among-within n w (a ∷ b ∷ c ∷ []) few few' = then-within _ (command.Run a b c n w) (few, few')
among-within n w (a ∷ b ∷ c ∷ d ∷ files) few few' = tt

threads-within : (threads : List (List ℕ)) → IfSome (threads_of threads) (Between 0 32)
threads-within [] = (omega arith, omega arith)
threads-within (v ∷ []) = number-between 0 32 v
threads-within (v ∷ u ∷ threads) = tt

watchers-within : (watch : List (List ℕ)) → IfSome (watchers_of watch) (Between 0 8)
watchers-within [] = (omega arith, omega arith)
watchers-within (v ∷ []) = number-between 0 8 v
watchers-within (v ∷ u ∷ watch) = tt

run-some : (threads watchers : Option ℕ) (files : List (List ℕ)) → IfSome threads (Between 0 32) → IfSome watchers (Between 0 8)
    → IsWithin (option_and_then (λ n. option_and_then (λ w. run_among n w files) watchers) threads)
run-some None watchers files few few' = tt
run-some (Some n) None files few few' = tt
run-some (Some n) (Some w) files few few' = among-within n w files few.1 few'.1

said-within : (s : Option Said) → IsWithin (option_and_then run_said s)
said-within None = tt
said-within (Some s) = run-some (threads_of s.threads) (watchers_of s.watch) s.files (threads-within s.threads) (watchers-within s.watch)

output-some : (setup script : List ℕ) (o : Option ℕ) → IfSome o (Between 1 4294967295)
    → IsWithin (option_map (λ r. command.Output setup script r) (option_map (λ n. record { number = n }) o))
output-some setup script None within = tt
output-some setup script (Some n) within = within.0

output-if : (b : Bool) (setup script number : List ℕ)
    → IsWithin (if b then option_map (λ r. command.Output setup script r) (option_map (λ n. record { number = n }) (number_between 1 4294967295 number)) else None)
output-if true setup script number = output-some setup script (number_between 1 4294967295 number) (number-between 1 4294967295 number)
output-if false setup script number = tt

output-within : (words : List (List ℕ)) → IsWithin (output_of words)
output-within [] = tt
output-within (a ∷ []) = tt
output-within (a ∷ b ∷ []) = tt
output-within (a ∷ b ∷ c ∷ []) = output-if (is_file a && is_file b) a b c
output-within (a ∷ b ∷ c ∷ d ∷ words) = tt

make-some : (seed : ℕ) (o : Option ℕ) → IfSome o (Between 1 4000) → IsWithin (option_map (λ n. command.Make seed n) o)
make-some seed None within = tt
make-some seed (Some n) within = within

make-by : (o : Option ℕ) (size : List ℕ) → IsWithin (option_and_then (λ s. option_map (λ n. command.Make s n) (size_of size)) o)
make-by None size = tt
make-by (Some seed) size = make-some seed (size_of size) (number-between 1 4000 size)

make-within : (words : List (List ℕ)) → IsWithin (make_of words)
make-within [] = tt
make-within (a ∷ []) = tt
make-within (a ∷ b ∷ []) = make-by (decimal_value a) b
make-within (a ∷ b ∷ c ∷ words) = tt

repeat-within : (words : List (List ℕ)) → IsWithin (repeat_of words)
repeat-within [] = tt
repeat-within (a ∷ []) = then-within _ (command.Repeat a) tt
repeat-within (a ∷ b ∷ words) = tt

-- ---- all commands

either-within : (b : Bool) (x y : Option Command) → IsWithin x → IsWithin y → IsWithin (if b then x else y)
either-within true x y first second = first
either-within false x y first second = second

pub named-within : (name : List ℕ) (words : List (List ℕ)) → IsWithin (command_named name words)
unfolding command_named
named-within name words =
    either-within (is (codes "run") name) _ _ (said-within (said words))
    (either-within (is (codes "plan") name) _ _ (plan-within words)
    (either-within (is (codes "check") name) _ _ (check-within words)
    (either-within (is (codes "status") name) _ _ (status-within words)
    (either-within (is (codes "output") name) _ _ (output-within words)
    (either-within (is (codes "make") name) _ _ (make-within words)
    (either-within (is (codes "repeat") name) (repeat_of words) None (repeat-within words) tt))))))

-- the numbers of each command that words give
pub command-within : (words : List (List ℕ)) → IsWithin (command_of words)
unfolding command_of
command-within [] = tt
command-within (name ∷ words) = named-within name words
