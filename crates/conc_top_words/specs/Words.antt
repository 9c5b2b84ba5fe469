-- The words of the command line: what command they are.
use Rattle.std.specs.Prelude.{◌≤◌, ⊤, ℕ, Bool, not, ◌&&◌, ◌||◌, if◌then◌else◌, List, [], ◌∷◌, codes, drop, length, nat_eq, Option, None, Some}
use Rattle.std.specs.Bool.{then_some}
use Rattle.std.specs.List.{starts_with}
use Rattle.std.specs.Option.{option_and_then, option_map}
use Rattle.std.specs.Str.{bytes_eq}
use Rattle.conc_types.specs.declared.event.RequestId.{RequestId}
use Rattle.conc_types.specs.Decimals.{decimal_value}
use Rattle.conc_types.specs.Texts.{is_name}
use Rattle.conc_types.specs.Words.{is_between, is_empty}
use Rattle.conc_top_words.specs.declared.command.Command.{Command}
use Rattle.conc_top_words.specs.declared.command.Command.TheVariants as command

-- ---- words

abbrev pub is : List ℕ → List ℕ → Bool
is text word = bytes_eq word text

-- a word that is not empty and does not begin with a dash
abbrev pub is_positional : List ℕ → Bool
is_positional word = not (is_empty word) && not (starts_with nat_eq word (codes "-"))

-- the name of a file
abbrev pub is_file : List ℕ → Bool
is_file word = is_positional word && is_name word

-- the number that a word spells, if it is from one number to another
abbrev pub number_between : ℕ → ℕ → List ℕ → Option ℕ
number_between least most word = option_and_then (λ n. then_some (is_between least most n) n) (decimal_value word)

-- the request that a word numbers
abbrev pub request_of : List ℕ → Option RequestId
request_of word = option_map (λ n. record { number = n }) (number_between 1 4294967295 word)

-- how many submissions are made
abbrev pub size_of : List ℕ → Option ℕ
size_of word = number_between 1 4000 word

-- what stands behind the beginning of a word, if it begins so
abbrev pub behind : List ℕ → List ℕ → Option (List ℕ)
behind text word = then_some (starts_with nat_eq word text) (drop (length text) word)

-- ---- what the words behind `run` say

-- the values of the options, and the other words, each in order
pub record Said : Type 0 where
  pub threads : List (List ℕ)
  pub watch : List (List ℕ)
  pub files : List (List ℕ)

abbrev pub nothing_said : Said
nothing_said = record { threads = []; watch = []; files = [] }

abbrev pub with_threads : List ℕ → Said → Said
with_threads value s = record s { threads = value ∷ s.threads }

abbrev pub with_watch : List ℕ → Said → Said
with_watch value s = record s { watch = value ∷ s.watch }

abbrev pub with_file : List ℕ → Said → Said
with_file word s = record s { files = word ∷ s.files }

-- a word that is a file or an option with its value, before words that say more
abbrev pub said_by_watch : List ℕ → Option (List ℕ) → Option Said → Option Said
said_by_watch word (Some value) more = option_map (with_watch value) more
said_by_watch word None more = if is_positional word then option_map (with_file word) more else None

abbrev pub said_by_threads : List ℕ → Option (List ℕ) → Option Said → Option Said
said_by_threads word (Some value) more = option_map (with_threads value) more
said_by_threads word None more = said_by_watch word (behind (codes "--watch=") word) more

abbrev pub said_by : List ℕ → Option Said → Option Said
said_by word more = said_by_threads word (behind (codes "--threads=") word) more

-- the word is an option whose value is the next word
abbrev pub takes_next : List ℕ → Bool
takes_next word = is (codes "--threads") word || is (codes "--watch") word

abbrev pub with_option : List ℕ → List ℕ → Said → Said
with_option word value s = if is (codes "--threads") word then with_threads value s else with_watch value s

-- what the words say, if each is a file, an option with its value, or an option before its value
unfoldable pub said : List (List ℕ) → Option Said
said [] = Some nothing_said
said (word ∷ []) = if takes_next word then None else said_by word (Some nothing_said)
said (word ∷ next ∷ words) =
    if takes_next word then option_map (with_option word next) (said words)
    else said_by word (said (next ∷ words))

-- ---- `run`

-- It alone has options, anywhere behind it, each of the two names at most once: `--threads N` or `--threads=N`, where N is a
-- decimal from 0 to 32, and 4 where it is not given, and `--watch W` or `--watch=W`, where W is a decimal from 0 to 8, and 0
-- where it is not given.

-- how many threads a run has: the default where the option is not given, and its value where it is given once
abbrev pub threads_of : List (List ℕ) → Option ℕ
threads_of [] = Some 4
threads_of (value ∷ []) = number_between 0 32 value
threads_of _ = None

-- how many watchers it has: none where the option is not given, and its value where it is given once
abbrev pub watchers_of : List (List ℕ) → Option ℕ
watchers_of [] = Some 0
watchers_of (value ∷ []) = number_between 0 8 value
watchers_of _ = None

-- three files with names, and so many threads and watchers
abbrev pub run_among : ℕ → ℕ → List (List ℕ) → Option Command
run_among threads watchers (setup ∷ script ∷ clock ∷ []) =
    then_some (is_name setup && (is_name script && is_name clock)) (command.Run setup script clock threads watchers)
run_among threads watchers _ = None

abbrev pub run_said : Said → Option Command
run_said s =
    option_and_then
    (λ threads. option_and_then (λ watchers. run_among threads watchers s.files) (watchers_of s.watch))
    (threads_of s.threads)

-- `SETUP SCRIPT CLOCK`, and anywhere among them `--threads N` and `--watch W`, each once or not at all
abbrev pub run_of : List (List ℕ) → Option Command
run_of words = option_and_then run_said (said words)

-- ---- the other commands, which have no options

-- the names of a setup and a script
abbrev pub file_pair : List (List ℕ) → Option (List ℕ × List ℕ)
file_pair (setup ∷ script ∷ []) = then_some (is_file setup && is_file script) (setup, script)
file_pair _ = None

-- `SETUP SCRIPT`
abbrev pub plan_of : List (List ℕ) → Option Command
plan_of words = option_map (λ files. command.Plan files.0 files.1) (file_pair words)

-- `SETUP SCRIPT CLOCK HISTORY`
abbrev pub check_of : List (List ℕ) → Option Command
check_of (setup ∷ script ∷ clock ∷ history ∷ []) =
    then_some (is_file setup && (is_file script && (is_file clock && is_file history))) (command.Check setup script clock history)
check_of _ = None

-- `SETUP SCRIPT`
abbrev pub status_of : List (List ℕ) → Option Command
status_of words = option_map (λ files. command.Status files.0 files.1) (file_pair words)

-- `SETUP SCRIPT NUMBER`
abbrev pub output_of : List (List ℕ) → Option Command
output_of (setup ∷ script ∷ number ∷ []) =
    if is_file setup && is_file script then option_map (λ r. command.Output setup script r) (request_of number) else None
output_of _ = None

-- `SEED SIZE`
abbrev pub make_of : List (List ℕ) → Option Command
make_of (seed ∷ size ∷ []) = option_and_then (λ s. option_map (λ n. command.Make s n) (size_of size)) (decimal_value seed)
make_of _ = None

-- `REPEATS`
abbrev pub repeat_of : List (List ℕ) → Option Command
repeat_of (repeats ∷ []) = then_some (is_file repeats) (command.Repeat repeats)
repeat_of _ = None

-- ---- all commands

-- the command of a name, with the words behind it
unfoldable pub command_named : List ℕ → List (List ℕ) → Option Command
command_named name words =
    if is (codes "run") name then run_of words
    else if is (codes "plan") name then plan_of words
    else if is (codes "check") name then check_of words
    else if is (codes "status") name then status_of words
    else if is (codes "output") name then output_of words
    else if is (codes "make") name then make_of words
    else if is (codes "repeat") name then repeat_of words
    else None

-- the command that the words give
unfoldable pub command_of : List (List ℕ) → Option Command
command_of [] = None
command_of (name ∷ words) = command_named name words

-- a run has 0 to 32 threads and 0 to 8 watchers, a request is numbered from 1, and 1 to 4,000 submissions are made
abbrev pub AreWithin : Command → Type 0
AreWithin (command.Run setup script clock threads watchers) = (threads ≤ 32) × (watchers ≤ 8)
AreWithin (command.Output setup script request) = 1 ≤ request.number
AreWithin (command.Make seed size) = (1 ≤ size) × (size ≤ 4000)
AreWithin _ = ⊤
