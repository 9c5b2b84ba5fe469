-- What words say, by the first of them, and how many they can be.
use Rattle.std.proofs.Common.{◌≡◌, ◌≤◌, ◌<◌, ◌+◌, ◌*◌, Bool, true, false, refl, sym, subst, map, ap, ◌∙◌, ℕ, zero, suc, List, [], ◌∷◌, length, Option, None, Some, arith}
use Rattle.std.specs.Option.{option_and_then, option_map}
use Rattle.std.proofs.lemmas.List.{append-nil, length-map, nil_from_length}
use Rattle.std.specs.Prelude.{if◌then◌else◌, codes}
use Rattle.conc_top_words.specs.declared.command.Command.{Command}
use Rattle.conc_top_words.specs.Saying.{before}
use Rattle.conc_top_words.specs.Words.{behind, is, is_positional, run_among, run_said, nothing_said, said, Said, said_by, said_by_threads, said_by_watch, takes_next, threads_of, watchers_of, with_file, with_option, with_threads, with_watch}

-- a word that is no option before its value
pub said-first : (word : List ℕ) (rest : List (List ℕ)) → takes_next word ≡ false → said (word ∷ rest) ≡ said_by word (said rest)
unfolding said
said-first word [] e = rw e refl
said-first word (next ∷ words) e = rw e refl

pub said-option : (word value : List ℕ) (rest : List (List ℕ)) → takes_next word ≡ true → said (word ∷ value ∷ rest) ≡ option_map (with_option word value) (said rest)
unfolding said
said-option word value rest e = rw e refl

pub said-last : (word : List ℕ) → takes_next word ≡ true → said (word ∷ []) ≡ None
unfolding said
said-last word e = rw e refl

either-none : {A : Type 0} (b : Bool) → ◌≡◌ {A = Option A} (if b then None else None) None
either-none true = refl
either-none false = refl

watch-none : (word : List ℕ) (value : Option (List ℕ)) → said_by_watch word value None ≡ None
watch-none word (Some v) = refl
watch-none word None = either-none (is_positional word)

threads-none : (word : List ℕ) (value : Option (List ℕ)) → said_by_threads word value None ≡ None
threads-none word (Some v) = refl
threads-none word None = watch-none word (behind (codes "--watch=") word)

-- a word before words that say nothing that is meant
pub said_by-none : (word : List ℕ) → said_by word None ≡ None
said_by-none word = threads-none word (behind (codes "--threads=") word)

-- ---- of words as they stand in a slice

module _ {S : Type 0} (f : S → List ℕ) where
  pub said-nothing : (words : List S) → length words ≡ 0 → said (map f words) ≡ Some nothing_said
  unfolding said
  said-nothing words e = rw (nil_from_length words e) refl

  pub said-file : (words rest : List S) (word : S) (bytes : List ℕ) (more : Option Said) → words ≡ word ∷ rest → bytes ≡ f word → takes_next bytes ≡ false → more ≡ said (map f rest)
      → said (map f words) ≡ said_by bytes more
  said-file words rest word bytes more e same plain is = rw (e, is, same) (said-first (f word) (map f rest) (subst (λ b. takes_next b ≡ false) same plain))

  pub said-before : (words rest later : List S) (word value : S) (bytes shown : List ℕ) (more : Option Said) → words ≡ word ∷ rest → rest ≡ value ∷ later → bytes ≡ f word → shown ≡ f value
      → takes_next bytes ≡ true → more ≡ said (map f later) → said (map f words) ≡ option_map (with_option bytes shown) more
  said-before words rest later word value bytes shown more e k same same' takes is =
      rw (e, k, is, same, same') (said-option (f word) (f value) (map f later) (subst (λ b. takes_next b ≡ true) same takes))

  pub said-alone : (words rest : List S) (word : S) (bytes : List ℕ) → words ≡ word ∷ rest → length rest ≡ 0 → bytes ≡ f word → takes_next bytes ≡ true → said (map f words) ≡ None
  said-alone words rest word bytes e none same takes = rw (e, nil_from_length rest none) (said-last (f word) (subst (λ b. takes_next b ≡ true) same takes))

-- ---- words that were read, before others

before-nothing : (more : Option Said) → option_map (before nothing_said) more ≡ more
before-nothing None = refl
before-nothing (Some m) = refl

before-all : (s : Said) → before s nothing_said ≡ s
before-all s = rw (append-nil s.threads, append-nil s.watch, append-nil s.files) refl

mapped-twice : (f g h : Said → Said) → ((m : Said) → f m ≡ g (h m)) → (more : Option Said) → option_map f more ≡ option_map g (option_map h more)
mapped-twice f g h same None = refl
mapped-twice f g h same (Some m) = ap (λ s. Some s) (same m)

-- where nothing was read yet
pub reads-nothing : (s : Said) (all : Option Said) → s ≡ nothing_said → all ≡ option_map (before s) all
reads-nothing s all none = sym (ap (λ z. option_map (before z) all) none ∙ before-nothing all)

module _ {S : Type 0} (f : S → List ℕ) (old new : Said) (all : Option Said) (words : List S) (read : all ≡ option_map (before old) (said (map f words))) where
  -- where no word is left
  pub reads-all : length words ≡ 0 → Some old ≡ all
  reads-all none = sym (read ∙ (ap (option_map (before old)) (said-nothing f words none) ∙ ap (λ s. Some s) (before-all old)))

  module _ (word : S) (rest : List S) (bytes : List ℕ) (first : words ≡ word ∷ rest) (is : bytes ≡ f word) where
    pub reads-word : takes_next bytes ≡ false
        → ((more : Option Said) → option_map (before new) more ≡ option_map (before old) (said_by bytes more))
        → all ≡ option_map (before new) (said (map f rest))
    reads-word plain added =
        read ∙ (ap (option_map (before old)) (said-file f words rest word bytes (said (map f rest)) first is plain refl) ∙ sym (added (said (map f rest))))

    pub reads-neither : takes_next bytes ≡ false → ((more : Option Said) → said_by bytes more ≡ None) → None ≡ all
    reads-neither plain neither =
        sym (read ∙ ap (option_map (before old)) (said-file f words rest word bytes (said (map f rest)) first is plain refl ∙ neither (said (map f rest))))

    pub reads-option : (later : List S) (value : S) (shown : List ℕ) → rest ≡ value ∷ later → shown ≡ f value → takes_next bytes ≡ true
        → ((more : Said) → before new more ≡ before old (with_option bytes shown more))
        → all ≡ option_map (before new) (said (map f later))
    reads-option later value shown second is' takes added =
        read
        ∙ (ap (option_map (before old)) (said-before f words rest later word value bytes shown (said (map f later)) first second is is' takes refl)
        ∙ sym (mapped-twice (before new) (before old) (with_option bytes shown) added (said (map f later))))

    pub reads-alone : length rest ≡ 0 → takes_next bytes ≡ true → None ≡ all
    reads-alone none takes = sym (read ∙ ap (option_map (before old)) (said-alone f words rest word bytes first none is takes))

-- ---- how many words there are

abbrev count : Said → ℕ
count s = 2 * length s.threads + 2 * length s.watch + length s.files

-- one more word was said
abbrev More : Said → Option Said → Type 0
More s more = (m : Said) × (more ≡ Some m) × (count m + 1 ≤ count s)

abbrev MoreByTwo : Said → Option Said → Type 0
MoreByTwo s more = (m : Said) × (more ≡ Some m) × (count m + 2 ≤ count s)

some-same : (a b : Said) → Some a ≡ Some b → a ≡ b
some-same a b e = cc

mapped-more : (f : Said → Said) (k : ℕ) → ((m : Said) → count m + k ≤ count (f m)) → (more : Option Said) (s : Said) → option_map f more ≡ Some s
    → (m : Said) × (more ≡ Some m) × (count m + k ≤ count s)
mapped-more f k grows None s e = absurd (cc e)
mapped-more f k grows (Some m) s e = (m, refl, omega (arith, grows m, ap count (some-same (f m) s e)))

threads-count : (value : List ℕ) (m : Said) → count m + 2 ≤ count (with_threads value m)
threads-count value m = omega arith

watch-count : (value : List ℕ) (m : Said) → count m + 2 ≤ count (with_watch value m)
watch-count value m = omega arith

file-count : (word : List ℕ) (m : Said) → count m + 1 ≤ count (with_file word m)
file-count word m = omega arith

option-count : (b : Bool) (value : List ℕ) (m : Said) → count m + 2 ≤ count (if b then with_threads value m else with_watch value m)
option-count true value m = threads-count value m
option-count false value m = watch-count value m

option-more : (word value : List ℕ) (more : Option Said) (s : Said) → option_map (with_option word value) more ≡ Some s → MoreByTwo s more
option-more word value = mapped-more (with_option word value) 2 (option-count (is (codes "--threads") word) value)

file-more : (b : Bool) (word : List ℕ) (more : Option Said) (s : Said) → (if b then option_map (with_file word) more else None) ≡ Some s → More s more
file-more true word more s e = mapped-more (with_file word) 1 (file-count word) more s e
file-more false word more s e = absurd (cc e)

watch-more : (word : List ℕ) (value : Option (List ℕ)) (more : Option Said) (s : Said) → said_by_watch word value more ≡ Some s → More s more
watch-more word (Some v) more s e = mapped-more (with_watch v) 1 (λ m. omega (arith, watch-count v m)) more s e
watch-more word None more s e = file-more (is_positional word) word more s e

threads-more : (word : List ℕ) (value : Option (List ℕ)) (more : Option Said) (s : Said) → said_by_threads word value more ≡ Some s → More s more
threads-more word (Some v) more s e = mapped-more (with_threads v) 1 (λ m. omega (arith, threads-count v m)) more s e
threads-more word None more s e = watch-more word (behind (codes "--watch=") word) more s e

by-more : (word : List ℕ) (more : Option Said) (s : Said) → said_by word more ≡ Some s → More s more
by-more word more s e = threads-more word (behind (codes "--threads=") word) more s e

alone-few : (word : List ℕ) (takes : Bool) → takes_next word ≡ takes → (s : Said) → said (word ∷ []) ≡ Some s → 1 ≤ count s
alone-few word true takes s e = absurd (cc (said-last word takes, e))
alone-few word false takes s e =
    let more = by-more word (said []) s (sym (said-first word [] takes) ∙ e) in
    omega (arith, more.2)

first-few : (word next : List ℕ) (words : List (List ℕ)) (takes : Bool) → takes_next word ≡ takes → (s : Said) → said (word ∷ next ∷ words) ≡ Some s
    → ((m : Said) → said words ≡ Some m → length words ≤ count m) → ((m : Said) → said (next ∷ words) ≡ Some m → length (next ∷ words) ≤ count m)
    → length (word ∷ next ∷ words) ≤ count s
first-few word next words true takes s e later rest =
    let more = option-more word next (said words) s (sym (said-option word next words takes) ∙ e) in
    omega (arith, more.2, later more.0 more.1)
first-few word next words false takes s e later rest =
    let more = by-more word (said (next ∷ words)) s (sym (said-first word (next ∷ words) takes) ∙ e) in
    omega (arith, more.2, rest more.0 more.1)

-- words that say something are no more than twice the options and the files
said-few : (n : ℕ) (words : List (List ℕ)) → length words ≤ n → (s : Said) → said words ≡ Some s → length words ≤ count s
said-few zero words fits s e = omega (arith, fits)
said-few (suc n) [] fits s e = omega arith
said-few (suc n) (word ∷ []) fits s e = alone-few word (takes_next word) refl s e
said-few (suc n) (word ∷ next ∷ words) fits s e =
    first-few word next words (takes_next word) refl s e (said-few n words (omega (arith, fits))) (said-few n (next ∷ words) (omega (arith, fits)))

-- ---- what is no command line

among-none : (n w : ℕ) (files : List (List ℕ)) → 3 < length files → run_among n w files ≡ None
among-none n w [] many = refl
among-none n w (x ∷ []) many = refl
among-none n w (x ∷ y ∷ []) many = refl
among-none n w (x ∷ y ∷ z ∷ []) many = absurd (omega (arith, many))
among-none n w (x ∷ y ∷ z ∷ v ∷ files) many = refl

-- the run that both options give, if they give numbers
abbrev among : Option ℕ → Option ℕ → List (List ℕ) → Option Command
among threads watchers files = option_and_then (λ n. option_and_then (λ w. run_among n w files) watchers) threads

among-some-none : (n : ℕ) (watchers : Option ℕ) (files : List (List ℕ)) → 3 < length files → among (Some n) watchers files ≡ None
among-some-none n None files many = refl
among-some-none n (Some w) files many = among-none n w files many

watch-few : (threads : Option ℕ) (watch files : List (List ℕ)) → 5 < 2 * length watch + length files → among threads (watchers_of watch) files ≡ None
watch-few None watch files many = refl
watch-few (Some n) [] files many = among-none n 0 files (omega (arith, many))
watch-few (Some n) (w ∷ []) files many = among-some-none n (watchers_of (w ∷ [])) files (omega (arith, many))
watch-few (Some n) (w ∷ x ∷ watch) files many = refl

run-few : (threads watch files : List (List ℕ)) → 7 < 2 * length threads + 2 * length watch + length files → run_said (record { threads = threads; watch = watch; files = files }) ≡ None
run-few [] watch files many = watch-few (threads_of []) watch files (omega (arith, many))
run-few (v ∷ []) watch files many = watch-few (threads_of (v ∷ [])) watch files (omega (arith, many))
run-few (v ∷ u ∷ threads) watch files many = refl

said-by-many : (words : List (List ℕ)) (o : Option Said) → said words ≡ o → 7 < length words → option_and_then run_said o ≡ None
said-by-many words None e many = refl
said-by-many words (Some s) e many = run-few s.threads s.watch s.files (omega (arith, many, said-few (length words) words (omega arith) s e))

said-many : (words : List (List ℕ)) → 7 < length words → option_and_then run_said (said words) ≡ None
said-many words many = said-by-many words (said words) refl many

-- more than seven words behind `run` are no command line
pub run-many : {S : Type 0} (f : S → List ℕ) (words : List S) → 7 < length words → option_and_then run_said (said (map f words)) ≡ None
run-many f words many = said-many (map f words) (omega (arith, many, length-map words f))
