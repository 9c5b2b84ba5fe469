-- Where no name is one of those before it, the names are distinct.
use Rattle.std.proofs.Common.{◌≡◌, ◌∙◌, sym, refl, ℕ, ◌+◌, Bool, true, false, ◌||◌, List, [], ◌∷◌, ◌++◌, append_assoc, append-nil, map, Option, None, Some, if◌then◌else◌}
use Rattle.std.specs.Prelude.{IsTrue, not}
use Rattle.std.specs.Bool.{Decides}
use Rattle.std.specs.List.{list_all, list_any}
use Rattle.std.specs.Str.{bytes_eq}
use Rattle.std.proofs.lemmas.Bool.{and_from, and_parts, or_parts}
use Rattle.std.proofs.lemmas.Bool.Decides.{same_from_decides}
use Rattle.std.proofs.lemmas.List.Folds.{list_any-append}
use Rattle.std.proofs.lemmas.Slice.Eq.{bytes_eq-Decides}
use Rattle.conc_types.specs.Faults.{Fault}
use Rattle.conc_types.specs.Words.{are_distinct}
use Rattle.conc_data_entries.specs.declared.raw.RawSet.{RawSet}
use Rattle.conc_setup.specs.SecondPass.{first_again, first_set_again, has_distinct_stages, is_again, is_among, table_again}

either_way : (x y : List ℕ) → bytes_eq x y ≡ bytes_eq y x
either_way x y =
    let back : Decides (bytes_eq y x) (x ≡ y) = (λ e. sym ((bytes_eq-Decides y x).0 e), λ e. (bytes_eq-Decides y x).1 (sym e)) in
    same_from_decides (bytes_eq x y) (bytes_eq y x) (bytes_eq-Decides x y) back

still_not : (a b c : Bool) → c ≡ (a || (b || false)) → not a ≡ true → b ≡ false → not c ≡ true
still_not false false c e h k = rw e refl
still_not false true c e h k = absurd (cc)
still_not true b c e h k = absurd (cc)

-- one more name, which is none of them
pub distinct_push : (names : List (List ℕ)) (name : List ℕ) → are_distinct bytes_eq names ≡ true → is_among names name ≡ false → are_distinct bytes_eq (names ++ name ∷ []) ≡ true
distinct_push [] name h new = refl
distinct_push (x ∷ names) name h new =
    let p = and_parts (not (list_any (bytes_eq x) names)) (are_distinct bytes_eq names) h in
    let q = or_parts (bytes_eq name x) (is_among names name) new in
    and_from _ _
    (still_not (list_any (bytes_eq x) names) (bytes_eq x name) _ (list_any-append (bytes_eq x) names (name ∷ [])) p.0 (either_way x name ∙ q.0))
    (distinct_push names name p.1 q.1)

unless_again : (test : Bool) (fault : Fault) (later : Option Fault) → (if test then Some fault else later) ≡ None → (test ≡ false) × (later ≡ None)
unless_again true fault later e = absurd (cc)
unless_again false fault later e = (refl, e)

pub again-distinct : (line : ℕ) (before names : List (List ℕ)) → first_again line before names ≡ None → are_distinct bytes_eq before ≡ true → are_distinct bytes_eq (before ++ names) ≡ true
unfolding first_again
again-distinct line before [] e h = simp append-nil h
again-distinct line before (name ∷ names) e h =
    let p = unless_again (is_among before name) _ (first_again (line + 1) (before ++ name ∷ []) names) e in
    let later : are_distinct bytes_eq ((before ++ name ∷ []) ++ names) ≡ true = again-distinct (line + 1) (before ++ name ∷ []) names p.1 (distinct_push before name h p.0) in
    rw append_assoc at later

unless_twice : (distinct : Bool) (fault : Fault) → (if distinct then None else Some fault) ≡ None → distinct ≡ true
unless_twice true fault e = refl
unless_twice false fault e = absurd (cc)

pub tables-distinct : (tables : List (List ℕ)) → table_again tables ≡ None → are_distinct bytes_eq tables ≡ true
tables-distinct tables e = unless_twice (are_distinct bytes_eq tables) _ e

not_again : (a b c : Bool) → (a || (b || not c)) ≡ false → ((a || b) ≡ false) × (c ≡ true)
not_again false false true e = (refl, refl)
not_again false false false e = absurd (cc)
not_again false true c e = absurd (cc)
not_again true b c e = absurd (cc)

among-append : (xs ys : List (List ℕ)) (name : List ℕ) → is_among (xs ++ ys) name ≡ (is_among xs name || is_among ys name)
among-append xs ys name = list_any-append (bytes_eq name) xs ys

pub sets-distinct : (line : ℕ) (programs before : List (List ℕ)) (sets : List RawSet) → first_set_again line programs before sets ≡ None
    → are_distinct bytes_eq (programs ++ before) ≡ true
    → (are_distinct bytes_eq (programs ++ (before ++ map (λ s. s.name) sets)) ≡ true) × IsTrue (list_all has_distinct_stages sets)
unfolding first_set_again
sets-distinct line programs before [] e h = (simp append-nil h, refl)
sets-distinct line programs before (set ∷ sets) e h =
    let p = unless_again (is_again programs before set) _ (first_set_again (line + 1) programs (before ++ set.name ∷ []) sets) e in
    let q = not_again (is_among programs set.name) (is_among before set.name) (has_distinct_stages set) p.0 in
    let more : are_distinct bytes_eq (programs ++ (before ++ set.name ∷ [])) ≡ true =
    rw append_assoc at (distinct_push (programs ++ before) set.name h (among-append programs before set.name ∙ q.0)) in
    let later = sets-distinct (line + 1) programs (before ++ set.name ∷ []) sets p.1 more in
    let all : are_distinct bytes_eq (programs ++ ((before ++ set.name ∷ []) ++ map (λ s. s.name) sets)) ≡ true = later.0 in
    (simp append_assoc at all, and_from _ _ q.1 later.1)
