-- What is entered for parts one after the other.
use Rattle.std.proofs.Common.{◌≡◌, refl, sym, ap, ◌∙◌, ℕ, ◌+◌, ◌<◌, ◌≤◌, false, List, [], ◌∷◌, ◌++◌, length, get_or, drop, append_assoc, arith}
use Rattle.std.specs.List.{enumerate_from, flat_map}
use Rattle.std.specs.Prelude.{None, nat_lt, slice_get}
use Rattle.std.proofs.lemmas.Bool.Decides.{nat_tests}
use Rattle.std.proofs.lemmas.List.{drop_more, length-map}
use Rattle.std.proofs.lemmas.Option.{slice_get_past}
use Rattle.conc_types.specs.declared.set.SetDef.{SetDef}
use Rattle.conc_types.specs.declared.plan.Req.{Req}
use Rattle.conc_types.specs.declared.script.Act.{Act}
use Rattle.conc_types.specs.declared.setup.Setup.{Setup}
use Rattle.conc_types.specs.declared.stage.Stage.{Stage}
use Rattle.conc_types.specs.Expansion.{Part, members_of}
use Rattle.conc_plan.specs.Entering.{entered_for, members_in, set_parts}

-- the rest of a list, with each element numbered
pub enumerate_from-drop : {X : Type 0} → (k : ℕ) (xs : List X) (i : ℕ) (x : X) → i < length xs → x ≡ get_or xs i x → enumerate_from k (drop i xs) ≡ (k, x) ∷ enumerate_from (k + 1) (drop (i + 1) xs)
enumerate_from-drop k xs i x below here = rw (drop_more xs i x below, ← here) refl

flat_map_numbered : {X A : Type 0} (f : ℕ × X → List A) → (n : ℕ) (xs ys : List X) → flat_map f (enumerate_from n (xs ++ ys)) ≡ flat_map f (enumerate_from n xs) ++ flat_map f (enumerate_from (n + length xs) ys)
flat_map_numbered f n [] ys = grind arith
flat_map_numbered f n (x ∷ xs) ys =
    let e : n + 1 + length xs ≡ n + length (x ∷ xs) = omega arith in
    rw (flat_map_numbered f (n + 1) xs ys, e) (sym (append_assoc (f (n, x)) _ _))

-- the members of the rest of the stages
pub members-drop : (k : ℕ) (items stages : List Stage) (i : ℕ) (stage : Stage) → items ≡ stages → i < length items → stage ≡ get_or items i stage → flat_map members_of (enumerate_from k (drop i stages)) ≡ members_of (k, stage) ++ flat_map members_of (enumerate_from (k + 1) (drop (i + 1) stages))
members-drop k items stages i stage same below here = rw (← same, enumerate_from-drop k items i stage below here) refl

pub length-members : (k : ℕ) (stage : Stage) → length (members_of (k, stage)) ≡ length stage.members
length-members k stage = length-map stage.members _

-- some parts are entered, and then the rest
pub entered_more : (setup : Setup) (command first : ℕ) (act : Act) (next : ℕ) (parts rest all : List Part) (out out' wanted : List Req) (count : ℕ) → all ≡ parts ++ rest → length parts ≡ count → out' ≡ out ++ entered_for setup command first act next parts → out ++ entered_for setup command first act next all ≡ wanted → out' ++ entered_for setup command first act (next + count) rest ≡ wanted
entered_more setup command first act next parts rest all out out' wanted count split many is same =
    rw (is, ← many) (append_assoc out _ _ ∙ (ap (λ (x : List Req). out ++ x) (sym (flat_map_numbered _ next parts rest)) ∙ (ap (λ (x : List Part). out ++ entered_for setup command first act next x) (sym split) ∙ same)))

past_end : (n most : ℕ) → false ≡ nat_lt n most → most ≤ n
past_end n most e = grind (arith, nat_tests)

-- a set that is not there has no members
pub no_set : (setup : Setup) (place : ℕ) (items : List SetDef) → items ≡ setup.sets → false ≡ nat_lt place (length items) → members_in [] ≡ set_parts setup place
no_set setup place items same none =
    let past : slice_get setup.sets place ≡ None = slice_get_past setup.sets place (omega (arith, past_end place (length items) none, ap length same)) in
    rw past refl
