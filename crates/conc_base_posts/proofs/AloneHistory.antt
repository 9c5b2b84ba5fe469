-- A run without workers that goes on from a lawful history makes a lawful one, where programs post.
use Rattle.std.proofs.Common.{◌≡◌, ℕ, zero, suc, ◌+◌, ◌≤◌, true, false, List, [], ◌∷◌, ◌++◌, length, reverse, take, Some, refl, sym, ◌∙◌, ap, arith}
use Rattle.std.specs.Prelude.{slice_get}
use Rattle.std.proofs.lemmas.Bool.{and_from, cond-false}
use Rattle.std.proofs.lemmas.List.{length-append, take_all, take_at}
use Rattle.conc_types.specs.declared.event.Event.{Event}
use Rattle.conc_types.specs.declared.plan.Plan.{Plan}
use Rattle.conc_types.specs.declared.script.Reading.{Reading}
use Rattle.conc_base_law.specs.Alone.{opening}
use Rattle.conc_base_law.specs.Kinds.{is_resume}
use Rattle.conc_base_law.specs.Law.{is_lawful, is_lawful_so_far, may_follow}
use Rattle.conc_base_law.proofs.AloneHistory.{opening-lawful}
use Rattle.conc_base_law.proofs.Positions.{reverse-push, slice_get-some, take-suc_at}
use Rattle.conc_base_posts.specs.Alone.{Alone, Follows, next_alone}
use Rattle.conc_base_posts.proofs.AloneLawful.{next_alone-follows}

-- what comes next makes a lawful list of one
pub next_lawful : (plan : Plan) (readings : List Reading) (past : List Event) (e : Event) → is_lawful plan readings past ≡ true → next_alone plan readings past ≡ Some e
    → is_lawful plan readings (e ∷ past) ≡ true
unfolding is_lawful
next_lawful plan readings past e h next =
    let p : (is_resume e ≡ false) × (may_follow plan (Some readings) past e ≡ true) = next_alone-follows plan readings past e next in
    and_from _ _ (cond-false (is_resume e) _ _ p.0 ∙ h) p.1

-- what begins with a lawful front, and goes on by what comes next, is lawful up to each position
lawful_to : (plan : Plan) (readings : List Reading) (n : ℕ) (history : List Event) → is_lawful plan readings (reverse (take n history)) ≡ true → Follows plan readings n history
    → (k : ℕ) → n + k ≤ length history → is_lawful plan readings (reverse (take (n + k) history)) ≡ true
lawful_to plan readings n history start each zero h = let same : n + zero ≡ n = omega arith in ap (λ i. is_lawful plan readings (reverse (take i history))) same ∙ start
lawful_to plan readings n history start each (suc k) h =
    let before : List Event = take (n + k) history in
    let p : (e : Event) × (slice_get history (n + k) ≡ Some e) = slice_get-some history (n + k) (omega arith) in
    let last : take (n + suc k) history ≡ before ++ p.0 ∷ [] = let same : n + suc k ≡ suc (n + k) = omega arith in ap (λ i. take i history) same ∙ take-suc_at history (n + k) p.0 p.1 in
    let next : next_alone plan readings (reverse before) ≡ Some p.0 = sym (each (n + k) (omega arith) (omega arith)) ∙ p.1 in
    ap (λ l. is_lawful plan readings (reverse l)) last ∙ ap (is_lawful plan readings) (reverse-push before p.0)
    ∙ next_lawful plan readings (reverse before) p.0 (lawful_to plan readings n history start each k (omega arith)) next

-- what a run without workers makes begins with its opening
pub take-opening : (plan : Plan) (readings : List Reading) (found history : List Event) → Alone plan readings found history → take (length (opening found)) history ≡ opening found
take-opening plan readings found history h = ap (take (length (opening found))) h.begins.1 ∙ take_at (opening found) h.begins.0 (length (opening found)) refl

-- how long it is
pub length-alone : (plan : Plan) (readings : List Reading) (found history : List Event) (h : Alone plan readings found history) → length history ≡ length (opening found) + length h.begins.0
length-alone plan readings found history h = ap length h.begins.1 ∙ length-append (opening found) h.begins.0

-- a run without workers that goes on from a lawful history makes a lawful one
pub alone_lawful : (plan : Plan) (readings : List Reading) (found history : List Event) → is_lawful_so_far plan (reverse found) ≡ true → Alone plan readings found history
    → is_lawful plan readings (reverse history) ≡ true
alone_lawful plan readings found history past h =
    let n : ℕ = length (opening found) in
    let long : length history ≡ n + length h.begins.0 = length-alone plan readings found history h in
    let start : is_lawful plan readings (reverse (take n history)) ≡ true =
    ap (λ l. is_lawful plan readings (reverse l)) (take-opening plan readings found history h) ∙ opening-lawful plan readings found past in
    ap (λ l. is_lawful plan readings (reverse l)) (sym (take_all (n + length h.begins.0) history (omega arith)))
    ∙ lawful_to plan readings n history start h.each (length h.begins.0) (omega arith)
