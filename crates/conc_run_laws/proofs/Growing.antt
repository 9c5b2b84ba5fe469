-- A journal that fits the files of a plan fits those of a grown one.
use Rattle.std.proofs.Common.{◌≡◌, ◌⊎◌, ℕ, zero, suc, ◌<◌, ◌≤◌, Bool, true, ◌||◌, List, [], ◌∷◌, length, map, reverse, take, Option, None, Some, IsTrue, if◌then◌else◌, refl, sym, ◌∙◌, ap, subst, arith, inl, inr}
use Rattle.std.specs.Prelude.{slice_get}
use Rattle.std.specs.List.{filter_map, list_any}
use Rattle.std.proofs.lemmas.Bool.{eq-eqb, or_left, or_right}
use Rattle.std.proofs.lemmas.List.Sorted.{IsPermutation-reverse, list_any-IsPermutation}
use Rattle.conc_types.specs.Plans.{stamp}
use Rattle.conc_types.specs.Words.{numbered}
use Rattle.conc_types.specs.declared.digests.Digests.{Digests}
use Rattle.conc_types.specs.declared.event.Event.{Event}
use Rattle.conc_types.specs.declared.event.Event.TheVariants as event
use Rattle.conc_types.specs.declared.plan.Plan.{Plan}
use Rattle.conc_types.specs.declared.script.Order.{Order}
use Rattle.conc_journal.specs.Opens.{broken_of, events_of, label_of}
use Rattle.conc_journal_image.specs.Image.{is_not_begun, label_in, version_in}
use Rattle.conc_journal_image.specs.declared.label.Label.{Label}
use Rattle.conc_journal_image.specs.declared.label.Version.{Version}
use Rattle.conc_journal_image.specs.declared.label.Version.TheVariants.{Two}
use Rattle.conc_base_law.specs.Before.{occurs}
use Rattle.conc_base_law.specs.Kinds.{is_command}
use Rattle.conc_base_law.specs.Law.{LawfulSoFar}
use Rattle.conc_base_law.specs.Words.{Has}
use Rattle.conc_base_law.proofs.Numbering.{numbered-at}
use Rattle.conc_base_law.specs.Growth.{Grows}
use Rattle.conc_base_law.proofs.Firsts.{are_first}
use Rattle.conc_base_law.proofs.Fronts.{take-same}
use Rattle.conc_data_digests.specs.Stamps.{hash_behind, stamp_of, stamps_behind, stamps_of}
use Rattle.conc_run_state.specs.Inputs.{command_of, IsOwn, MayBeOfInput, NamesInput}
use Rattle.conc_run_laws.specs.Grown.{AreOfTheirScripts}
use Rattle.conc_run_laws.specs.Next.{IsFit}

-- ---- stamps

-- the stamps of the first commands are those of the first commands
front-stamps : (n : ℕ) (hash : List ℕ) (xs ys : List Order) → take n xs ≡ take n ys → take n (stamps_behind hash xs) ≡ take n (stamps_behind hash ys)
unfolding stamps_behind
front-stamps zero hash xs ys same = refl
front-stamps (suc n) hash [] [] same = refl
front-stamps (suc n) hash [] (y ∷ ys) same = cc
front-stamps (suc n) hash (x ∷ xs) [] same = cc
front-stamps (suc n) hash (x ∷ xs) (y ∷ ys) same =
    let first : x ≡ y = cc in
    let behind : take n xs ≡ take n ys = cc in
    let own : stamp_of (hash_behind hash x) ≡ stamp_of (hash_behind hash y) = ap (λ (o : Order). stamp_of (hash_behind hash o)) first in
    let rest : take n (stamps_behind (hash_behind hash x) xs) ≡ take n (stamps_behind (hash_behind hash y) ys) =
    front-stamps n (hash_behind hash x) xs ys behind ∙ ap (λ (o : Order). take n (stamps_behind (hash_behind hash o) ys)) first in
    ap (λ s. s ∷ take n (stamps_behind (hash_behind hash x) xs)) own ∙ ap (λ l. stamp_of (hash_behind hash y) ∷ l) rest

-- the last of a beginning
take-get : {X : Type 0} (n : ℕ) (xs : List X) → slice_get (take (suc n) xs) n ≡ slice_get xs n
take-get zero [] = refl
take-get zero (x ∷ xs) = refl
take-get (suc n) [] = refl
take-get (suc n) (x ∷ xs) = take-get n xs

take-numbered : {X : Type 0} (n : ℕ) (xs ys : List X) → take n xs ≡ take n ys → numbered xs n ≡ numbered ys n
take-numbered zero xs ys same = refl
take-numbered (suc n) xs ys same =
    numbered-at xs (suc n) n (omega arith) ∙ sym (take-get n xs) ∙ ap (λ l. slice_get l n) same ∙ take-get n ys ∙ sym (numbered-at ys (suc n) n (omega arith))

-- ---- the commands that are done

at_or_below : (m n : ℕ) → m ≤ n → (m ≡ n) ⊎ (m < n)
at_or_below m n le = grind arith

module _ (plan grown : Plan) (history : List Event) (grows : Grows plan grown history) (lawful : LawfulSoFar plan history) (own : AreOfTheirScripts plan grown) where
  -- those before one that is done are done too
  done-before : (number : ℕ) → IsTrue (occurs (is_command number) (reverse history)) → (i : ℕ) → i < number → IsTrue (occurs (is_command (suc i)) (reverse history))
  done-before number done i below = elim (at_or_below (suc i) number (omega arith)) [
    | inl same ↦ subst (λ (n : ℕ). IsTrue (occurs (is_command n) (reverse history))) (sym same) done
    | inr less ↦ (are_first plan (reverse history) lawful).before (suc i) number (omega arith) less done
  ]

  -- so the scripts are the same up to it
  same-front : (number : ℕ) → IsTrue (occurs (is_command number) (reverse history)) → take number grown.script.commands ≡ take number plan.script.commands
  same-front number done = take-same number grown.script.commands plan.script.commands (λ i below.
      sym (numbered-at grown.script.commands (suc i) i (omega arith)) ∙ grows.same_done (suc i) (done-before number done i below) ∙ numbered-at plan.script.commands (suc i) i (omega arith))

  -- and its stamp is the same
  same-stamp : (number : ℕ) → IsTrue (occurs (is_command number) (reverse history)) → stamp grown number ≡ stamp plan number
  same-stamp number done =
      ap (λ (l : List ℕ). numbered l number) own.second
      ∙ take-numbered number (stamps_of grown.script.commands) (stamps_of plan.script.commands) (front-stamps number _ grown.script.commands plan.script.commands (same-front number done))
      ∙ sym (ap (λ (l : List ℕ). numbered l number) own.first)

  same-each : (numbers : List ℕ) → ((n : ℕ) → Has numbers n → IsTrue (occurs (is_command n) (reverse history))) → map (stamp grown) numbers ≡ map (stamp plan) numbers
  same-each [] done = refl
  same-each (n ∷ ns) done =
      let here : stamp grown n ≡ stamp plan n = same-stamp n (done n (inl refl)) in
      let rest : map (stamp grown) ns ≡ map (stamp plan) ns = same-each ns (λ m has. done m (inr has)) in
      ap (λ s. s ∷ map (stamp grown) ns) here ∙ ap (λ l. stamp plan n ∷ l) rest

  -- the commands of the history have the same stamps
  pub same-stamps : map (stamp grown) (filter_map command_of history) ≡ map (stamp plan) (filter_map command_of history)
  same-stamps = same-each (filter_map command_of history) (λ n has.
      sym (list_any-IsPermutation (is_command n) history (reverse history) (IsPermutation-reverse history)) ∙ has-command history n has) where
        has-command : (events : List Event) (n : ℕ) → Has (filter_map command_of events) n → list_any (is_command n) events ≡ true
        has-command [] n has = absurd has
        has-command (event.Command m ∷ events) n (inl same) = or_left (is_command n (event.Command m)) (list_any (is_command n) events) (eq-eqb m n (sym same))
        has-command (event.Command m ∷ events) n (inr has) = or_right (is_command n (event.Command m)) (list_any (is_command n) events) (has-command events n has)
        has-command (event.Tick t ∷ events) n has = has-command events n has
        has-command (event.OpenSet s ∷ events) n has = has-command events n has
        has-command (event.Stage s k ∷ events) n has = has-command events n has
        has-command (event.CloseSet s o ∷ events) n has = has-command events n has
        has-command (event.LetOut r ∷ events) n has = has-command events n has
        has-command (event.Started r p ∷ events) n has = has-command events n has
        has-command (event.Ended r o x ∷ events) n has = has-command events n has
        has-command (event.Resume ∷ events) n has = has-command events n has
        has-command (event.Interrupt r ∷ events) n has = has-command events n has

-- ---- whose the journal is

-- a label of version 2 that names the one input names the other
may-grown : (plan grown : Plan) (digests others : Digests) (label : Option Label) (events : List Event) (stamps : List ℕ) → ((l : Label) → label ≡ Some l → l.version ≡ Two) → others.base ≡ digests.base
    → map (stamp grown) (filter_map command_of events) ≡ map (stamp plan) (filter_map command_of events) → MayBeOfInput plan digests label events stamps → MayBeOfInput grown others label events stamps
may-grown plan grown digests others None events stamps version base same own = tt
may-grown plan grown digests others (Some label) events stamps version base same own =
    let two : label.version ≡ Two = version label refl in
    let names = subst (λ (v : Version). NamesInput v plan digests label events stamps) two own in
    subst (λ (v : Version). NamesInput v grown others label events stamps) (sym two) (names.0 ∙ ap (λ (l : List ℕ). take 15 l) (sym base), same ∙ names.1)

-- the label of a journal that is begun
label-begun : (begun : Bool) (own l : Label) → (if begun then None else Some own) ≡ Some l → own ≡ l
label-begun true own l is = cc
label-begun _ own l is = cc

pub fit-grown : (plan grown : Plan) (digests others : Digests) (image texts : List ℕ) → version_in image ≡ Two → others.base ≡ digests.base → AreOfTheirScripts plan grown
    → Grows plan grown (events_of image) → LawfulSoFar grown (events_of image) → IsFit plan digests image texts → IsFit grown others image texts
fit-grown plan grown digests others image texts version base own grows lawful fit = record {
  own = record {
    opens = fit.own.opens;
    own = may-grown plan grown digests others (label_of image) (events_of image) _
        (λ l is. sym (ap (λ (x : Label). x.version) (label-begun (is_not_begun image) (label_in image) l is)) ∙ version) base
        (same-stamps plan grown (events_of image) grows fit.good.so_far own) fit.own.own;
  };
  good = record { whole = fit.good.whole; so_far = lawful; within = fit.good.within };
}
