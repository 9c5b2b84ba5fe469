-- Programs that meet at a table are kept apart by an entry, where the postings of a setup have no fault.
use Rattle.std.proofs.Common.{◌≡◌, ℕ, ◌+◌, ◌≤◌, true, false, not, ◌&&◌, List, None, Some, ◌∙◌, ap, subst, inl, inr, arith}
use Rattle.std.specs.Prelude.{nat_le, slice_get}
use Rattle.std.specs.List.{enumerate_from}
use Rattle.std.proofs.Math.Bool.{or_comm}
use Rattle.std.proofs.lemmas.Bool.{and_from, both_ways, cases_Bool, cases_lt, le-leb, not_from_false}
use Rattle.conc_types.specs.declared.item.Entry.{Entry}
use Rattle.conc_types.specs.declared.item.Item.TheVariants as item
use Rattle.conc_types.specs.declared.program.Program.{Program}
use Rattle.conc_types.specs.declared.setup.Setup.{Setup}
use Rattle.conc_types.specs.declared.table.Table.{Table}
use Rattle.conc_types.specs.Words.{some_and}
use Rattle.conc_base_law.specs.Exclusion.{is_global}
use Rattle.conc_base_law.specs.Words.{Has, item_eq}
use Rattle.conc_base_law.proofs.Lists.{any-has, get-has, none-has}
use Rattle.conc_base_law.proofs.Numbers.{enumerate-get}
use Rattle.conc_base_posts.specs.Targets.{are_kept_apart, clashes, meet, names_both, posts_fault, uses}
use Rattle.conc_base_posts.proofs.NoFault.{breaks_none}

-- whether two programs meet does not depend on their order
meet-comm : (a b : Program) → meet a b ≡ meet b a
unfolding meet
meet-comm a b = or_comm (some_and (λ table. uses table b) a.post) (some_and (λ table. uses table a) b.post)

-- nor does whether an entry names both
names_both-comm : (m n : ℕ) (entry : Entry) → names_both m n entry ≡ names_both n m entry
unfolding names_both
names_both-comm m n entry =
    ap (λ b. is_global entry.reach && b)
    (or_comm (item_eq entry.owner (item.Program m) && item_eq entry.other (item.Program n)) (item_eq entry.owner (item.Program n) && item_eq entry.other (item.Program m)))

-- two programs that meet, with the later one second, are kept apart
kept_in_order : (setup : Setup) (tables : List Table) (m n : ℕ) (a b : Program) → posts_fault setup tables ≡ None → slice_get setup.programs m ≡ Some a
    → slice_get setup.programs n ≡ Some b → meet a b ≡ true → m ≤ n → are_kept_apart setup m n ≡ true
kept_in_order setup tables m n a b none one other met order =
    let at : (i : ℕ) × (i ≡ 0 + m) × (slice_get (enumerate_from 0 setup.programs) m ≡ Some (i, a)) = enumerate-get 0 setup.programs m a one in
    let same : at.0 ≡ m = omega (arith, at.1) in
    let off : clashes setup n b (at.0, a) ≡ false =
    none-has (clashes setup n b) (enumerate_from 0 setup.programs) (at.0, a) (breaks_none setup tables n b none other).apart (get-has (enumerate_from 0 setup.programs) m (at.0, a) at.2) in
    let here : (nat_le m n && (meet a b && not (are_kept_apart setup m n))) ≡ false = subst (λ i. clashes setup n b (i, a) ≡ false) same off in
    elim (cases_Bool (are_kept_apart setup m n)) [
      | inl t ↦ t
      | inr f ↦ absurd (both_ways _ here (and_from _ _ (le-leb m n order) (and_from _ _ met (not_from_false _ f))))
    ]

-- an entry names the programs at both places
abbrev pub IsNamed : Setup → ℕ → ℕ → Type 0
IsNamed setup m n = (entry : Entry) × Has setup.entries entry × (names_both m n entry ≡ true)

-- two programs that meet are named by an entry
pub named : (setup : Setup) (tables : List Table) (m n : ℕ) (a b : Program) → posts_fault setup tables ≡ None → slice_get setup.programs m ≡ Some a
    → slice_get setup.programs n ≡ Some b → meet a b ≡ true → IsNamed setup m n
unfolding are_kept_apart
named setup tables m n a b none one other met = elim (cases_lt n m) [
  | inr order ↦ any-has (names_both m n) setup.entries (kept_in_order setup tables m n a b none one other met order)
  | inl order ↦
      let p : IsNamed setup n m =
      any-has (names_both n m) setup.entries (kept_in_order setup tables n m b a none other one (meet-comm b a ∙ met) (omega arith)) in
      (p.0, p.1, names_both-comm m n p.0 ∙ p.2)
]
