-- The spool's disk of a whole run.
use Rattle.std.proofs.Common.{◌≡◌, ◌⊎◌, inl, inr, ℕ, ◌≤◌, take, List, Option, None, Some, IfSome, IsSomeAnd, MatchOption, sym, ◌∙◌, ap, subst, arith}
use Rattle.std.proofs.lemmas.List.{take-take}
use Rattle.conc_disk.specs.Disk.{DiskState, SeenFollows, Stays}
use Rattle.conc_disk.specs.Left.{EachImage, LeavesOnly}
use Rattle.conc_disk.proofs.Leaving.{if_some-any, leaves-twice, leaves-wider}
use Rattle.conc_journal_spool.specs.Spools.{Agrees, KeepsBelow}

-- what it may have left before, or an image with so many of its bytes
abbrev pub Keeps : DiskState → ℕ → List ℕ → Type 0
Keeps before n image = before.may_leave image ⊎ KeepsBelow n before image

-- the beginning of a life, which writes nothing here, and then the run
pub spool-left : (n : ℕ) (before mid after : DiskState) → Stays before mid → LeavesOnly before.may_leave before mid → LeavesOnly (KeepsBelow n mid) mid after → LeavesOnly (Keeps before n) before after
spool-left n before mid after stays opened ran =
    leaves-twice (Keeps before n) before mid after
    (leaves-wider before.may_leave (Keeps before n) before mid opened (if_some-any before.seen (λ bytes image is. inl is)))
    (leaves-wider (KeepsBelow n mid) (Keeps before n) mid after ran
    (if_some-any mid.seen (λ bytes image is. inr (subst (λ (s : Option (List ℕ)). IfSome s (λ b. Agrees n b image)) stays.seen is))))

-- one that agrees in more bytes
agrees-fewer : (n m : ℕ) (bytes image : List ℕ) → n ≤ m → Agrees m bytes image → Agrees n bytes image
agrees-fewer n m bytes image fewer is = record {
  no_shorter = omega (arith, is.no_shorter);
  front = sym (take-take n m image fewer) ∙ ap (λ (l : List ℕ). take n l) is.front ∙ take-take n m bytes fewer;
}

-- each image now has the bytes that were there
pub spool-now : (n m : ℕ) (before mid after : DiskState) → n ≤ m → Stays before mid → SeenFollows (Agrees n) mid after → IfSome after.seen (λ bytes. (image : List ℕ) → after.may_leave image → Agrees m bytes image)
    → EachImage (KeepsBelow n before) after
spool-now n m before mid after fewer stays follows on =
    go before.seen after.seen (subst (λ (s : Option (List ℕ)). MatchOption s (after.seen ≡ None) (λ x. IsSomeAnd after.seen (λ y. Agrees n x y))) stays.seen follows) on
  where
    go : (old new : Option (List ℕ)) → MatchOption old (new ≡ None) (λ x. IsSomeAnd new (λ y. Agrees n x y)) → IfSome new (λ y. (image : List ℕ) → after.may_leave image → Agrees m y image)
        → IfSome new (λ y. (image : List ℕ) → after.may_leave image → IfSome old (λ x. Agrees n x image))
    go old None follows on = tt
    go None (Some y) follows on = λ image left. tt
    go (Some x) (Some y) follows on = λ image left.
        let is = agrees-fewer n m y image fewer (on image left) in
        record { no_shorter = is.no_shorter; front = is.front ∙ follows.front }
