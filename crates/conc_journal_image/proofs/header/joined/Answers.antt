use Rattle.std.proofs.Common.{◌≡◌, ℕ, List, ◌++◌, drop, length, replicate, refl, ap, ◌∙◌, arith}
use Rattle.std.proofs.lemmas.List.{append-nil, drop_all, drop_at, take_at}
use borrow.Rule.Slice.PartMut.{put_mid}
use Rattle.conc_journal_image.proofs.header.joined.Goals as goal

-- what is put behind the first 32 of 47
put-behind : (first second rest : List ℕ) → length first ≡ 32 → length rest ≡ 15 → put_mid 32 15 (first ++ rest) second ≡ first ++ second
put-behind first second rest long few =
    ap (λ xs. xs ++ (second ++ drop 15 (drop 32 (first ++ rest)))) (take_at first rest 32 long)
    ∙ ap (λ xs. first ++ (second ++ drop 15 xs)) (drop_at first rest 32 long)
    ∙ ap (λ xs. first ++ (second ++ xs)) (drop_all 15 rest (omega arith))
    ∙ ap (λ xs. first ++ xs) (append-nil second)

pub returns-clause-bytes : goal.returns-clause-bytes
returns-clause-bytes c =
    ap (λ xs. put_mid 32 15 (xs ++ replicate 15 0) c.copy_from_slice-2.new.self) c.copy_from_slice.ensures.after
    ∙ ap (λ xs. put_mid 32 15 (c.args.digest.now ++ replicate 15 0) xs) c.copy_from_slice-2.ensures.after
    ∙ put-behind c.args.digest.now c.args.base.now (replicate 15 0) c.told-digest refl
