use Rattle.std.proofs.Common.{[], ◌∷◌, ◌++◌, length, subst, sym, ap, ◌∙◌}
use Rattle.std.specs.Prelude.{codes, take}
use Rattle.std.proofs.lemmas.List.{append_assoc}
use Rattle.conc_journal_image.specs.Headers.{BeginsJournal, label_for}
use Rattle.conc_journal_image.proofs.Beginning.{begins}
use Rattle.conc_journal_image.proofs.header.header_of.Goals as goal

pub returns-clause-bytes : goal.returns-clause-bytes
returns-clause-bytes c =
    c.header_bytes.ensures
    ∙ ap (λ xs. codes "conc journal 1\n" ++ (xs ++ 1 ∷ 0 ∷ [])) c.joined.ensures.bytes
    ∙ ap (λ xs. codes "conc journal 1\n" ++ xs) (append_assoc c.args.digests.now.full c.base_of-base.result (1 ∷ 0 ∷ []))
    ∙ ap (λ xs. codes "conc journal 1\n" ++ (c.args.digests.now.full ++ (xs ++ 1 ∷ 0 ∷ []))) c.base_of-base.ensures

pub returns-clause-begins : goal.returns-clause-begins
returns-clause-begins c =
    subst
    (λ header. BeginsJournal (label_for c.args.digests.now) header)
    (sym (returns-clause-bytes c))
    (begins c.args.digests.now.full (take 15 c.args.digests.now.base) c.joined.ensures.long
    (ap length (sym c.base_of-base.ensures) ∙ c.joined.ensures.short))
