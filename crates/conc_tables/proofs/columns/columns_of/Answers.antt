use Rattle.std.proofs.Common.{rules, ap, ◌≡◌, ◌∙◌, ◌++◌, Bor, List, ℕ, [], ◌∷◌}
use Rattle.csv.specs.Records.{Row}
use Rattle.conc_tables.proofs.Fields.{pushed, pushed-all}
use Rattle.conc_tables.proofs.columns.columns_of.Goals as goal

pub loop-name-preserved : goal.loop-name-preserved
loop-name-preserved c =
    let (here, some) = c.loop-name.invariant in
    let (row, field, at) = c.in-Some.ensures.steps in
    let copied : c.from_vec.result ≡ c.in-Some.name.now = search rules in
    let longer = c.in_ok-push.ensures.items ∙ ap (λ (name : List ℕ). c.loop-name.columns.items ++ (name ∷ [])) copied in (
      ap (λ (b : Bor Row). b.now) row ∙ here,
      pushed _ _ [] _ _ _ _ _ here field at some longer,
    )

pub returns : goal.returns
returns c =
    let (here, some) = c.loop-name.invariant in
    c.from_vec-2.ensures ∙ pushed-all _ _ [] _ _ here c.in-None.ensures.steps.1 some
