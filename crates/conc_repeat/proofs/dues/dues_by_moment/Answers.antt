use Rattle.std.proofs.Common.{◌<◌, length, rules}
use Rattle.std.proofs.lemmas.List.Sorted.{All-permutation, answers_always, IsNonDecreasingBy-from_sort_by_key}
use Rattle.conc_repeat.specs.declared.dues.Due.{Due}
use Rattle.conc_repeat.specs.Script.{seconds}
use Rattle.conc_repeat.proofs.Ordering.{by_moment}
use Rattle.conc_repeat.proofs.dues.dues_by_moment.Goals as goal

pub returns-clause-by_moment : goal.returns-clause-by_moment
returns-clause-by_moment c =
    by_moment _ _ _ c.in_ok-dues.ensures.list c.in_ok-sort_by_key.ensures.permutation
    (IsNonDecreasingBy-from_sort_by_key seconds _ c.in_ok-sort_by_key.ensures.sorted (λ a r q k. search rules))
    (c.in_ok-sort_by_key.ensures.stable seconds (answers_always _ _ _ (λ f a r g h. search rules)))

pub returns-clause-known : goal.returns-clause-known
returns-clause-known c = All-permutation (λ (due : Due). due.series < length c.args.all.now) _ _ c.in_ok-sort_by_key.ensures.permutation c.in_ok-dues.ensures.known
