use Rattle.std.proofs.Common.{◌≡◌, ◌∙◌, ◌++◌, ℕ, length, take, drop, sym, ap, subst, arith}
use Rattle.std.proofs.lemmas.List.{take-append-le, take_all}
use Rattle.conc_run_watch.specs.Looks.{HaveLooked}
use Rattle.conc_run_watch.proofs.crew.Watchers.watch.Goals as goal

pub returns : goal.returns
returns g c =
    let had = c.args.self.now.looks in
    let ws = had.items in
    let us = c.watch_all.new.looks in
    let same : HaveLooked ws us = subst (λ l. HaveLooked l us) c.as_mut_slice.ensures.value c.watch_all.ensures in
    let count : length us ≡ had.len = omega (arith, same.long, had.ok) in
    let front : us ≡ take had.len (us ++ drop (length us) ws) =
    sym (take_all (length us) us (omega arith)) ∙ (sym (take-append-le (length us) us (drop (length us) ws) (omega arith)) ∙ ap (λ (n : ℕ). take n (us ++ drop (length us) ws)) count) in
    subst (λ l. HaveLooked ws l) front same
