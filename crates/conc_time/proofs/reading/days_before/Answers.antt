use Rattle.std.proofs.Common.{◌≡◌, false, refl, true}
use Rattle.conc_time.specs.Fields.{civil}
use Rattle.conc_time.proofs.Accepted.{few, read, refused}
use Rattle.conc_time.proofs.reading.days_before.Goals as goal

none_is : false ≡ true → ⊥
none_is h = cc

pub returns-in_default-clause-days : goal.returns-in_default-clause-days
returns-in_default-clause-days c =
    let n = c.args.numbers.now in
    rw (refused (civil n) n.year_digits n.month_digits n.day_digits (λ h. none_is (c.in_default.ensures.succeeds.1 h))) refl

pub returns-clause-days : goal.returns-clause-days
returns-clause-days c =
    let n = c.args.numbers.now in
    read (civil n) c.in-Ok.day _ n.year_digits n.month_digits n.day_digits c.in-Ok.ensures.value c.days_from_start.ensures

pub returns-clause-few : goal.returns-clause-few
returns-clause-few c = few (civil c.args.numbers.now) _ (returns-clause-days c)
