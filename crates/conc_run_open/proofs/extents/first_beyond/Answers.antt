use Rattle.std.proofs.Common.{◌≡◌, ◌+◌, ◌-◌, ◌≤◌, ℕ, Some, refl, sym, subst, arith}
use Rattle.std.specs.Prelude.{slice_get}
use Rattle.std.proofs.lemmas.Option.{slice_get_read}
use Rattle.conc_run_open.proofs.Counting.{front, front-more, front-none}
use Rattle.conc_run_open.proofs.extents.first_beyond.Goals as goal

pub loop-place-init : goal.loop-place-init
loop-place-init c = omega (arith, front-none c.args.events.now)

pub loop-place-preserved : goal.loop-place-preserved
loop-place-preserved c =
    let there : slice_get c.args.events.now c.loop-place.place ≡ Some c.index-events-place.result =
    slice_get_read c.args.events.now _ c.loop-place.place c.index-events-place.result refl c.loop-place-test.true c.index-events-place.is in
    omega (arith, front-more c.loop-place.place c.args.events.now c.index-events-place.result there, c.extent_bytes.ensures, c.in-Some.ensures, c.loop-place.invariant)

pub returns-in-None : goal.returns-in-None
returns-in-None c =
    let events = c.args.events.now in
    let n = c.loop-place.place in
    let there : slice_get events n ≡ Some c.index-events-place.result =
    slice_get_read events _ n c.index-events-place.result refl c.loop-place-test.true c.index-events-place.is in
    let at : n + 1 - 1 ≡ n = omega arith in
    record {
      some = omega arith;
      before = subst (λ (k : ℕ). front k events ≤ c.args.len) (sym at) (omega (arith, c.loop-place.invariant));
      beyond = omega (arith, front-more n events c.index-events-place.result there, c.extent_bytes.ensures, c.in-None.ensures, c.loop-place.invariant);
    }
