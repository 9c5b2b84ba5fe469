use Rattle.std.proofs.Common.{◌∙◌, arith, le_refl, length}
use Rattle.conc_data_fields.proofs.Least.{worst-more, worst-none}
use Rattle.conc_data_fields.proofs.lines.worst.Goals as goal

pub loop-place-init : goal.loop-place-init
loop-place-init g c = record { within = le_refl (length c.args.all.now); least = worst-none c.args.all.now }

pub loop-place-preserved : goal.loop-place-preserved
loop-place-preserved g c = record {
  within = omega (arith, c.loop-place.invariant.within);
  least =
      c.lesser-least.ensures
      ∙ worst-more c.args.all.now c.loop-place.place c.index-all-place.result c.loop-place.least (omega arith) (omega arith) c.index-all-place.is c.loop-place.invariant.least;
}
