use Rattle.std.proofs.Common.{None, reverse}
use Rattle.conc_types.specs.declared.event.Event.TheVariants as event
use Rattle.conc_base_law.specs.State.{state}
use Rattle.conc_base_law.proofs.Comes.{start_comes}
use Rattle.conc_base_law.proofs.Coming.{last-follows, start-admitted}
use Rattle.conc_base_law.proofs.promises.starts_are_admitted.Goals as goal

pub returns : goal.returns
returns c = λ plan before r place has h.
    start-admitted plan (state plan (reverse before)) r place (start_comes plan None (reverse before) r place has (last-follows plan before (event.Started r.number place) h))
