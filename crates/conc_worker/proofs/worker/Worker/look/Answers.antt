use Rattle.std.proofs.Common.{◌<◌, ◌+◌, ◌%◌, length, arith}
use Rattle.conc_worker.proofs.PlacesHad.{has_at}
use Rattle.conc_worker.proofs.worker.Worker.look.Goals as goal

pub claim_at-requires-clause-place : goal.claim_at-requires-clause-place
claim_at-requires-clause-place g c =
    let places = c.args.self.now.places.now in
    let within : (c.args.first + c.loop-offset.offset) % length places < length places = omega arith in
    has_at places _ _ within
