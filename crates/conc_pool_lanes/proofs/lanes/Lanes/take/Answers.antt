use Rattle.std.proofs.Common.{get_or, sym, subst, arith}
use Rattle.conc_pool_lanes.specs.Lane.{IsTakerOf}
use Rattle.conc_pool_lanes.proofs.Passes.{takers-at, takers-length, takers-set, takes-more}
use Rattle.conc_pool_lanes.proofs.lanes.Lanes.take.Goals as goal

pub index_mut-requires : goal.index_mut-requires
index_mut-requires g c =
    omega (arith, c.requires.manager, c.args.self.now.each, takers-length c.args.self.now.lanes.items c.args.pass.now.takers.items c.requires.pass)

pub take-requires : goal.take-requires
take-requires g c =
    let lanes = c.args.self.now.lanes.items in
    let takers = c.args.pass.now.takers.items in
    record {
      taker = subst (λ l. IsTakerOf l c.index_mut.result.now) (sym c.index.ensures)
          (subst (IsTakerOf (get_or lanes c.args.manager c.index.result.now)) (sym c.index_mut.ensures.value)
          (takers-at lanes takers c.args.manager c.index.result.now c.index_mut.result.now c.requires.pass (omega (arith, c.requires.manager, c.args.self.now.each))));
    }

pub returns-clause-pass : goal.returns-clause-pass
returns-clause-pass g c =
    takers-set c.args.self.now.lanes.items c.args.pass.now.takers.items c.args.manager c.index.result.now c.take.new.taker c.requires.pass
    (subst (λ l. IsTakerOf l c.take.new.taker) c.index.ensures c.take.ensures.taker)

pub returns-clause-taken : goal.returns-clause-taken
returns-clause-taken g c =
    let lanes = c.args.self.now.lanes.items in
    let takers = c.args.pass.now.takers.items in
    takes-more takers c.args.manager c.index_mut.result.now c.take.new.taker c.take.result
    (omega (arith, c.requires.manager, c.args.self.now.each, takers-length lanes takers c.requires.pass))
    c.index_mut.ensures.value c.take.ensures.taken c.take.ensures.none
