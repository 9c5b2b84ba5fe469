use Rattle.conc_setup.proofs.Goods.{accepted-few}
use Rattle.conc_setup.proofs.first_pass.accepted.Goals as goal

pub returns-clause-few : goal.returns-clause-few
returns-clause-few c = rw (c.in_ok-goods.ensures, c.in_ok-goods-2.ensures, c.in_ok-goods-3.ensures, c.in_ok-goods-4.ensures) (accepted-few c.args.document)
