-- A plan whose script has grown.
use Rattle.std.specs.Prelude.{◌≡◌}
use Rattle.conc_types.specs.declared.plan.Plan.{Plan}
use Rattle.conc_data_digests.specs.Stamps.{stamps_of}

-- the stamps of each of the two plans are those of its script's commands
pub record AreOfTheirScripts (plan grown : Plan) : Type 0 where
  pub first : plan.stamps ≡ stamps_of plan.script.commands
  pub second : grown.stamps ≡ stamps_of grown.script.commands
