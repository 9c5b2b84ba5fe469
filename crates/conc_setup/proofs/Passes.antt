-- A file that one pass refuses is refused by all.
use Rattle.std.proofs.Common.{Result, Ok, Err}
use Rattle.std.specs.Result.{result_err}
use Rattle.conc_types.specs.declared.error.ReadFail.{ReadFail}
use Rattle.conc_types.specs.declared.error.ReadFail.TheVariants as fail
use Rattle.conc_types.specs.declared.refusal.Refusal.{Refusal}
use Rattle.conc_types.specs.declared.refusal.FileKind.{FileKind}
use Rattle.conc_types.specs.Faults.{Fault, IsFailure}
use Rattle.conc_setup.specs.Lines.{passed}

pub passed-fails : {A B : Type 0} (file : FileKind) (pass : A → Result B Fault) (x : Result A Fault) (e : ReadFail Refusal)
    → IsFailure file (result_err x) e → IsFailure file (result_err (passed pass x)) e
passed-fails file pass (Ok a) (fail.Refused refusal) (at, because) = absurd (cc)
passed-fails file pass (Err fault) (fail.Refused refusal) h = h
passed-fails file pass x fail.NoMemory h = tt
