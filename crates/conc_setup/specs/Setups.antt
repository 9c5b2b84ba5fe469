-- What the bytes of a setup file say.
use Rattle.std.specs.Prelude.{ℕ, List, Option, Result}
use Rattle.std.specs.Result.{result_err}
use Rattle.conc_types.specs.declared.setup.Setup.{Setup}
use Rattle.conc_types.specs.Faults.{Fault}
use Rattle.conc_setup.specs.Documents.{document_in}
use Rattle.conc_setup.specs.FirstPass.{first_pass}
use Rattle.conc_setup.specs.Lines.{on_line, passed}
use Rattle.conc_setup.specs.SecondPass.{second_pass}
use Rattle.conc_setup.specs.ThirdPass.{third_pass}

-- the setup, or its first fault: what is wrong with the file as a whole is on line 0, and each pass comes
-- after the one before has found nothing
unfoldable pub setup_in : List ℕ → Result Setup Fault
setup_in bytes = passed third_pass (passed second_pass (passed first_pass (on_line 0 (document_in bytes))))

abbrev pub fault_in : List ℕ → Option Fault
fault_in bytes = result_err (setup_in bytes)
