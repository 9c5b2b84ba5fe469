-- Exit statuses, and the lines on standard error.
use Rattle.std.specs.Prelude.{ℕ, List, [], ◌++◌, codes}
use Rattle.std.specs.Fmt.{decimal}
use Rattle.hex.specs.Hex.{encode_lower}
use Rattle.conc_types.specs.RefusalKinds.{number_of as kind_number}
use Rattle.conc_run_state.specs.declared.error.DiskName.TheVariants as disk_name
use Rattle.conc_top.specs.declared.exit.Exit.{Exit}
use Rattle.conc_top.specs.declared.exit.Exit.TheVariants as exit

abbrev pub number_of : Exit → ℕ
number_of exit.Done = 0
number_of exit.Usage = 2
number_of (exit.Refused refusal name) = 3
number_of (exit.Absent name) = 4
number_of (exit.ReadFault name) = 5
number_of exit.WriteFault = 6
number_of (exit.DiskFault disk) = 7
number_of exit.ClockFault = 8
number_of exit.NotJournal = 9
number_of (exit.OtherInput found given) = 10
number_of (exit.JournalFull len needed) = 11
number_of exit.NoMemory = 12
number_of (exit.Unlawful number) = 13
number_of (exit.NotLawful line) = 14
number_of (exit.NotEnded number) = 15
number_of (exit.OtherScript command found given) = 16

-- the line that tells an exit; none where the command is done
abbrev pub line_of : Exit → List ℕ
line_of exit.Done = []
line_of exit.Usage = codes "usage: conc run|plan|check|status|output|make\n"
line_of (exit.Refused refusal name) =
    codes "refused: " ++ name ++ codes ": " ++ decimal refusal.line ++ codes ": " ++ decimal (kind_number refusal.kind) ++ codes "\n"
line_of (exit.Absent name) = codes "absent: " ++ name ++ codes "\n"
line_of (exit.ReadFault name) = codes "read fault: " ++ name ++ codes "\n"
line_of exit.WriteFault = codes "write fault\n"
line_of (exit.DiskFault disk_name.Journal) = codes "disk fault: journal\n"
line_of (exit.DiskFault disk_name.Spool) = codes "disk fault: spool\n"
line_of exit.ClockFault = codes "clock fault\n"
line_of exit.NotJournal = codes "not a journal\n"
line_of (exit.OtherInput found given) =
    codes "other input: " ++ encode_lower found ++ codes " " ++ encode_lower given ++ codes "\n"
line_of (exit.JournalFull len needed) =
    codes "journal full: " ++ decimal len ++ codes " " ++ decimal needed ++ codes "\n"
line_of exit.NoMemory = codes "no memory\n"
line_of (exit.Unlawful number) = codes "unlawful record: " ++ decimal number ++ codes "\n"
line_of (exit.NotLawful line) = codes "not lawful: " ++ decimal line ++ codes "\n"
line_of (exit.NotEnded number) = codes "not ended: " ++ decimal number ++ codes "\n"
line_of (exit.OtherScript command found given) = codes "other script: " ++ decimal command ++ codes "\n"
