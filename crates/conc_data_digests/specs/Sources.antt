-- The digests that are made, or made of files.
use Rattle.conc_types.specs.declared.digests.Digests.{Digests}
use Rattle.conc_data_digests.specs.Files.{digests_of_files}
use Rattle.conc_data_digests.specs.declared.digests.Source.{Source}
use Rattle.conc_data_digests.specs.declared.digests.Source.TheVariants.{Files, Made}

abbrev pub digests_of : Source → Digests
digests_of (Made digests) = digests
digests_of (Files files) = digests_of_files files
