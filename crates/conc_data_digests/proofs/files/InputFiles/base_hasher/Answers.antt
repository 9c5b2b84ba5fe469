use Rattle.std.proofs.Common.{[], ap, subst}
use Rattle.std.specs.Prelude.{map}
use Rattle.sha2.specs.Hashers.{Holds256}
use Rattle.conc_data_digests.specs.Files.{named_bytes, tables_of}
use Rattle.conc_data_digests.specs.Inputs.{framed}
use Rattle.conc_data_digests.proofs.Messages.{base_message_of}
use Rattle.conc_data_digests.proofs.files.InputFiles.base_hasher.Goals as goal

pub returns : goal.returns
returns c =
    let files = c.args.self.now in
    subst (Holds256 c.with_tables.result)
    (base_message_of files.setup.items c.deref.result.now (tables_of files) (map named_bytes c.deref-2.result.now) c.deref.ensures.value (ap (map named_bytes) c.deref-2.ensures.value))
    (c.with_tables.ensures (framed c.deref.result.now) (c.add_framed.ensures [] c.new-hasher.ensures))
