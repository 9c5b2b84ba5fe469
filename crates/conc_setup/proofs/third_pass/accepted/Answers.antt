use Rattle.conc_setup.proofs.Kept.{few_numbers, named, references}
use Rattle.conc_setup.proofs.third_pass.accepted.Goals as goal

pub setup_with-requires : goal.setup_with-requires
setup_with-requires c =
    rw (c.in_ok-entries.ensures, c.in_ok-managers.ensures, c.in_ok-sets.ensures, c.requires.entries, c.requires.managers, c.requires.sets) (record {
      few = few_numbers c.args.raw c.requires.few c.requires.known;
      named = named c.args.raw c.requires.few c.requires.named c.requires.known;
      references = references c.args.raw c.requires.few c.requires.known;
    })
