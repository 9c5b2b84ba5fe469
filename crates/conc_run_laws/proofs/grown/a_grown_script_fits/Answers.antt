use Rattle.conc_journal.specs.Opens.{events_of}
use Rattle.conc_run_laws.proofs.Growing.{fit-grown}
use Rattle.conc_run_laws.proofs.grown.a_grown_script_fits.Goals as goal

pub returns : goal.returns
returns c plan grown digests others image texts version base own grows fit =
    fit-grown plan grown digests others image texts version base own grows
    (c.grown_list_is_lawful.ensures.lawful plan grown (events_of image) grows fit.good.so_far) fit
