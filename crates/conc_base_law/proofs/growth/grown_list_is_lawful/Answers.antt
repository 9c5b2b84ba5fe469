use Rattle.conc_base_law.proofs.Grown.{lawful_grown}
use Rattle.conc_base_law.proofs.Named.{reported_same}
use Rattle.conc_base_law.proofs.growth.grown_list_is_lawful.Goals as goal

pub returns : goal.returns
returns c = record {
  lawful = lawful_grown;
  reported = λ plan grown history n g lawful told i id o x from at. (reported_same plan grown history i id o x g lawful at (told i id o x from at)).0;
  same_reports = reported_same;
}
