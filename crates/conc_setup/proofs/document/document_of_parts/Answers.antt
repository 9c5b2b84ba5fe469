use Rattle.conc_data_fields.proofs.Proven.{proven-pass}
use Rattle.conc_setup.proofs.document.document_of_parts.Goals as goal

pub returns-then-places_in_all-le64 : goal.returns-then-places_in_all-le64
returns-then-places_in_all-le64 c = proven-pass _ (λ few. record { tables = c.args.tables; programs = c.args.programs; entries = c.args.entries; managers = c.args.managers; sets = c.args.sets; few_places = few }) _ _
