use Rattle.std.proofs.Common.{◌∙◌, sym, Bor, List, ℕ, refl}
use Rattle.csv.specs.Records.{fields_of}
use Rattle.conc_data_records.proofs.Steps.{found-some_field, left-found, left-none}
use Rattle.conc_data_records.proofs.records.Records.read.Goals as goal

pub returns-clause-some : goal.returns-clause-some
returns-clause-some c e =
    let (config, trim, ready, going, _flexible) = c.self.invariant c.if-self.false in
    let reads = rw e at (c.in-Ok.ensures.reads trim ready) in
    let found = left-found (λ (s : Bor (List ℕ)). s.now) c.self.inside.reader c.read_byte_record.new.self (fields_of c.read_byte_record.new.row) config going reads in
    rw e (sym c.self.view_is ∙ rw c.if-self.false found)

pub returns-clause-none : goal.returns-clause-none
returns-clause-none c e =
    let (config, trim, ready, going, _flexible) = c.self.invariant c.if-self.false in
    let reads = rw e at (c.in-Ok.ensures.reads trim ready) in
    let none = left-none (λ (s : Bor (List ℕ)). s.now) c.self.inside.reader c.read_byte_record.new.self (fields_of c.read_byte_record.new.row) config going reads in
    (sym c.self.view_is ∙ rw c.if-self.false none, rw e refl)

pub returns-clause-fields : goal.returns-clause-fields
returns-clause-fields c e =
    let (config, trim, ready, going, _flexible) = c.self.invariant c.if-self.false in
    let reads = rw e at (c.in-Ok.ensures.reads trim ready) in
    found-some_field (λ (s : Bor (List ℕ)). s.now) c.self.inside.reader c.read_byte_record.new.self (fields_of c.read_byte_record.new.row) config going reads
