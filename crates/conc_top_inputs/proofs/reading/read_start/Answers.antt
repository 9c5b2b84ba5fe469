use Rattle.std.proofs.Common.{refl, subst}
use Rattle.conc_types.specs.declared.refusal.FileKind.TheVariants as kind
use Rattle.conc_outside.specs.Files.{Gives}
use Rattle.conc_top_inputs.specs.Given.{named, sources}
use Rattle.conc_top_inputs.proofs.Acceptance.{no-start}
use Rattle.conc_top_inputs.proofs.FileFailing.{stops-at}
use Rattle.conc_top_inputs.proofs.reading.read_start.Goals as goal

pub returns-in_err-script_read-clause-answer : goal.returns-in_err-script_read-clause-answer
returns-in_err-script_read-clause-answer g c =
    let state = g.F.Shelf.state in
    let setup = rw c.in_ok-setup_read.ensures.ok at c.judge_setup.ensures.ok in
    let told = c.in_err-script_read.ensures.err in
    let ends = rw told.was at c.judge_script-judged.ensures.err in
    no-start (state c.args.shelf.now) (state c.judge_script-judged.new.shelf) c.args.setup.now c.args.script.now
    c.from_residual-in_err-script_read.result c.in_err-script_read.field-0.0 c.from_residual-in_err-script_read.ensures.1
    (λ before after clock. stops-at (sources (state c.args.shelf.now) before) (sources (state c.judge_script-judged.new.shelf) after) (state c.judge_setup.new.shelf)
    (named c.args.setup.now c.args.script.now clock) kind.Script c.args.script.now (
      record { bytes = c.in_ok-setup_read.setup_bytes.items; given = setup.0; setup = c.in_ok-setup_read.setup_read; spells = setup.1 },
      refl,
    )
    told.cause c.in_err-script_read.field-0.0 c.judge_setup.ensures.later ends told.told)

pub returns-clause-answer : goal.returns-clause-answer
returns-clause-answer g c =
    let setup = rw c.in_ok-setup_read.ensures.ok at c.judge_setup.ensures.ok in
    let script = rw c.in_ok-script_read.ensures.ok at c.judge_script-judged.ensures.ok in
    record {
      ok = λ clock. record {
        files = record {
          before = record { bytes = c.in_ok-setup_read.setup_bytes.items; given = setup.0; setup = c.in_ok-setup_read.setup_read; spells = setup.1 };
          bytes = c.in_ok-script_read.script_bytes.items;
          given = subst (λ t. Gives t c.args.script.now c.in_ok-script_read.script_bytes.items) c.judge_setup.ensures.later.files script.0;
          script = c.in_ok-script_read.script_read;
          spells = script.1;
        };
        setup = refl;
        script = refl;
        digest = c.new.ensures;
      };
      err = λ before after clock. tt;
    }
