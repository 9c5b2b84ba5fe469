use Rattle.std.proofs.Common.{refl}
use Rattle.std.proofs.lemmas.Bool.{and_from}
use Rattle.std.proofs.lemmas.Result.{err_from_is_err_and}
use Rattle.conc_data_fields.proofs.Combined.{judged-fails}
use Rattle.conc_setup.specs.ThirdPass.{resolved_stage}
use Rattle.conc_setup.proofs.Looked.{looked-read, parts-read, stage-resolved}
use Rattle.conc_setup.proofs.set.resolve_stage.Goals as goal

pub returns-in_err-success : goal.returns-in_err-success
unfolding resolved_stage
returns-in_err-success c =
    let members = rw c.as_slice.ensures at c.resolve_good-members.ensures.value in
    let read =
    looked-read c.args.items.now.programs.now c.args.stages.now c.args.at c.args.stage.now c.link_if_named-success.result c.link_if_named-warning.result c.link_if_named-error.result c.resolve_good-members.result
    c.link_if_named-success.ensures.value c.link_if_named-warning.ensures.value c.link_if_named-error.ensures.value members in
    let fails = err_from_is_err_and c.from_residual.result c.from_residual.ensures.1 in
    rw (fails.1, fails.2) (judged-fails _ _ _ (rw (← c.both.ensures, ← c.both-2.ensures, ← c.both-parts.ensures, c.in_err-success.was) at read))

pub stage_with-requires-clause-near : goal.stage_with-requires-clause-near
stage_with-requires-clause-near c =
    let right = parts-read c.link_if_named-success.result c.link_if_named-warning.result c.link_if_named-error.result c.resolve_good-members.result
    (c.in_ok-success.success, (c.in_ok-success.warning, (c.in_ok-success.error, c.in_ok-success.members))) (rw (c.both-parts.ensures, c.both-2.ensures, c.both.ensures) at c.in_ok-success.was) in
    and_from _ _ (rw right.0 at c.link_if_named-success.ensures.near)
    (and_from _ _ (rw right.1 at c.link_if_named-warning.ensures.near) (and_from _ _ (rw right.2 at c.link_if_named-error.ensures.near) refl))

pub returns : goal.returns
returns c =
    let members = rw c.as_slice.ensures at c.resolve_good-members.ensures.value in
    let read =
    looked-read c.args.items.now.programs.now c.args.stages.now c.args.at c.args.stage.now c.link_if_named-success.result c.link_if_named-warning.result c.link_if_named-error.result c.resolve_good-members.result
    c.link_if_named-success.ensures.value c.link_if_named-warning.ensures.value c.link_if_named-error.ensures.value members in
    stage-resolved c.args.items.now.programs.now c.args.stages.now c.args.at c.args.stage.now
    (c.in_ok-success.success, (c.in_ok-success.warning, (c.in_ok-success.error, c.in_ok-success.members))) _
    (rw (← c.both.ensures, ← c.both-2.ensures, ← c.both-parts.ensures, c.in_ok-success.was) at read) c.in_ok-stage_with.ensures
