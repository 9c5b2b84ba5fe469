use Rattle.std.proofs.Common.{◌≡◌, ◌∙◌, ap, arith, false, length, map, take}
use Rattle.std.proofs.lemmas.List.{take_all}
use Rattle.std.specs.List.{range_with_len}
use Rattle.conc_types.specs.declared.event.PlaceId.{PlaceId}
use Rattle.conc_types.specs.declared.manager.Manager.{Manager}
use Rattle.conc_base_law.specs.Places.{all_places, count_of_places}
use Rattle.conc_event_queue.specs.Least.{vacant}
use Rattle.conc_machine_starts.specs.Starts.{owner_of}
use Rattle.conc_machine_starts.proofs.NoStarts.{starts-none}
use Rattle.conc_machine_starts.proofs.Ranges.{places-all}
use Rattle.conc_machine_starts.proofs.starts.Starts.new.Goals as goal

pub returns : goal.returns
returns c =
    let managers : take c.loop-manager.manager-index c.args.plan.now.setup.managers ≡ c.args.plan.now.setup.managers =
    take_all c.loop-manager.manager-index c.args.plan.now.setup.managers (omega (arith, ap length c.as_slice-manager-items.ensures)) in
    let count : c.loop-index.index ≡ count_of_places c.args.plan.now = omega (arith, c.place_count-count.ensures.count) in
    let places : map (λ index. record { index = index }) (range_with_len 0 c.loop-index.index) ≡ all_places c.args.plan.now =
    places-all c.args.plan.now c.loop-index.index count in
    starts-none c.args.plan.now _
    (c.loop-manager.invariant ∙ ap (map (λ (manager : Manager). vacant (length c.args.plan.now.requests))) managers)
    (c.from_vec.ensures ∙ c.loop-index.invariant.owners ∙ ap (map (owner_of c.args.plan.now)) places)
    (c.from_vec-2.ensures ∙ c.loop-index.invariant.running ∙ ap (map (λ (place : PlaceId). 0)) places)
    (c.from_vec-3.ensures ∙ c.loop-index.invariant.usable ∙ ap (map (λ (place : PlaceId). false)) places)
