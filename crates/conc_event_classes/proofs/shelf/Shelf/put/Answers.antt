use Rattle.std.proofs.Common.{◌≡◌, ◌%◌, ◌<◌, length, Some, refl, ◌∙◌, arith}
use Rattle.std.specs.Prelude.{slice_get}
use Rattle.std.proofs.lemmas.List.{length-set}
use Rattle.std.proofs.lemmas.Option.{slice_get_read}
use Rattle.conc_event_classes.specs.Shelf.{bucket}
use Rattle.conc_event_classes.proofs.Putting.{put-step}
use Rattle.conc_event_classes.proofs.shelf.Shelf.put.Goals as goal

pub returns : goal.returns
unfolding bucket
returns c =
    let within : c.args.key % 1021 < length c.args.self.now.buckets.items = omega (arith, c.requires) in
    let here : slice_get c.args.self.now.buckets.items (c.args.key % 1021) ≡ Some c.index_mut-bucket.result.now =
    slice_get_read c.args.self.now.buckets.items _ (c.args.key % 1021) _ refl within c.index_mut-bucket.ensures.value in
    record {
      shelf = length-set c.args.self.now.buckets.items (c.args.key % 1021) c.push.new.self ∙ c.requires;
      buckets = λ k. put-step c.args.self.now.buckets.items (λ it. it.items) (k % 1021) (c.args.key % 1021) _ _ c.args.class within here c.in_ok-push.ensures.items;
    }
