use Rattle.std.proofs.Common.{◌∙◌, ◌++◌, List, ap, arith}
use Rattle.conc_types.specs.declared.event.PlaceId.{PlaceId}
use Rattle.conc_pool_seats.specs.Places.{has}
use Rattle.conc_board.specs.Seats.{places_of_hand, places_of_lead}
use Rattle.conc_test_board.proofs.Rules.{three_have}
use Rattle.conc_test_board.proofs.tests.board.join_three.Goals as goal

pub returns-clause-places : goal.returns-clause-places
returns-clause-places c =
    let one = places_of_hand c.args.first in let two = places_of_hand c.args.second in let three = places_of_hand c.args.third in
    let all = c.join-3.ensures.places ∙ ap (λ (ps : List PlaceId). three ++ ps) (c.join-2.ensures.places ∙ ap (λ (ps : List PlaceId). two ++ ps) c.join.ensures.places) in
    record {
      each = λ p near. let within = near.within in ap (λ (ps : List PlaceId). has ps p) all
          ∙ three_have one two three (places_of_lead c.args.lead.now) c.requires.first.own c.requires.second.own c.requires.third.own p (omega (arith, c.requires.three));
    }
