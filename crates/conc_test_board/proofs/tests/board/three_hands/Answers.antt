use Rattle.std.proofs.Common.{◌∙◌, ◌∷◌, [], List, ap, arith, refl}
use Rattle.conc_types.specs.declared.event.PlaceId.{PlaceId}
use Rattle.conc_pool_seats.specs.Places.{has}
use Rattle.conc_board.specs.Seats.{places_of_lead}
use Rattle.conc_test_board.proofs.Rules.{has_without}
use Rattle.conc_test_board.proofs.tests.board.three_hands.Goals as goal

pub hand_at-second-requires-clause-own : goal.hand_at-second-requires-clause-own
hand_at-second-requires-clause-own c =
    let zero : PlaceId = record { index = 0 } in let one : PlaceId = record { index = 1 } in
    ap (λ (ps : List PlaceId). has ps one) c.hand_at-first.ensures.passed.left
    ∙ has_without (places_of_lead c.args.lead.now) (zero ∷ []) one (c.requires.places.each one (record { within = omega (arith, c.requires.three) })) refl

pub hand_at-third-requires-clause-own : goal.hand_at-third-requires-clause-own
hand_at-third-requires-clause-own c =
    let zero : PlaceId = record { index = 0 } in let one : PlaceId = record { index = 1 } in let two : PlaceId = record { index = 2 } in
    ap (λ (ps : List PlaceId). has ps two) c.hand_at-second.ensures.passed.left
    ∙ has_without (places_of_lead c.hand_at-first.new.lead) (one ∷ []) two
    (ap (λ (ps : List PlaceId). has ps two) c.hand_at-first.ensures.passed.left
    ∙ has_without (places_of_lead c.args.lead.now) (zero ∷ []) two (c.requires.places.each two (record { within = omega (arith, c.requires.three) })) refl) refl
