use Rattle.std.proofs.Common.{◌∙◌, arith}
use Rattle.conc_types.specs.declared.event.RequestId.{RequestId}
use Rattle.conc_test_board.proofs.Rules.{two_requests}
use Rattle.conc_test_board.proofs.tests.board.take_turns.Goals as goal

abbrev one : RequestId
one = record { number = 1 }

abbrev two : RequestId
two = record { number = 2 }

abbrev three : RequestId
three = record { number = 3 }

abbrev four : RequestId
four = record { number = 4 }

pub claim_is_withdrawn-requires-clause-lead_state : goal.claim_is_withdrawn-requires-clause-lead_state
claim_is_withdrawn-requires-clause-lead_state g c = c.requires.lead_states one

pub stop_comes_before_the_post-requires-clause-lead_state : goal.stop_comes_before_the_post-requires-clause-lead_state
stop_comes_before_the_post-requires-clause-lead_state g c = c.claim_is_withdrawn.ensures.lead.others two (two_requests two one (λ e. omega arith)) ∙ c.requires.lead_states two

pub stop_comes_after_the_post-requires-clause-lead_state : goal.stop_comes_after_the_post-requires-clause-lead_state
stop_comes_after_the_post-requires-clause-lead_state g c = c.stop_comes_before_the_post.ensures.lead.others four (two_requests four two (λ e. omega arith))
    ∙ (c.claim_is_withdrawn.ensures.lead.others four (two_requests four one (λ e. omega arith)) ∙ c.requires.lead_states four)

pub place_is_closed-requires-clause-lead_state : goal.place_is_closed-requires-clause-lead_state
place_is_closed-requires-clause-lead_state g c = c.in_ok-stop_comes_after_the_post.ensures.lead.others three (two_requests three four (λ e. omega arith))
    ∙ (c.stop_comes_before_the_post.ensures.lead.others three (two_requests three two (λ e. omega arith))
    ∙ (c.claim_is_withdrawn.ensures.lead.others three (two_requests three one (λ e. omega arith)) ∙ c.requires.lead_states three))

pub hints_are_followed-requires-clause-lead_state : goal.hints_are_followed-requires-clause-lead_state
hints_are_followed-requires-clause-lead_state g c = c.place_is_closed.ensures.lead.others one (two_requests one three (λ e. omega arith))
    ∙ (c.in_ok-stop_comes_after_the_post.ensures.lead.others one (two_requests one four (λ e. omega arith))
    ∙ (c.stop_comes_before_the_post.ensures.lead.others one (two_requests one two (λ e. omega arith))
    ∙ c.claim_is_withdrawn.ensures.lead_state))
