-- The premises can be met: a plan with a set is steady.
use Rattle.std.proofs.Common.{◌≡◌, true, false, not, ◌||◌, [], ◌∷◌, map, refl, sym, ◌∙◌, ap, subst, inl, inr}
use Rattle.std.specs.Prelude.{codes}
use Rattle.std.specs.List.{list_all}
use Rattle.std.proofs.lemmas.Bool.{not-true}
use Rattle.conc_types.specs.declared.item.Item.TheVariants as item
use Rattle.conc_types.specs.declared.item.Reach.TheVariants as reach
use Rattle.conc_types.specs.declared.item.Scope.TheVariants as scope
use Rattle.conc_types.specs.declared.manager.Manager.{Manager}
use Rattle.conc_types.specs.declared.plan.Plan.{Plan}
use Rattle.conc_types.specs.declared.plan.Req.{Req}
use Rattle.conc_types.specs.declared.script.Reading.{Reading}
use Rattle.conc_types.specs.declared.setup.Setup.{Setup}
use Rattle.conc_base_law.specs.Plans.{are_exclusive}
use Rattle.conc_base_law.specs.Words.{Has, is_set}
use Rattle.conc_base_examples.proofs.Plans.{entry, nine, once, one_stage, plain_manager, plan, program, setup, submit, texts}
use Rattle.conc_base_examples.proofs.Computed.{the_law}
use Rattle.conc_base_law.specs.Steady.{HasUsablePlace, Steady}
use Rattle.conc_base_law.proofs.Lists.{all-has}

-- two members of one stage, which are incompatible with each other
abbrev within_setup : Setup
within_setup =
    setup
    (program (codes "Q") ∷ program (codes "R") ∷ [])
    (entry (item.Program 0) (item.Program 1) scope.Program reach.Domain ∷ [])
    (plain_manager ∷ [])
    (one_stage (codes "S") (0 ∷ 1 ∷ []) refl ∷ [])
    refl

abbrev within : Plan
unfolding texts
within = plan within_setup (submit nine (item.Set 0) ∷ []) refl

-- no request excludes the request of a set
apart : list_all (λ r. list_all (λ set. not (is_set set.item) || not (are_exclusive within r set)) within.requests) within.requests ≡ true
unfolding the_law
apart = refl

-- its members exclude each other
members_exclude : map (λ r. map (are_exclusive within r) within.requests) within.requests
    ≡ (false ∷ false ∷ false ∷ []) ∷ (false ∷ false ∷ true ∷ []) ∷ (false ∷ true ∷ false ∷ []) ∷ []
unfolding the_law
members_exclude = refl

-- its manager has a place
usable : HasUsablePlace within plain_manager nine
unfolding the_law
usable = record { place = record { index = 0 }; element = inl refl; found = record { owner = 1; manager = plain_manager; number = 1 }; here = refl; owner = refl; usable = refl }

-- the plan is steady
within_is_steady : Steady within (once nine)
unfolding within
within_is_steady = record {
  submissions = refl;
  usable = λ manager q m k. by manager q m k;
  sets_apart = λ r set hr hs item. by_test r set item (all-has (λ set. not (is_set set.item) || not (are_exclusive within r set)) within.requests set
      (all-has (λ r. list_all (λ set. not (is_set set.item) || not (are_exclusive within r set)) within.requests) within.requests r apart hr) hs);
} where
  by : (manager : Manager) (q : Reading) → Has within.setup.managers manager → Has (once nine) q → HasUsablePlace within manager q.moment
  by manager q (inl m) (inl k) = subst (λ z. HasUsablePlace within z q.moment) (sym m) (subst (λ z. HasUsablePlace within plain_manager z.moment) (sym k) usable)
  by manager q (inr m) k = absurd m
  by manager q (inl m) (inr k) = absurd k

  by_test : (r set : Req) → is_set set.item ≡ true → (not (is_set set.item) || not (are_exclusive within r set)) ≡ true → are_exclusive within r set ≡ false
  by_test r set item h = not-true _ (sym (ap (λ b. not b || not (are_exclusive within r set)) item) ∙ h)
