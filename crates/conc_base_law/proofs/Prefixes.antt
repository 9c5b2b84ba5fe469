-- What holds of a lawful history holds of what it begins with.
use Rattle.std.proofs.Common.{◌≡◌, true, List, [], ◌∷◌, ◌++◌, reverse, sym, ◌∙◌, ap}
use Rattle.std.proofs.lemmas.Bool.{and_parts}
use Rattle.std.proofs.lemmas.List.{reverse-append}
use Rattle.conc_types.specs.declared.event.Event.{Event}
use Rattle.conc_types.specs.declared.plan.Plan.{Plan}
use Rattle.conc_base_law.specs.Law.{is_lawful_so_far}

-- the events before any of those of a lawful list are lawful
pub is_lawful_so_far-after : (plan : Plan) (later past : List Event) → is_lawful_so_far plan (later ++ past) ≡ true → is_lawful_so_far plan past ≡ true
unfolding is_lawful_so_far
is_lawful_so_far-after plan [] past h = h
is_lawful_so_far-after plan (e ∷ later) past h = is_lawful_so_far-after plan later past (and_parts (is_lawful_so_far plan (later ++ past)) _ h).0

-- what a lawful history begins with is lawful
pub is_lawful_so_far-prefix : (plan : Plan) (before after : List Event) → is_lawful_so_far plan (reverse (before ++ after)) ≡ true → is_lawful_so_far plan (reverse before) ≡ true
is_lawful_so_far-prefix plan before after h =
    is_lawful_so_far-after plan (reverse after) (reverse before) (ap (is_lawful_so_far plan) (sym (reverse-append before after)) ∙ h)
