-- Lists that begin with other lists.
use Rattle.std.proofs.Common.{List, [], ◌∷◌, ◌++◌, refl, sym, ◌∙◌, ap, append_assoc, append-nil}
use Rattle.conc_types.specs.declared.event.Event.{Event}
use Rattle.conc_types.specs.declared.event.Event.TheVariants as event
use Rattle.conc_base_law.specs.Alone.{opening}
use Rattle.conc_run_state.specs.Lists.{IsPrefix}

pub prefix-self : (list : List Event) → IsPrefix list list
prefix-self list = ([], sym (append-nil list))

pub prefix-twice : (a b c : List Event) → IsPrefix a b → IsPrefix b c → IsPrefix a c
prefix-twice a b c first second = (first.0 ++ second.0, second.1 ∙ ap (λ (l : List Event). l ++ second.0) first.1 ∙ append_assoc a first.0 second.0)

-- a life begins with the events found
pub prefix-opening : (found : List Event) → IsPrefix found (opening found)
prefix-opening [] = ([], refl)
prefix-opening (e ∷ es) = (event.Resume ∷ [], refl)
