use Rattle.std.proofs.Common.{[], ◌∷◌, subst, true, ◌≡◌}
use Rattle.std.specs.Prelude.{reverse}
use Rattle.std.proofs.lemmas.List.{reverse-append}
use Rattle.conc_types.specs.declared.event.Event.TheVariants as event
use Rattle.conc_base_law.specs.Law.{is_lawful_so_far}
use Rattle.conc_base_posts.proofs.EndsNow.{tells-now}
use Rattle.conc_base_posts.proofs.standing.last_reports_stand.Goals as goal

pub returns : goal.returns
returns c = λ plan history id o x apart lawful.
    tells-now plan (reverse history) id o x apart (subst (λ past. is_lawful_so_far plan past ≡ true) (reverse-append history (event.Ended id o x ∷ [])) lawful)
