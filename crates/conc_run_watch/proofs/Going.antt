-- A watcher that looks again and again.
use Rattle.std.proofs.Common.{◌≡◌, ◌<◌, ◌++◌, ◌∷◌, [], ℕ, List, get_or, refl, subst, sym, ◌∙◌, ap, append_assoc, arith, length}
use Rattle.std.proofs.lemmas.List.{append-nil}
use Rattle.std.proofs.lemmas.List.Elements.{All-push}
use mathlib.Core.List.{IsPrefix}
use Rattle.conc_view.specs.declared.naming.Naming.{Ghosts}
use Rattle.conc_types.specs.declared.plan.Plan.{Plan}
use Rattle.conc_run_watch.specs.Crews.{AreWatching, StillWatch}
use Rattle.conc_run_watch.specs.Looks.{Goes, HasLooked, kept_in, plan_in, seen_in}
use Rattle.conc_run_watch.specs.Watches.{ComesOfLook, IsLookAt, kept_after, seen_at_last, with_early_look}
use Rattle.conc_view.specs.declared.watcher.Snapshot.{Snapshot}
use Rattle.conc_run_watch.proofs.Kept.{keeps_early, look_later, look_whole, up_to_date}
use Rattle.conc_run_watch.specs.declared.crew.Watchers.{Watchers}
use Rattle.conc_run_watch.specs.declared.looks.Looks.{Looks}

-- what begins a beginning begins the whole
prefix_on : {A : Type 0} (xs ys zs : List A) → IsPrefix xs ys → IsPrefix ys zs → IsPrefix xs zs
prefix_on xs ys zs p q = (p.0 ++ q.0, sym (append_assoc xs p.0 q.0) ∙ (ap (λ l. l ++ q.0) p.1 ∙ q.1))

-- one look more
kept_last : (kept looks : List Snapshot) (s : Snapshot) → kept_after kept (looks ++ s ∷ []) ≡ with_early_look (kept_after kept looks) s
kept_last kept [] s = refl
kept_last kept (x ∷ looks) s = kept_last (with_early_look kept x) looks s

seen_last : (n : ℕ) (looks : List Snapshot) (s : Snapshot) → seen_at_last n (looks ++ s ∷ []) ≡ s.length
seen_last n [] s = refl
seen_last n (x ∷ looks) s = seen_last x.length looks s

module _ {J : Type 0} {names : Ghosts J} where
  -- before the first look
  pub goes_none : (looks : Looks J names) → Goes looks looks
  goes_none looks = record { looks = []; right = λ i d inside. absurd (omega arith); kept = refl; last = refl; plan = refl; begins = ([], append-nil (seen_in looks)); keeps = ([], append-nil (kept_in looks)) }

  -- one look more
  pub goes_more : (first before after : Looks J names) → Goes first before → plan_in after ≡ plan_in before → IsPrefix (seen_in before) (seen_in after)
      → ComesOfLook (plan_in after) (seen_in after) (with_early_look (kept_in before)) (kept_in after) → Goes first after
  goes_more first before after went plan begins look = record {
    looks = went.looks ++ look.snapshot ∷ [];
    right = All-push (IsLookAt (plan_in after) (seen_in after)) went.looks look.snapshot
        (λ i d inside. subst (λ (p : Plan). IsLookAt p (seen_in after) (get_or went.looks i d)) (sym plan)
        (look_later (plan_in before) (seen_in before) (seen_in after) (get_or went.looks i d) begins (went.right i d inside)))
        (look_whole (plan_in after) (seen_in after) look.snapshot look.long look.counts);
    kept = look.kept ∙ (ap (λ (kept : List Snapshot). with_early_look kept look.snapshot) went.kept ∙ sym (kept_last (kept_in first) went.looks look.snapshot));
    last = sym look.long ∙ sym (seen_last (length (seen_in first)) went.looks look.snapshot);
    plan = plan ∙ went.plan;
    begins = prefix_on (seen_in first) (seen_in before) (seen_in after) went.begins begins;
    keeps = prefix_on (kept_in first) (kept_in before) (kept_in after) went.keeps
        (keeps_early (plan_in after) (seen_in after) (kept_in before) (kept_in after) look);
  }

  -- the last look
  pub has_looked : (first before after : Looks J names) → Goes first before → plan_in after ≡ plan_in before → IsPrefix (seen_in before) (seen_in after)
      → ComesOfLook (plan_in after) (seen_in after) (with_early_look (kept_in before)) (kept_in after) → HasLooked first after
  has_looked first before after went plan begins look = record {
    goes = goes_more first before after went plan begins look;
    up_to_date = up_to_date (plan_in before) (plan_in after) (seen_in before) (seen_in after) (kept_in before) (kept_in after) plan begins before.looks look;
  }

  -- watchers that watch what they watched watch the plan still
  pub still_watching : (plan : Plan) (count : ℕ) (before after : Watchers J names) → StillWatch before after → AreWatching plan count before → AreWatching plan count after
  still_watching plan count before after still watching = record {
    long = still.long ∙ watching.long;
    watches = λ i d inside.
        let within : i < length before.looks.items = omega (arith, inside, still.long) in (still.each i d within).goes.plan ∙ watching.watches i d within;
  }
