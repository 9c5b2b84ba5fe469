-- What is kept of the requests that wait to be let out.
use Rattle.std.specs.Prelude.{◌≡◌, ℕ, Bool, ◌&&◌, ◌<◌, ◌≤◌, nat_le, List, length, map}
use Rattle.std.specs.List.{filter, range_with_len}
use Rattle.conc_types.specs.declared.facts.State.{State}
use Rattle.conc_types.specs.declared.plan.Plan.{Plan}
use Rattle.conc_types.specs.declared.plan.Req.{Req}
use Rattle.conc_base_law.specs.Next.{is_ready}
use Rattle.conc_base_law.specs.State.{facts_at, has_come, is_live}
use Rattle.conc_base_law.specs.Words.{Has}
use Rattle.conc_event_queue.specs.Turns.{turns_of}
use Rattle.conc_event_classes.specs.Classes.{are_rivals, class_at, excludes_kin_at, of_class}
use Rattle.conc_event_classes.specs.declared.classes.Classes.{Classes}
use Rattle.conc_machine_release.specs.Candidates.{candidate}
use Rattle.conc_machine_release.specs.declared.lets.Lets.{Lets}

-- q is live, and its class excludes a class
unfoldable pub is_live_rival : Classes → State → ℕ → Req → Bool
is_live_rival classes s c q = is_live (facts_at s q) && are_rivals classes (class_at classes q) c

-- how many live requests are of a class that excludes a class
unfoldable pub live_rivals : Plan → Classes → State → ℕ → ℕ
live_rivals plan classes s c = length (filter (is_live_rival classes s c) plan.requests)

-- the classes, from 0
abbrev pub all_classes : Classes → List ℕ
all_classes classes = range_with_len 0 (length classes.sizes)

-- what is kept is what the state says: for each class the turns of its requests that are ready, how many live
-- requests exclude it, kin counted, and the candidate that these give; the classes that may exclude kin; at each
-- moment of the window the same starts have come; 32 bits count the classes
pub record AreLets (plan : Plan) (classes : Classes) (s : State) (lets : Lets) : Type 0 where
  pub ready : lets.ready.items ≡ map (λ c. turns_of (is_ready plan s) (of_class plan classes c)) (all_classes classes)
  pub rivals : lets.rivals ≡ map (live_rivals plan classes s) (all_classes classes)
  pub candidates : lets.candidates ≡ map (candidate lets.ready.items lets.rivals) (all_classes classes)
  pub kin : lets.kin ≡ filter (excludes_kin_at classes) (all_classes classes)
  pub window : (t : ℕ) → lets.window.since ≤ t → t < lets.window.next → (r : Req) → Has plan.requests r → has_come s.time r.start ≡ nat_le r.start.seconds t
  pub few : length classes.sizes < 4294967296
