-- The keys of requests in the queues of their classes, and their renewal.
use Rattle.std.specs.Prelude.{◌≡◌, ℕ, Bool, List, [], ◌∷◌, length, map, Option, slice_index_or, slice_set}
use Rattle.std.specs.Bool.{then_some}
use Rattle.conc_types.specs.declared.facts.State.{State}
use Rattle.conc_types.specs.declared.plan.Plan.{Plan}
use Rattle.conc_types.specs.declared.plan.Req.{Req}
use Rattle.conc_event_queue.specs.Turns.{turn, turns_of}
use Rattle.conc_event_classes.specs.Classes.{class_at, of_class, slot_at}
use Rattle.conc_event_classes.specs.declared.classes.Classes.{Classes}
use Rattle.conc_base_law.specs.Next.{is_ready}
use Rattle.conc_machine_release.specs.Lets.{all_classes}

-- the key of a request: its turn, where it is ready
abbrev pub key : Plan → State → Req → Option ℕ
key plan s r = then_some (is_ready plan s r) (turn r)

-- the queues of the classes, with the turns of the requests that pass
unfoldable pub queues_of : Plan → Classes → (Req → Bool) → List (List (Option ℕ))
queues_of plan classes test = map (λ c. turns_of test (of_class plan classes c)) (all_classes classes)

-- each class has a queue, with a slot for each of its requests
abbrev pub HaveSlots : Classes → List (List (Option ℕ)) → Type 0
HaveSlots classes queues = map length queues ≡ classes.sizes

-- a slot in the queue of a class has this key
abbrev pub put_in : List (List (Option ℕ)) → ℕ → ℕ → Option ℕ → List (List (Option ℕ))
put_in queues c slot key = slice_set queues c (slice_set (slice_index_or queues c []) slot key)

-- the key of a request is what the state says
abbrev pub refreshed_at : Plan → Classes → State → List (List (Option ℕ)) → Req → List (List (Option ℕ))
refreshed_at plan classes s queues r = put_in queues (class_at classes r) (slot_at classes r) (key plan s r)

-- those of these requests
unfoldable pub refreshed_all : Plan → Classes → State → List Req → List (List (Option ℕ)) → List (List (Option ℕ))
refreshed_all plan classes s [] queues = queues
refreshed_all plan classes s (r ∷ rs) queues = refreshed_all plan classes s rs (refreshed_at plan classes s queues r)
