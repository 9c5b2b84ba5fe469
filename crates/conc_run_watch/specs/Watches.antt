-- What a watcher keeps of its looks.
use Rattle.std.specs.Prelude.{◌≡◌, ◌<◌, ◌≤◌, ◌-◌, ◌++◌, ◌∷◌, [], Bool, true, List, All, AllPairs, length, nat_lt, slice_get, slice_index_or, take, if◌then◌else◌, ℕ}
use Rattle.std.specs.Option.{option_map_or}
use Rattle.conc_types.specs.declared.event.Event.{Event}
use Rattle.conc_types.specs.declared.plan.Plan.{Plan}
use Rattle.conc_view.specs.Counts.{counts_of}
use Rattle.conc_view.specs.declared.watcher.Snapshot.{Snapshot}

-- the snapshot is that of the first events of this list, as many as its length says
pub record IsLookAt (plan : Plan) (events : List Event) (s : Snapshot) : Type 0 where
  pub within : s.length ≤ length events
  pub counts : s.counts ≡ counts_of plan (take s.length events)

-- each snapshot is longer than those before it
abbrev pub Rises : List Snapshot → Type 0
Rises kept = AllPairs (λ (before after : Snapshot). before.length < after.length) kept

-- what a watcher kept of a history: 1 to 64 snapshots, each right, each longer than those before it, and the last one
-- that of the whole history
pub record IsWatch (plan : Plan) (history : List Event) (kept : List Snapshot) : Type 0 where
  pub some : 0 < length kept
  pub few : length kept ≤ 64
  pub looks : All (IsLookAt plan history) kept
  pub rising : Rises kept
  pub whole : (d : Snapshot) → (slice_index_or kept (length kept - 1) d).length ≡ length history

-- ---- before the end

-- each of these is a snapshot of this list, and longer than those before it
pub record AreLooks (plan : Plan) (events : List Event) (kept : List Snapshot) : Type 0 where
  pub looks : All (IsLookAt plan events) kept
  pub rising : Rises kept

-- the snapshot is longer than the last one of these, or there is none
abbrev pub is_longer : List Snapshot → Snapshot → Bool
is_longer kept s = option_map_or (λ (last : Snapshot). nat_lt last.length s.length) (slice_get kept (length kept - 1)) true

-- these and the snapshot, where it is longer than the last one or there is none
abbrev pub with_look : List Snapshot → Snapshot → List Snapshot
with_look kept s = if is_longer kept s then kept ++ s ∷ [] else kept

-- the same before the end, where at most 63 are kept: one more place is left for the look after the end
abbrev pub with_early_look : List Snapshot → Snapshot → List Snapshot
with_early_look kept s = if nat_lt (length kept) 63 then with_look kept s else kept

-- what is kept in the end of what was kept before and of these looks, taken one after the other
abbrev pub kept_after : List Snapshot → List Snapshot → List Snapshot
kept_after kept [] = kept
kept_after kept (s ∷ looks) = kept_after (with_early_look kept s) looks

-- how many events the last of these looks saw; this many where there is none
abbrev pub seen_at_last : ℕ → List Snapshot → ℕ
seen_at_last n [] = n
seen_at_last n (s ∷ looks) = seen_at_last s.length looks

-- what is kept comes of one look at the whole of this list
pub record ComesOfLook (plan : Plan) (events : List Event) (keep : Snapshot → List Snapshot) (all : List Snapshot) : Type 0 where
  pub snapshot : Snapshot
  pub long : snapshot.length ≡ length events
  pub counts : snapshot.counts ≡ counts_of plan events
  pub kept : all ≡ keep snapshot

-- some are kept, and while fewer than 63 are, the last one is that of the whole of this list
pub record AreUpToDate (events : List Event) (kept : List Snapshot) : Type 0 where
  pub some : 0 < length kept
  pub last : length kept < 63 → (d : Snapshot) → (slice_index_or kept (length kept - 1) d).length ≡ length events
