-- The laws of a disk in memory: what is seen is among what a crash may leave, and now is a moment since any.
use Rattle.std.proofs.Common.{◌≡◌, ℕ, ◌≤◌, List, [], ◌∷◌, length, take, Bool, true, false, ◌&&◌, IsTrue, refl, subst, le_refl, sym, arith, length-append, length-take, length-drop, append_assoc}
use Rattle.std.proofs.lemmas.List.{take_all, take_at, take_min, same_lists, places}
use Rattle.conc_disk.specs.Disk.{Shortened, Torn, written}
use Rattle.conc_edge_devices.specs.Trace.{act_fits, ActLeaves, after, after_act, all_fit, Leaves, LeavesSince}
use Rattle.conc_edge_devices.specs.declared.trace.Act.{Act}
use Rattle.conc_edge_devices.specs.declared.trace.Act.TheVariants.{Write, Cut, Sync}
use Rattle.conc_edge_devices.specs.declared.trace.Change.{Change}

pub both : (a b : Bool) → IsTrue a → IsTrue b → IsTrue (a && b)
both true b p q = q
both false b p q = cc

pub both-first : (a b : Bool) → IsTrue (a && b) → IsTrue a
both-first true b p = refl
both-first false b p = p

pub both-second : (a b : Bool) → IsTrue (a && b) → IsTrue b
both-second true b p = p
both-second false b p = cc

pub torn-written : (at n : ℕ) (bytes old : List ℕ) → at ≤ length old → length bytes ≤ n → Torn at n old (written at bytes old)
torn-written at n bytes old within few = record {
  before = grind (arith, take_at, append_assoc, length-take);
  after = grind (arith, same_lists, places);
  no_shorter = simp (length-append, length-take, length-drop) (omega arith);
  no_longer = simp (length-append, length-take, length-drop) (omega arith);
}

pub shortened : (n : ℕ) (old : List ℕ) → Shortened n old (take n old)
shortened n old = record {
  front = grind (arith, length-take, take_min);
  no_shorter = omega (arith, length-take n old);
}

pub act-leaves : (act : Act) (s : List ℕ) → IsTrue (act_fits act s) → ActLeaves act s s (after_act act s)
act-leaves (Write at bytes) s fits = torn-written at (length bytes.items) bytes.items s (search (arith)) (omega arith)
act-leaves (Cut n) s fits = shortened n s
act-leaves Sync s fits = refl

pub seen-left : (xs : List Change) (s : List ℕ) → IsTrue (all_fit xs s) → Leaves xs s s (after xs s)
seen-left [] s fit = refl
seen-left (x ∷ xs) s fit =
    let after_x = after_act x.act s in (
      after_x,
      act-leaves x.act s (both-first (act_fits x.act s) (all_fit xs after_x) fit),
      seen-left xs after_x (both-second (act_fits x.act s) (all_fit xs after_x) fit),
    )

pub seen-is-left : (xs : List Change) (start bytes : List ℕ) → bytes ≡ after xs start → IsTrue (all_fit xs start) → Leaves xs start start bytes
seen-is-left xs start bytes replays fit = subst (λ (c : List ℕ). Leaves xs start start c) (sym replays) (seen-left xs start fit)

pub now-counts : (xs : List Change) (start : List ℕ) (t : ℕ) (c : List ℕ) → t ≤ length xs → Leaves xs start start c → LeavesSince xs start t c
now-counts xs start t c before left =
    (length xs, before, le_refl (length xs), subst (λ (l : List Change). Leaves l start start c) (sym (take_all (length xs) xs (le_refl (length xs)))) left)

pub only-now : (xs : List Change) (start c : List ℕ) → LeavesSince xs start (length xs) c → Leaves xs start start c
only-now xs start c left = subst (λ (l : List Change). Leaves l start start c) (take_all left.0 xs left.1) left.3
