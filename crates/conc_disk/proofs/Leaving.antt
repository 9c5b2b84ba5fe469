-- How what a run of calls may have left goes on from call to call.
use Rattle.std.proofs.Common.{◌≡◌, ◌∙◌, inl, inr, ⊎_elim, refl, sym, ap, ℕ, List, Option, Some, None, is_some, IfSome, IsSomeAnd, MatchOption, le_refl, arith}
use Rattle.std.proofs.lemmas.Option.{IfSome_then}
use Rattle.std.specs.Option.{option_map}
use Rattle.conc_disk.specs.Disk.{DiskState, Follows, IsLater, SeenFollows, Stays}
use Rattle.conc_disk.specs.Left.{EachImage, LeavesOnly}

-- ---- where a disk exposes its bytes

pub if_some-any : {X : Type 0} (o : Option X) {P : X → Type 0} → ((x : X) → P x) → IfSome o P
if_some-any (Some x) all = all x
if_some-any None all = tt

pub if_some-both : {X : Type 0} (o : Option X) {P Q R : X → Type 0} → IfSome o P → IfSome o Q → ((x : X) → P x → Q x → R x) → IfSome o R
if_some-both (Some x) p q r = r x p q
if_some-both None p q r = tt

-- what holds where the second is some holds where the first is
pub if_some-as : {X : Type 0} (P : Type 0) (o s : Option X) → is_some s ≡ is_some o → IfSome s (λ x. P) → IfSome o (λ x. P)
if_some-as P (Some x) (Some y) same p = p
if_some-as P (Some x) None same p = absurd (cc same)
if_some-as P None s same p = tt

is_some-mapped : {X : Type 0} (f : X → X) (o : Option X) → is_some (option_map f o) ≡ is_some o
is_some-mapped f (Some x) = refl
is_some-mapped f None = refl

pub exposes-stays : (old new : DiskState) → Stays old new → is_some new.seen ≡ is_some old.seen
exposes-stays old new stays = ap is_some stays.seen

pub exposes-mapped : (f : List ℕ → List ℕ) (old new : DiskState) → new.seen ≡ option_map f old.seen → is_some new.seen ≡ is_some old.seen
exposes-mapped f old new is = ap is_some is ∙ is_some-mapped f old.seen

follows-exposed : (step : List ℕ → List ℕ → Type 0) (o s : Option (List ℕ)) → MatchOption o (s ≡ None) (λ before. IsSomeAnd s (λ after. step before after)) → is_some s ≡ is_some o
follows-exposed step (Some before) (Some after) follows = refl
follows-exposed step (Some before) None follows = absurd follows
follows-exposed step None s follows = ap is_some follows

pub exposes-follows : (step : List ℕ → List ℕ → Type 0) (old new : DiskState) → SeenFollows step old new → is_some new.seen ≡ is_some old.seen
exposes-follows step old new follows = follows-exposed step old.seen new.seen follows

-- ---- the images of a disk

-- where nothing may be left that could not be left before
pub images-stay : (kind : List ℕ → Type 0) (old new : DiskState) → EachImage kind old → Stays old new → EachImage kind new
images-stay kind old new each stays =
    if_some-as _ new.seen old.seen (sym (exposes-stays old new stays)) (IfSome_then old.seen each (λ bytes here c left. here c (stays.images c left)))

-- where each image took a step
pub images-follow : (kind next : List ℕ → Type 0) (step : List ℕ → List ℕ → Type 0) (old new : DiskState) → is_some new.seen ≡ is_some old.seen → EachImage kind old → Follows step old new
    → ((c d : List ℕ) → kind c → step c d → next d) → EachImage next new
images-follow kind next step old new exposes each follows then =
    if_some-as _ new.seen old.seen (sym exposes) (IfSome_then old.seen each (λ bytes here d left.
    let from = follows d left in
    then from.0 d (here from.0 from.1) from.2))

-- ---- what a run may have left

-- before the first call
pub leaves-none : (kind : List ℕ → Type 0) (disk : DiskState) → LeavesOnly kind disk disk
leaves-none kind disk = record {
  faults = le_refl disk.faults;
  moment = le_refl disk.moment;
  exposes = refl;
  earlier_stay = λ t c at left. left;
  nothing_else = if_some-any disk.seen (λ bytes t c at left. inl left);
}

-- one call more, after which each image is of this kind
pub leaves-step : (kind : List ℕ → Type 0) (old mid new : DiskState) → LeavesOnly kind old mid → IsLater mid new → is_some new.seen ≡ is_some mid.seen → EachImage kind new → LeavesOnly kind old new
leaves-step kind old mid new run later exposes each = record {
  faults = omega (arith, run.faults, later.faults);
  moment = omega (arith, run.moment, later.moment);
  exposes = exposes ∙ run.exposes;
  earlier_stay = λ t c at left. later.earlier_stay t c (omega (arith, at, run.moment)) (run.earlier_stay t c at left);
  nothing_else = if_some-both old.seen run.nothing_else (if_some-as _ old.seen new.seen (exposes ∙ run.exposes) each) (λ bytes before here t c at left.
      ⊎_elim (before t c at) (λ now. inr (here c now)) (later.nothing_else t c (omega (arith, at, run.moment)) left));
}

-- the first call, after which each image is of this kind
pub leaves-first : (kind : List ℕ → Type 0) (old new : DiskState) → IsLater old new → is_some new.seen ≡ is_some old.seen → EachImage kind new → LeavesOnly kind old new
leaves-first kind old new = leaves-step kind old old new (leaves-none kind old)

-- two runs
pub leaves-twice : (kind : List ℕ → Type 0) (old mid new : DiskState) → LeavesOnly kind old mid → LeavesOnly kind mid new → LeavesOnly kind old new
leaves-twice kind old mid new first second = record {
  faults = omega (arith, first.faults, second.faults);
  moment = omega (arith, first.moment, second.moment);
  exposes = second.exposes ∙ first.exposes;
  earlier_stay = λ t c at left. second.earlier_stay t c (omega (arith, at, first.moment)) (first.earlier_stay t c at left);
  nothing_else = if_some-both old.seen first.nothing_else (if_some-as _ old.seen mid.seen first.exposes second.nothing_else) (λ bytes before then t c at left.
      ⊎_elim (before t c at) inr (then t c (omega (arith, at, first.moment)) left));
}

-- a run that leaves this kind leaves a wider one
pub leaves-wider : (kind wider : List ℕ → Type 0) (old new : DiskState) → LeavesOnly kind old new → IfSome old.seen (λ bytes. (c : List ℕ) → kind c → wider c) → LeavesOnly wider old new
leaves-wider kind wider old new run wide = record {
  faults = run.faults;
  moment = run.moment;
  exposes = run.exposes;
  earlier_stay = run.earlier_stay;
  nothing_else = if_some-both old.seen run.nothing_else wide (λ bytes before is t c at left.
      ⊎_elim inl (λ of_kind. inr (is c of_kind)) (before t c at left));
}

-- Where each image was of this kind before a run, whatever a crash since then may have left is of this kind.
pub left-is-kind : (kind : List ℕ → Type 0) (old new : DiskState) → ((c : List ℕ) → old.left_since old.moment c → old.may_leave c) → EachImage kind old → LeavesOnly kind old new
    → IfSome old.seen (λ bytes. (c : List ℕ) → new.left_since old.moment c → kind c)
left-is-kind kind old new only_now each run = if_some-both old.seen each run.nothing_else (λ bytes here since c left.
    ⊎_elim (λ before. here c (only_now c before)) (λ of_kind. of_kind) (since old.moment c (le_refl old.moment) left))
