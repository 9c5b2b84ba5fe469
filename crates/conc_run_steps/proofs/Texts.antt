-- Ends whose texts the spool holds, while texts are added to it.
use Rattle.std.proofs.Common.{◌≡◌, ◌⊎◌, inl, inr, ℕ, zero, suc, ◌+◌, ◌≤◌, List, [], ◌∷◌, ◌++◌, length, reverse, take, drop, Option, None, Some, refl, sym, ◌∙◌, ap, subst, arith}
use Rattle.std.specs.Prelude.{IfSome, IsSomeAnd, MatchOption, slice_get, ⊤}
use Rattle.std.proofs.lemmas.Option.{IfSome_then, same_Some}
use Rattle.conc_types.specs.declared.event.Event.{Event}
use Rattle.conc_types.specs.declared.event.Event.TheVariants as event
use Rattle.conc_types.specs.declared.plan.Plan.{Plan}
use Rattle.conc_base_law.specs.Law.{LawfulSoFar}
use Rattle.conc_base_law.specs.State.{used}
use Rattle.conc_disk.specs.Disk.{DiskState, SeenFollows}
use Rattle.conc_disk.specs.Left.{EachImage, LeavesOnly}
use Rattle.conc_disk.proofs.Leaving.{if_some-any, leaves-none}
use Rattle.conc_journal_image.proofs.Fronts.{part-front}
use Rattle.conc_journal_spool.specs.Spools.{Agrees, KeepsBelow}
use Rattle.conc_run_choice.specs.Choices.{HasItsText}
use Rattle.conc_run_state.specs.Stored.{AreStored, IsStored}
use Rattle.conc_run_state.specs.Works.{HasPendingText}
use Rattle.conc_run_steps.specs.Steps.{StoresOn}
use Rattle.conc_run_steps.proofs.Extents.{last-at, within-used}

-- ---- bytes that agree

agrees-self : (n : ℕ) (bytes : List ℕ) → n ≤ length bytes → Agrees n bytes bytes
agrees-self n bytes long = record { no_shorter = long; front = refl }

-- the first with the last, as far as both pairs agree
pub agrees-on : (m n : ℕ) (a b c : List ℕ) → m ≤ n → Agrees m a b → Agrees n b c → Agrees m a c
agrees-on m n a b c le first second = record {
  no_shorter = omega (arith, le, second.no_shorter);
  front =
      sym (part-front 0 m n c (omega (arith, le)))
      ∙ ap (λ (l : List ℕ). take m l) second.front
      ∙ part-front 0 m n b (omega (arith, le))
      ∙ first.front;
}

same-part : (n at len : ℕ) (bytes image : List ℕ) → at + len ≤ n → Agrees n bytes image → take len (drop at bytes) ≡ take len (drop at image)
same-part n at len bytes image within agrees =
    sym (part-front at len n bytes within) ∙ ap (λ (l : List ℕ). take len (drop at l)) (sym agrees.front) ∙ part-front at len n image within

-- ---- what is held

module _ (plan : Plan) where
  -- ends within the bytes that agree are held alike
  pub stored-alike : (n from : ℕ) (list : List Event) (bytes image : List ℕ) → LawfulSoFar plan list → used (reverse list) ≤ n → Agrees n bytes image → AreStored plan from list bytes → AreStored plan from list image
  stored-alike n from list bytes image past le agrees stored = λ i id o x at here.
      let was = stored i id o x at here in
      let within = within-used plan list i id o x past here in
      record { report = was.report; text = was.text ∙ same-part n x.offset x.length bytes image (omega (arith, within, le)) agrees }

  -- the event's text is held, if it is an end with an extent
  pub EventStored : List ℕ → Event → Type 0
  EventStored bytes (event.Ended id o (Some x)) = IsStored plan bytes id o x
  EventStored bytes e = ⊤

  pub stored-more : (from : ℕ) (list : List Event) (e : Event) (bytes : List ℕ) → AreStored plan from list bytes → EventStored bytes e → AreStored plan from (list ++ e ∷ []) bytes
  unfolding EventStored
  stored-more from list e bytes stored last = λ i id o x at here. elim (place list e i (event.Ended id o (Some x)) here) [
    | inl before ↦ stored i id o x at before
    | inr same ↦ subst (EventStored bytes) same last
  ]
    where
      place : (list : List Event) (e : Event) (i : ℕ) (found : Event) → slice_get (list ++ e ∷ []) i ≡ Some found → (slice_get list i ≡ Some found) ⊎ (e ≡ found)
      place [] e zero found here = inr (same_Some e found here)
      place [] e (suc i) found here = cc
      place (first ∷ list) e zero found here = inl here
      place (first ∷ list) e (suc i) found here = place list e i found here

  -- so is that of the pending event
  pub pending-stored : (list : List Event) (e : Event) (spool : DiskState) → HasPendingText plan list spool (Some e) → IfSome spool.seen (λ bytes. (image : List ℕ) → spool.may_leave image → EventStored image e)
  unfolding EventStored
  pending-stored list (event.Ended id o (Some x)) spool pending = pending.stored
  pending-stored list e spool pending = if_some-any spool.seen (λ bytes image left. tt)

  without-stored : (e : Event) (bytes : List ℕ) → HasItsText plan e None → EventStored bytes e
  unfolding EventStored
  without-stored (event.Ended id o (Some x)) bytes stored = let never : None ≡ Some stored.0.made.text = stored.1 in cc
  without-stored e bytes stored = tt

  -- the text of an end stands behind those of the earlier ends
  text-stored : (list : List Event) (e : Event) (text bytes : List ℕ) → HasItsText plan e (Some text) → LawfulSoFar plan (list ++ e ∷ []) → text ≡ take (length text) (drop (used (reverse list)) bytes) → EventStored bytes e
  unfolding EventStored
  text-stored list (event.Ended id o (Some x)) text bytes stored past here =
      let same : text ≡ stored.0.made.text = same_Some text stored.0.made.text stored.1 in
      record {
        report = stored.0;
        text =
            sym same
            ∙ here
            ∙ ap (λ k. take k (drop (used (reverse list)) bytes)) (ap length same ∙ sym stored.0.same_length)
            ∙ ap (λ k. take x.length (drop k bytes)) (sym (last-at plan list id o x past));
      }
  text-stored list e text bytes stored past here = tt

  -- ---- from one state of the disk to the next

  -- the texts of the ends that it held it holds still, and those that were added
  module _ (n m from : ℕ) (first second : List Event) (old new : DiskState) (past : LawfulSoFar plan first) (later : LawfulSoFar plan second) (before : used (reverse first) ≤ n) (after : used (reverse second) ≤ m) where
    go : (o s : Option (List ℕ)) → IfSome o old.may_leave → MatchOption o (s ≡ None) (λ a. IsSomeAnd s (λ b. Agrees n a b)) → IfSome s (λ bytes. (image : List ℕ) → new.may_leave image → Agrees m bytes image)
        → IfSome s (λ bytes. AreStored plan from first bytes → AreStored plan from second bytes) → IfSome o (λ bytes. (image : List ℕ) → old.may_leave image → AreStored plan from first image)
        → IfSome s (λ bytes. (image : List ℕ) → new.may_leave image → AreStored plan from second image)
    go o None left follows on more each = tt
    go None (Some b) left follows on more each = absurd (cc)
    go (Some a) (Some b) left follows on more each = λ image is_left.
        stored-alike m from second b image later after (on image is_left) (more (stored-alike n from first a b past before follows (each a left)))

    stored-after : IfSome old.seen old.may_leave → SeenFollows (Agrees n) old new → IfSome new.seen (λ bytes. (image : List ℕ) → new.may_leave image → Agrees m bytes image)
        → IfSome new.seen (λ bytes. AreStored plan from first bytes → AreStored plan from second bytes) → EachImage (AreStored plan from first) old → EachImage (AreStored plan from second) new
    stored-after left follows on more each = go old.seen new.seen left follows on more each

  -- nothing was written
  module _ (n : ℕ) (list : List Event) (disk : DiskState) (left : IfSome disk.seen disk.may_leave) (on : IfSome disk.seen (λ bytes. (image : List ℕ) → disk.may_leave image → Agrees n bytes image)) where
    unwritten : SeenFollows (Agrees n) disk disk
    unwritten = go disk.seen left on where
      go : (s : Option (List ℕ)) → IfSome s disk.may_leave → IfSome s (λ bytes. (image : List ℕ) → disk.may_leave image → Agrees n bytes image) → MatchOption s (s ≡ None) (λ a. IsSomeAnd s (λ b. Agrees n a b))
      go None left on = refl
      go (Some a) left on = agrees-self n a (on a left).no_shorter

    pub stores-still : StoresOn plan n list list disk disk
    stores-still = record {
      stored = λ from each. each;
      left = leaves-none (KeepsBelow n disk) disk;
      now = unwritten;
    }

    pub stores-without : (e : Event) → HasItsText plan e None → StoresOn plan n list (list ++ e ∷ []) disk disk
    stores-without e stored = record {
      stored = λ from each. IfSome_then disk.seen each (λ bytes here image is_left. stored-more from list e image (here image is_left) (without-stored e image stored));
      left = leaves-none (KeepsBelow n disk) disk;
      now = unwritten;
    }

  -- a text was added, or a fault met
  module _ (n m : ℕ) (list : List Event) (old new : DiskState) (left : IfSome old.seen old.may_leave) (run : LeavesOnly (KeepsBelow n old) old new) (follows : SeenFollows (Agrees n) old new)
      (on : IfSome new.seen (λ bytes. (image : List ℕ) → new.may_leave image → Agrees m bytes image)) (before : used (reverse list) ≡ n) where
    pub stores-fault : LawfulSoFar plan list → m ≡ n → StoresOn plan n list list old new
    stores-fault past same = record {
      stored = λ from each. stored-after n m from list list old new past past (omega (arith, before)) (omega (arith, before, same)) left follows on (if_some-any new.seen (λ bytes stored. stored)) each;
      left = run;
      now = follows;
    }

    pub stores-text : (e : Event) (text : List ℕ) → HasItsText plan e (Some text) → LawfulSoFar plan list → LawfulSoFar plan (list ++ e ∷ []) → used (reverse (list ++ e ∷ [])) ≡ m
        → IfSome new.seen (λ bytes. text ≡ take (length text) (drop n bytes)) → StoresOn plan n list (list ++ e ∷ []) old new
    stores-text e text stored past later after here = record {
      stored = λ from each.
          stored-after n m from list (list ++ e ∷ []) old new past later (omega (arith, before)) (omega (arith, after)) left follows on
          (IfSome_then new.seen here (λ bytes at before_it.
          stored-more from list e bytes before_it (text-stored list e text bytes stored later (at ∙ ap (λ k. take (length text) (drop k bytes)) (sym before)))))
          each;
      left = run;
      now = follows;
    }
