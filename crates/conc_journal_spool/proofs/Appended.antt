-- What is read, and what a crash may leave, after a text was written at the end of a spool and synced.
use Rattle.std.proofs.Common.{◌≡◌, ◌∙◌, sym, ap, subst, refl, ℕ, ◌+◌, ◌≤◌, List, ◌++◌, length, take, drop, Option, Some, None, IfSome, IsSomeAnd, MatchOption, arith, append_assoc, length-append, length-take, length-drop}
use Rattle.std.proofs.lemmas.List.{take_at, drop_at}
use Rattle.std.proofs.lemmas.Option.{same_Some}
use Rattle.std.specs.Option.{option_map}
use Rattle.conc_disk.specs.Disk.{Torn, written}
use Rattle.conc_disk.proofs.Leaving.{if_some-both}
use Rattle.conc_journal_spool.specs.Spools.{Agrees}

-- where the disk exposes its bytes, the bytes of the spool are there, since what a read gives is one of the images
pub reaches : (used : ℕ) (seen : Option (List ℕ)) (may_leave : List ℕ → Type 0) → IfSome seen (λ bytes. (image : List ℕ) → may_leave image → Agrees used bytes image) → IfSome seen may_leave
    → IfSome seen (λ bytes. used ≤ length bytes)
reaches used seen may_leave on here = if_some-both seen on here (λ bytes each left. (each bytes left).no_shorter)

torn-agrees : (used n : ℕ) (old new : List ℕ) → used ≤ length old → Torn used n old new → Agrees used old new
torn-agrees used n old new reach torn = record { no_shorter = omega (arith, reach, torn.no_shorter); front = torn.before }

-- a write at the end of the spool leaves its bytes in each image, whatever it leaves behind them
pub on-torn : (used n : ℕ) (old new : Option (List ℕ)) (could may_leave : List ℕ → Type 0) → IfSome old (λ bytes. (image : List ℕ) → could image → Agrees used bytes image) → IfSome old could
    → MatchOption old (new ≡ None) (λ before. IsSomeAnd new (λ after. Torn used n before after)) → ((image : List ℕ) → may_leave image → (from : List ℕ) × could from × Torn used n from image)
    → IfSome new (λ bytes. (image : List ℕ) → may_leave image → Agrees used bytes image)
on-torn used n old None could may_leave on here torn images = tt
on-torn used n None (Some bytes) could may_leave on here torn images = absurd (cc torn)
on-torn used n (Some before) (Some bytes) could may_leave on here torn images = λ image left.
    let from = images image left in
    let was = on from.0 from.1 in
    let is = torn-agrees used n from.0 image was.no_shorter from.2 in
    let seen = torn-agrees used n before bytes (on before here).no_shorter torn in
    record { no_shorter = is.no_shorter; front = is.front ∙ was.front ∙ sym seen.front }

module _ (used : ℕ) (text : List ℕ) where
  stands : (bytes : List ℕ) → used ≤ length bytes → text ≡ take (length text) (drop used (written used text bytes))
  stands bytes reach =
      let rest = drop (used + length text) bytes in
      let front : length (take used bytes) ≡ used = omega (arith, length-take used bytes) in
      let behind : drop used (written used text bytes) ≡ text ++ rest = ap (λ (l : List ℕ). drop used l) (append_assoc (take used bytes) text rest) ∙ drop_at (take used bytes) (text ++ rest) used front in
      sym (ap (λ (l : List ℕ). take (length text) l) behind ∙ take_at text rest (length text) refl)

  long : (bytes : List ℕ) → used ≤ length bytes → used + length text ≤ length (written used text bytes)
  long bytes reach = simp (length-append, length-take, length-drop) (omega arith)

  -- what is read has the text at the end of the spool
  pub text-stands : (old new : Option (List ℕ)) → IfSome old (λ bytes. used ≤ length bytes) → new ≡ option_map (written used text) old
      → IfSome new (λ bytes. text ≡ take (length text) (drop used bytes))
  text-stands (Some bytes) (Some now) reach is =
      subst (λ (l : List ℕ). text ≡ take (length text) (drop used l)) (sym (same_Some now (written used text bytes) is)) (stands bytes reach)
  text-stands (Some bytes) None reach is = tt
  text-stands None (Some now) reach is = absurd (cc is)
  text-stands None None reach is = tt

  -- each image has the spool's bytes and the text
  pub on-synced : (old mid new : Option (List ℕ)) (may_leave : List ℕ → Type 0) → IfSome old (λ bytes. used ≤ length bytes) → mid ≡ option_map (written used text) old → new ≡ mid
      → IfSome mid (λ bytes. (image : List ℕ) → may_leave image → image ≡ bytes)
      → IfSome new (λ bytes. (image : List ℕ) → may_leave image → Agrees (used + length text) bytes image)
  on-synced old mid None may_leave reach is same synced = tt
  on-synced old None (Some now) may_leave reach is same synced = absurd (cc same)
  on-synced None (Some bytes) (Some now) may_leave reach is same synced = absurd (cc is)
  on-synced (Some before) (Some bytes) (Some now) may_leave reach is same synced = λ image left.
      let here : image ≡ now = synced image left ∙ sym (same_Some now bytes same) in
      let is_written : image ≡ written used text before = synced image left ∙ same_Some bytes (written used text before) is in
      record {
        no_shorter = omega (arith, ap length is_written, long before reach);
        front = ap (λ (l : List ℕ). take (used + length text) l) here;
      }
