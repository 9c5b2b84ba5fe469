-- What is read of a text, line by line.
use Rattle.std.proofs.Common.{◌≡◌, refl, sym, ◌∙◌, ap, ◌≤◌, ◌+◌, ◌-◌, ℕ, Bool, true, false, cond, List, [], ◌∷◌, ◌++◌, length, append_assoc, arith}
use Rattle.std.specs.Prelude.{Option, None, Some, unwrap_or, codes}
use Rattle.std.proofs.lemmas.List.{append-nil, length_push}
use Rattle.std.proofs.lemmas.Slice.Eq.{bytes_eq-Decides}
use Rattle.conc_types.specs.declared.event.Event.{Event}
use Rattle.conc_history_lines.specs.declared.history.Lines.{Lines}
use Rattle.conc_history_lines.specs.EventLines.{bare_event, event_of_line}
use Rattle.conc_history_lines.specs.History.{bad_at, bad_from, events_in, history_in, is_last, offset_after, whole_lines}

-- ---- the offset after the events

pub offset_last : (offset after : ℕ) (line : List ℕ) (lines : List (List ℕ)) → is_last line ≡ true → after ≡ offset + (length line + 1) → offset_after offset (line ∷ lines) ≡ Some after
unfolding offset_after
offset_last offset after line lines h e = rw h (ap (λ (n : ℕ). Some n) (omega arith))

pub offset_more : (offset after : ℕ) (line : List ℕ) (lines : List (List ℕ)) → is_last line ≡ false → after ≡ offset + (length line + 1)
    → offset_after offset (line ∷ lines) ≡ offset_after after lines
unfolding offset_after
offset_more offset after line lines h e = rw h (ap (λ (n : ℕ). offset_after n lines) (omega arith))

pub offset_none : (offset : ℕ) → offset_after offset [] ≡ None
unfolding offset_after
offset_none offset = refl

-- ---- the events

-- the line that ends the events is no event line
pub last_none : (starts line : List ℕ) → is_last line ≡ true → event_of_line starts line ≡ None
unfolding event_of_line bare_event
last_none starts line h = rw ((bytes_eq-Decides line (codes "--")).0 h) refl

pub none_last : (starts line : List ℕ) (e : Event) → event_of_line starts line ≡ Some e → is_last line ≡ false
none_last starts line e h = elim (is_last line) as (λ b. is_last line ≡ b → b ≡ false) [ true ↦ (λ k. let n = last_none starts line k in absurd cc) | false ↦ (λ k. refl) ] refl

-- some lines are read, and these are the events so far and the text that is left
pub record Reads (starts bytes rest : List ℕ) (events : List Event) : Type 0 where
  pub list : events_in starts (whole_lines bytes) ≡ events ++ events_in starts (whole_lines rest)
  pub bad : bad_from starts 1 (whole_lines bytes) ≡ bad_from starts (length events + 1) (whole_lines rest)
  pub next : offset_after 0 (whole_lines bytes) ≡ offset_after (length bytes - length rest) (whole_lines rest)
  pub shorter : length rest ≤ length bytes

pub events_more : (starts line : List ℕ) (lines : List (List ℕ)) (e : Event) → event_of_line starts line ≡ Some e → events_in starts (line ∷ lines) ≡ e ∷ events_in starts lines
unfolding events_in
events_more starts line lines e h = rw (none_last starts line e h, h) refl

pub bad_more : (starts line : List ℕ) (lines : List (List ℕ)) (n : ℕ) (e : Event) → event_of_line starts line ≡ Some e → bad_from starts n (line ∷ lines) ≡ bad_from starts (n + 1) lines
unfolding bad_from
bad_more starts line lines n e h = rw (none_last starts line e h, h) refl

-- one more line is read
pub reads_more : (starts bytes rest line after : List ℕ) (events more : List Event) (e : Event) → Reads starts bytes rest events
    → whole_lines rest ≡ line ∷ whole_lines after → length rest ≡ length line + 1 + length after → event_of_line starts line ≡ Some e → more ≡ events ++ e ∷ []
    → Reads starts bytes after more
reads_more starts bytes rest line after events more e r lines long is m =
    let short = r.shorter in
    rw m (record {
      list = r.list ∙ (ap (λ (x : List Event). events ++ x) (ap (events_in starts) lines ∙ events_more starts line (whole_lines after) e is) ∙ sym (append_assoc events (e ∷ []) (events_in starts (whole_lines after))));
      bad =
          r.bad ∙ (ap (bad_from starts (length events + 1)) lines ∙ (bad_more starts line (whole_lines after) (length events + 1) e is
          ∙ ap (λ (n : ℕ). bad_from starts (n + 1) (whole_lines after)) (sym (length_push events e))));
      next =
          r.next ∙ (ap (offset_after (length bytes - length rest)) lines
          ∙ offset_more (length bytes - length rest) (length bytes - length after) line (whole_lines after) (none_last starts line e is) (omega arith));
      shorter = omega arith;
    })

-- the text that is left begins with no event line
pub IsStopped : List ℕ → List (List ℕ) → Type 0
IsStopped starts [] = Unit {0}
IsStopped starts (line ∷ lines) = event_of_line starts line ≡ None

stopped_list : (starts : List ℕ) (lines : List (List ℕ)) → IsStopped starts lines → events_in starts lines ≡ []
unfolding events_in IsStopped
stopped_list starts [] h = refl
stopped_list starts (line ∷ lines) h = rw h (same (is_last line)) where
  same : (b : Bool) → cond {A = List Event} b [] [] ≡ []
  same true = refl
  same false = refl

stopped_bad : (starts : List ℕ) (lines : List (List ℕ)) (n : ℕ) → IsStopped starts lines → bad_from starts n lines ≡ bad_at n lines
unfolding bad_from IsStopped
stopped_bad starts [] n h = refl
stopped_bad starts (line ∷ lines) n h = rw h refl

-- so the rest of the text has no further event
pub reads_all : (starts bytes rest : List ℕ) (events shown : List Event) (bad : Option ℕ) (next : ℕ) → Reads starts bytes rest events → IsStopped starts (whole_lines rest)
    → bad ≡ bad_at (length events + 1) (whole_lines rest) → next ≡ unwrap_or (offset_after (length bytes - length rest) (whole_lines rest)) (length bytes - length rest + length rest)
    → shown ≡ events
    → (shown ≡ events_in starts (whole_lines bytes)) × (bad ≡ bad_from starts 1 (whole_lines bytes)) × (next ≡ unwrap_or (offset_after 0 (whole_lines bytes)) (length bytes))
reads_all starts bytes rest events shown bad next r stop b n s =
    let short = r.shorter in
    let whole : length bytes - length rest + length rest ≡ length bytes = omega arith in (
      s ∙ sym (r.list ∙ (ap (λ (x : List Event). events ++ x) (stopped_list starts (whole_lines rest) stop) ∙ append-nil events)),
      b ∙ sym (r.bad ∙ stopped_bad starts (whole_lines rest) (length events + 1) stop),
      n ∙ (ap (unwrap_or (offset_after (length bytes - length rest) (whole_lines rest))) whole ∙ ap (λ (o : Option ℕ). unwrap_or o (length bytes)) (sym r.next)),
    )

-- ---- the offset, as far as the lines are gone through

pub offset_found : (from offset most : ℕ) (text rest line after : List ℕ) → offset_after from (whole_lines text) ≡ offset_after offset (whole_lines rest)
    → whole_lines rest ≡ line ∷ whole_lines after → is_last line ≡ true → offset + (length line + 1) ≡ unwrap_or (offset_after from (whole_lines text)) most
offset_found from offset most text rest line after same lines last =
    ap (λ (o : Option ℕ). unwrap_or o most) (sym (same ∙ (ap (offset_after offset) lines ∙ offset_last offset (offset + (length line + 1)) line (whole_lines after) last refl)))

pub offset_later : (from offset : ℕ) (text rest line after : List ℕ) → offset_after from (whole_lines text) ≡ offset_after offset (whole_lines rest)
    → whole_lines rest ≡ line ∷ whole_lines after → is_last line ≡ false → offset_after from (whole_lines text) ≡ offset_after (offset + (length line + 1)) (whole_lines after)
offset_later from offset text rest line after same lines last =
    same ∙ (ap (offset_after offset) lines ∙ offset_more offset (offset + (length line + 1)) line (whole_lines after) last refl)

pub offset_end : (from offset most : ℕ) (text rest : List ℕ) → offset_after from (whole_lines text) ≡ offset_after offset (whole_lines rest)
    → whole_lines rest ≡ [] → offset + length rest ≡ most → offset + length rest ≡ unwrap_or (offset_after from (whole_lines text)) most
offset_end from offset most text rest same lines e =
    e ∙ ap (λ (o : Option ℕ). unwrap_or o most) (sym (same ∙ (ap (offset_after offset) lines ∙ offset_none offset)))

-- ---- the whole

pub stopped_at : (starts rest line : List ℕ) (after : List (List ℕ)) → whole_lines rest ≡ line ∷ after → event_of_line starts line ≡ None → IsStopped starts (whole_lines rest)
unfolding IsStopped
stopped_at starts rest line after lines h = rw lines h

pub stopped_end : (starts rest : List ℕ) → whole_lines rest ≡ [] → IsStopped starts (whole_lines rest)
unfolding IsStopped
stopped_end starts rest lines = rw lines tt

pub reads_whole : (starts bytes rest : List ℕ) (events shown : List Event) (bad : Option ℕ) (next : ℕ) → Reads starts bytes rest events → IsStopped starts (whole_lines rest)
    → bad ≡ bad_at (length events + 1) (whole_lines rest) → next ≡ unwrap_or (offset_after (length bytes - length rest) (whole_lines rest)) (length bytes - length rest + length rest)
    → shown ≡ events → ◌≡◌ {A = Lines} (record { events = shown; bad = bad; next = next }) (history_in starts bytes)
unfolding history_in
reads_whole starts bytes rest events shown bad next r stop b n s =
    let p = reads_all starts bytes rest events shown bad next r stop b n s in
    rw (p.0, p.1, p.2) refl
