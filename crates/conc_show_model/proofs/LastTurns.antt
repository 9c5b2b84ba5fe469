-- The last turn of a request, from the last event back.
use Rattle.std.proofs.Common.{◌≡◌, refl, sym, ◌∙◌, ap, ◌<◌, ◌≤◌, ◌+◌, ℕ, cond, List, ◌∷◌, drop, get_or, length}
use Rattle.std.specs.Prelude.{Option, None, Some, is_some}
use Rattle.std.proofs.lemmas.List.{at_drop_all, at_drop_more}
use Rattle.conc_types.specs.declared.event.Event.{Event}
use Rattle.conc_types.specs.declared.event.RequestId.{RequestId}
use Rattle.conc_show_model.specs.declared.turns.Begun.{Begun}
use Rattle.conc_show_model.specs.declared.turns.Turn.{Turn}
use Rattle.conc_show_model.specs.Turns.{begun_from, end_from, is_end, is_let, is_start, no_turn, turn_at, turn_from}

-- what the events from index i on say of a request
pub record Says (r : RequestId) (i : ℕ) (events : List Event) (turn : Turn) (begun : Begun) (end : Option ℕ) : Type 0 where
  pub turn_is : turn ≡ turn_from r i (drop i events)
  pub begun_is : begun ≡ begun_from r i (drop i events)
  pub end_is : end ≡ end_from r i (drop i events)

pub says_none : (r : RequestId) (i : ℕ) (events : List Event) (turn : Turn) (begun : Begun) → length events ≤ i → turn ≡ no_turn → begun ≡ record { start = None; end = None }
    → Says r i events turn begun None
unfolding end_from begun_from turn_from
says_none r i events turn begun l t b = record {
  turn_is = t ∙ sym (at_drop_all (turn_from r i) events i l);
  begun_is = b ∙ sym (at_drop_all (begun_from r i) events i l);
  end_is = sym (at_drop_all (end_from r i) events i l);
}

turn_step : (r : RequestId) (i : ℕ) (e : Event) (later : List Event) → turn_from r i (e ∷ later) ≡ cond (is_some (turn_from r (i + 1) later).let_out) (turn_from r (i + 1) later) (turn_at r i e later)
unfolding turn_from
turn_step r i e later = refl

begun_step : (r : RequestId) (i : ℕ) (e : Event) (later : List Event) → begun_from r i (e ∷ later) ≡ cond (is_start r e) (record { start = Some i; end = end_from r (i + 1) later }) (begun_from r (i + 1) later)
unfolding begun_from
begun_step r i e later = refl

end_step : (r : RequestId) (i : ℕ) (e : Event) (later : List Event) → end_from r i (e ∷ later) ≡ cond (is_end r e) (Some i) (end_from r (i + 1) later)
unfolding end_from
end_step r i e later = refl

behind : {X : Type 0} (f : List Event → X) (events : List Event) (i : ℕ) (e : Event) → i < length events → e ≡ get_or events i e → f (drop i events) ≡ f (e ∷ drop (i + 1) events)
behind f events i e l is = at_drop_more f events i e l ∙ ap (λ (x : Event). f (x ∷ drop (i + 1) events)) (sym is)

-- with one event more in front
pub says_more : (r : RequestId) (i : ℕ) (events : List Event) (e : Event) (turn turn' : Turn) (begun begun' : Begun) (end end' : Option ℕ) → i < length events → e ≡ get_or events i e
    → Says r (i + 1) events turn begun end
    → turn' ≡ cond (is_some turn.let_out) turn (cond (is_let r e) (record { let_out = Some i; begun = begun }) no_turn)
    → begun' ≡ cond (is_start r e) (record { start = Some i; end = end }) begun
    → end' ≡ cond (is_end r e) (Some i) end
    → Says r i events turn' begun' end'
says_more r i events e turn turn' begun begun' end end' l is s t b n =
    let later = drop (i + 1) events in
    record {
      turn_is =
          t ∙ (ap (λ (x : Turn). cond (is_some x.let_out) x (cond (is_let r e) (record { let_out = Some i; begun = begun }) no_turn)) s.turn_is
          ∙ (ap (λ (x : Begun). cond (is_some (turn_from r (i + 1) later).let_out) (turn_from r (i + 1) later) (cond (is_let r e) (record { let_out = Some i; begun = x }) no_turn)) s.begun_is
          ∙ (sym (turn_step r i e later) ∙ sym (behind (turn_from r i) events i e l is))));
      begun_is =
          b ∙ (ap (λ (x : Begun). cond (is_start r e) (record { start = Some i; end = end }) x) s.begun_is
          ∙ (ap (λ (x : Option ℕ). cond (is_start r e) (record { start = Some i; end = x }) (begun_from r (i + 1) later)) s.end_is
          ∙ (sym (begun_step r i e later) ∙ sym (behind (begun_from r i) events i e l is))));
      end_is =
          n ∙ (ap (λ (x : Option ℕ). cond (is_end r e) (Some i) x) s.end_is
          ∙ (sym (end_step r i e later) ∙ sym (behind (end_from r i) events i e l is)));
    }
