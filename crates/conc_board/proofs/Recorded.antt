-- Each step is recorded.
use Rattle.std.proofs.Common.{◌≡◌, ◌∙◌, ◌==◌, ◌/◌, ℕ, Bool, true, false, if◌then◌else◌, [], ◌∷◌, ◌++◌, List, Option, None, Some, ap, inl, inr, refl}
use mathlib.Core.Logic.{dite}
use native.Mathlib.Decide.{ℕ_discrete}
use Rattle.conc_pool_seats.specs.declared.posted.Posted.{Posted}
use Rattle.conc_pool_seats.specs.declared.views.Doing.TheVariants.{Idle}
use Rattle.conc_pool_seats.specs.declared.views.LeadState.{LeadState}
use Rattle.conc_pool_seats.specs.declared.views.View.{View}
use Rattle.conc_pool_seats.specs.LeadStates.{lead_state_at, marked}
use Rattle.conc_pool_seats.specs.Steps.{noted, with_doing, with_lead_state, with_left}
use Rattle.conc_board.specs.Points.{PostsAreRecorded, StepsAreRecorded}

either_found : (v : View) (i n : ℕ) (lead_state : LeadState) (b : Bool) → (if b then with_lead_state v i lead_state n else noted v i n).found ≡ v.found ++ (i, n) ∷ []
either_found v i n lead_state true = refl
either_found v i n lead_state false = refl

left_found : (v : View) (slots : List (ℕ × Option Posted)) (i n : ℕ) → (with_left (with_doing v Idle i n) slots).found ≡ v.found ++ (i, n) ∷ []
left_found v [] i n = refl
left_found v ((j, None) ∷ slots) i n = refl
left_found v ((j, Some x) ∷ slots) i n = refl

pub recorded : StepsAreRecorded
recorded = record {
  let_out = λ st m n m' t. ap (λ (v : View). v.found) t.0;
  look = λ st m n m' t. ap (λ (v : View). v.found) t.0;
  go = λ st m n m' t. ap (λ (v : View). v.found) t.0;
  back = λ st m n m' t. ap (λ (v : View). v.found) t.0;
  stop = λ st m n m' t. ap (λ (v : View). v.found) t.0 ∙ either_found m.0 st.word n (marked (lead_state_at m.0.lead_states st.word)) (n == st.first);
  get = λ st m n m' t. dite (ℕ_discrete (n / 256) 4) (λ e. ap (λ (v : View). v.found) (t.0 e).1.1) (λ ne. ap (λ (v : View). v.found) (t.1 ne).0);
  clear = λ st m n m' t. ap (λ (v : View). v.found) t.0;
  switch = λ st m n m' t. ap (λ (v : View). v.found) t.0;
  see_switch = λ st m n m' t. ap (λ (v : View). v.found) t.0;
  claim = λ st m n m' t. ap (λ (v : View). v.found) t.0;
  poll = λ st m n m' t. ap (λ (v : View). v.found) t.0;
  see_stop = λ st m n m' t. ap (λ (v : View). v.found) t.0;
  post = λ st m n m' t. ap (λ (v : View). v.found) t.0 ∙ left_found m.0 m.1 st.word n;
  first = λ plan. refl;
  new_hand = λ ps v. refl;
  split = λ ps v. refl;
  join = λ v w. refl;
  left = refl;
}

either_posts : (v : View) (i n : ℕ) (lead_state : LeadState) (b : Bool) → (if b then with_lead_state v i lead_state n else noted v i n).posts ≡ v.posts
either_posts v i n lead_state true = refl
either_posts v i n lead_state false = refl

pub posts_recorded : PostsAreRecorded
posts_recorded = record {
  get = λ st m n m' t. dite (ℕ_discrete (n / 256) 4)
      (λ e. let x = (t.0 e).1 in inr (x.0, x.2, ap (λ (v : View). v.posts) x.1))
      (λ ne. inl (ap (λ (v : View). v.posts) (t.1 ne).0));
  post = λ st m n m' x slots t is. ap (λ (v : View). v.posts) t.0 ∙ ap (λ (cs : List (ℕ × Option Posted)). (with_left (with_doing m.0 Idle st.word n) cs).posts) is;
  let_out = λ st m n m' t. ap (λ (v : View). v.posts) t.0;
  look = λ st m n m' t. ap (λ (v : View). v.posts) t.0;
  go = λ st m n m' t. ap (λ (v : View). v.posts) t.0;
  back = λ st m n m' t. ap (λ (v : View). v.posts) t.0;
  stop = λ st m n m' t. ap (λ (v : View). v.posts) t.0 ∙ either_posts m.0 st.word n (marked (lead_state_at m.0.lead_states st.word)) (n == st.first);
  clear = λ st m n m' t. ap (λ (v : View). v.posts) t.0;
  switch = λ st m n m' t. ap (λ (v : View). v.posts) t.0;
  see_switch = λ st m n m' t. ap (λ (v : View). v.posts) t.0;
  claim = λ st m n m' t. ap (λ (v : View). v.posts) t.0;
  poll = λ st m n m' t. ap (λ (v : View). v.posts) t.0;
  see_stop = λ st m n m' t. ap (λ (v : View). v.posts) t.0;
  first = λ plan. refl;
  new_hand = λ ps v. refl;
  split = λ ps v. refl;
  join = λ v w. refl;
  left = refl;
}
