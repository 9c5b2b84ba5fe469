-- What an event adds to the rows that were posted to a table.
use Rattle.std.proofs.Common.{◌≡◌, ◌⊎◌, ℕ, Bool, true, false, List, [], ◌∷◌, ◌++◌, Option, None, Some, if◌then◌else◌, refl, sym, ◌∙◌, ap, inl, inr}
use Rattle.std.specs.Option.{option_and_then, option_map_or}
use Rattle.std.specs.Str.{bytes_eq}
use Rattle.std.proofs.lemmas.Bool.{cases_Bool, cond-false, cond-true, eq-eqb}
use Rattle.std.proofs.lemmas.List.{append-nil}
use Rattle.std.proofs.lemmas.Slice.Eq.{bytes_eq-Decides}
use Rattle.conc_types.specs.declared.event.Event.{Event}
use Rattle.conc_types.specs.declared.event.Event.TheVariants as event
use Rattle.conc_types.specs.declared.event.Extent.{Extent}
use Rattle.conc_types.specs.declared.event.Outcome.{Outcome}
use Rattle.conc_types.specs.declared.event.RequestId.{RequestId}
use Rattle.conc_types.specs.declared.plan.Plan.{Plan}
use Rattle.conc_types.specs.declared.plan.Req.{Req}
use Rattle.conc_types.specs.declared.program.Program.{Program}
use Rattle.conc_types.specs.Plans.{request}
use Rattle.conc_base_law.specs.Plans.{program_of}
use Rattle.conc_base_law.specs.Words.{Has}
use Rattle.conc_base_law.proofs.EqualEvents.{id_same}
use Rattle.conc_base_law.proofs.Numbering.{found}
use Rattle.conc_base_law.proofs.Options.{and_then-some}
use Rattle.conc_base_posts.proofs.Added.{posted-append}
use Rattle.conc_base_posts.specs.Positions.{added, book, books_after, last_report, post_to, posts_after, report_of_last, target_of}
use Rattle.conc_base_posts.specs.Posts.{adds_rows, Booked, Cells, posted}

-- ---- an end

-- the end of a request with this number posts the rows of this report to the table
pub record Posts (plan : Plan) (table : List ℕ) (id : RequestId) (made : Option Booked) (rows : List Cells) : Type 0 where
  pub report : Booked
  pub is_report : made ≡ Some report
  pub is_target : target_of plan id ≡ Some table
  pub are_rows : rows ≡ report.rows

-- an end posts nothing to a table, or posts there the rows of its report
pub posted-added : (plan : Plan) (table : List ℕ) (id : RequestId) (o : Outcome) (made : Option Booked)
    → (posted table (added plan id o made) ≡ []) ⊎ Posts plan table id made (posted table (added plan id o made))
unfolding added
posted-added plan table id o made = by (adds_rows o) (target_of plan id) made refl refl where
  at : (x : List ℕ) (b : Booked) → target_of plan id ≡ Some x → made ≡ Some b
      → (posted table (post_to x (Some b)) ≡ []) ⊎ Posts plan table id made (posted table (post_to x (Some b)))
  at x b e k = elim (cases_Bool (bytes_eq table x)) [
    | inr f ↦ inl (cond-false (bytes_eq table x) (b.rows ++ []) [] f)
    | inl t ↦
        let same : table ≡ x = (bytes_eq-Decides table x).0 t in
        inr (record {
          report = b;
          is_report = k;
          is_target = e ∙ ap (λ z. Some z) (sym same);
          are_rows = cond-true (bytes_eq table x) (b.rows ++ []) [] t ∙ append-nil b.rows;
        })
  ]

  by : (adds : Bool) (target : Option (List ℕ)) (m : Option Booked) → target_of plan id ≡ target → made ≡ m
      → (posted table (if adds then option_map_or (λ x. post_to x m) target [] else []) ≡ [])
      ⊎ Posts plan table id made (posted table (if adds then option_map_or (λ x. post_to x m) target [] else []))
  by false target m e k = inl refl
  by true None m e k = inl refl
  by true (Some x) None e k = inl refl
  by true (Some x) (Some b) e k = at x b e k

-- the request with this number, whose program posts to the table
pub record PostsTo (plan : Plan) (table : List ℕ) (id : RequestId) : Type 0 where
  pub req : Req
  pub program : Program
  pub element : Has plan.requests req
  pub number : req.number ≡ id
  pub is_program : program_of plan req ≡ Some program
  pub is_target : program.post ≡ Some table

-- an id that has a target names such a request
pub target-posts : (plan : Plan) (table : List ℕ) (id : RequestId) → target_of plan id ≡ Some table → PostsTo plan table id
unfolding target_of
target-posts plan table id h =
    let p : (b : Program) × (option_and_then (program_of plan) (request plan id) ≡ Some b) × (b.post ≡ Some table) =
    and_then-some (λ b. b.post) (option_and_then (program_of plan) (request plan id)) table h in
    let q : (r : Req) × (request plan id ≡ Some r) × (program_of plan r ≡ Some p.0) = and_then-some (program_of plan) (request plan id) p.0 p.1 in
    let f : (q.0.number.number ≡ id.number) × Has plan.requests q.0 = found plan id q.0 q.1 in
    record {
      req = q.0;
      program = p.0;
      element = f.1;
      number = id_same q.0.number id (eq-eqb _ _ f.0);
      is_program = q.2;
      is_target = p.2;
    }

-- ---- one event more

-- what stands posted to a table behind an end
pub posted-end : (plan : Plan) (table : List ℕ) (past : List Event) (id : RequestId) (o : Outcome) (x : Option Extent)
    → posted table (posts_after plan (event.Ended id o x ∷ past))
    ≡ posted table (posts_after plan past) ++ posted table (added plan id o (last_report plan past id))
unfolding posts_after books_after book last_report
posted-end plan table past id o x =
    posted-append table (books_after plan past).posts (added plan id o (report_of_last id (books_after plan past).started))

-- where each end adds nothing to it, what is posted to a table stays
pub posted-still : (plan : Plan) (table : List ℕ) (past : List Event) (e : Event)
    → ((id : RequestId) (o : Outcome) (x : Option Extent) → e ≡ event.Ended id o x → posted table (added plan id o (last_report plan past id)) ≡ [])
    → posted table (posts_after plan (e ∷ past)) ≡ posted table (posts_after plan past)
unfolding posts_after books_after book
posted-still plan table past (event.Ended id o x) none =
    posted-end plan table past id o x
    ∙ (ap (λ l. posted table (posts_after plan past) ++ l) (none id o x refl) ∙ append-nil (posted table (posts_after plan past)))
posted-still plan table past _ none = refl
