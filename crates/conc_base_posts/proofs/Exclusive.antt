-- Requests of programs that meet at a table exclude each other.
use Rattle.std.proofs.Common.{◌≡◌, ℕ, true, false, ◌&&◌, ◌||◌, Option, Some, refl, ◌∙◌, ap, inl, inr}
use Rattle.std.specs.Prelude.{slice_get}
use Rattle.std.proofs.lemmas.Bool.{and_from, and_parts, not_from_false, or_cases, or_left, or_right}
use Rattle.conc_types.specs.declared.item.Entry.{Entry}
use Rattle.conc_types.specs.declared.item.Item.{Item}
use Rattle.conc_types.specs.declared.item.Item.TheVariants as item
use Rattle.conc_types.specs.declared.plan.Plan.{Plan}
use Rattle.conc_types.specs.declared.plan.Req.{Req}
use Rattle.conc_types.specs.declared.program.Program.{Program}
use Rattle.conc_types.specs.declared.setup.Setup.{Setup}
use Rattle.conc_base_law.specs.Exclusion.{covers, entry_excludes, excludes, excludes_from, is_global, is_kin}
use Rattle.conc_base_law.specs.Plans.{are_exclusive, parent_item, program_at, program_of}
use Rattle.conc_base_law.specs.Words.{Has, id_eq, is_set, item_eq}
use Rattle.conc_base_law.proofs.FirstBy.{any-some}
use Rattle.conc_base_posts.specs.Targets.{ArePostsApart, meet, names_both}
use Rattle.conc_base_posts.proofs.KeptApart.{IsNamed, named}
use Rattle.conc_base_posts.proofs.NoKin.{no_kin}

-- ---- the program of a request

-- the item of the request is the program at this place
pub record IsOfProgram (plan : Plan) (r : Req) (program : Program) : Type 0 where
  pub place : ℕ
  pub item : r.item ≡ item.Program place
  pub stands : slice_get plan.setup.programs place ≡ Some program

-- the item with a program has a place
at_place : (plan : Plan) (i : Item) (program : Program) → program_at plan i ≡ Some program → (n : ℕ) × (i ≡ item.Program n) × (slice_get plan.setup.programs n ≡ Some program)
unfolding program_at
at_place plan (item.Program n) program h = (n, refl, h)
at_place plan (item.Set n) program h = cc

-- a request with a program is of one
pub of_program : (plan : Plan) (r : Req) (program : Program) → program_of plan r ≡ Some program → IsOfProgram plan r program
unfolding program_of
of_program plan r program h =
    let p : (n : ℕ) × (r.item ≡ item.Program n) × (slice_get plan.setup.programs n ≡ Some program) = at_place plan r.item program h in
    record { place = p.0; item = p.1; stands = p.2 }

-- it is no set
pub program_no_set : (plan : Plan) (r : Req) (program : Program) → program_of plan r ≡ Some program → is_set r.item ≡ false
program_no_set plan r program h = ap is_set (of_program plan r program h).item

-- ---- entries

-- a global entry of the programs of two requests excludes the second where the first is
entry-excludes : (x y : Req) (m n : ℕ) (parent : Option Item) (entry : Entry) → x.item ≡ item.Program m → y.item ≡ item.Program n → is_global entry.reach ≡ true
    → (item_eq entry.owner (item.Program m) && item_eq entry.other (item.Program n)) ≡ true → entry_excludes x y parent entry ≡ true
unfolding entry_excludes covers
entry-excludes x y m n parent entry mine other global h =
    let p : (item_eq entry.owner (item.Program m) ≡ true) × (item_eq entry.other (item.Program n) ≡ true) = and_parts _ _ h in
    and_from _ _ (ap (item_eq entry.owner) mine ∙ p.0) (and_from _ _ (or_left _ _ (ap (item_eq entry.other) other ∙ p.1)) (or_left _ _ global))

-- so it does wherever the list has one
excludes_from-entry : (setup : Setup) (x y : Req) (parent : Option Item) (entry : Entry) → Has setup.entries entry → entry_excludes x y parent entry ≡ true
    → excludes_from setup x y parent ≡ true
unfolding excludes_from
excludes_from-entry setup x y parent entry h e = or_left _ _ (any-some (entry_excludes x y parent) setup.entries entry h e)

-- of two requests whose programs an entry names one is excluded by the other
one_excludes : (setup : Setup) (x y : Req) (m n : ℕ) (x_parent y_parent : Option Item) → x.item ≡ item.Program m → y.item ≡ item.Program n → IsNamed setup m n
    → (excludes_from setup x y y_parent || excludes_from setup y x x_parent) ≡ true
unfolding names_both
one_excludes setup x y m n x_parent y_parent mine other p =
    let global : (is_global p.0.reach ≡ true) × (((item_eq p.0.owner (item.Program m) && item_eq p.0.other (item.Program n)) || (item_eq p.0.owner (item.Program n) && item_eq p.0.other (item.Program m))) ≡ true) =
    and_parts _ _ p.2 in
    elim (or_cases (item_eq p.0.owner (item.Program m) && item_eq p.0.other (item.Program n)) _ global.1) [
      | inl h ↦ or_left _ _ (excludes_from-entry setup x y y_parent p.0 p.1 (entry-excludes x y m n y_parent p.0 mine other global.0 h))
      | inr h ↦ or_right _ _ (excludes_from-entry setup y x x_parent p.0 p.1 (entry-excludes y x n m x_parent p.0 other mine global.0 h))
    ]

-- ---- requests

-- two requests of programs that meet exclude each other
pub exclusive : (plan : Plan) (x y : Req) (a b : Program) → ArePostsApart plan → Has plan.requests x → Has plan.requests y → program_of plan x ≡ Some a
    → program_of plan y ≡ Some b → meet a b ≡ true → id_eq x.number y.number ≡ false → are_exclusive plan x y ≡ true
unfolding are_exclusive excludes
exclusive plan x y a b apart hx hy ofx ofy met two =
    let p : IsOfProgram plan x a = of_program plan x a ofx in
    let q : IsOfProgram plan y b = of_program plan y b ofy in
    let kin : is_kin x y ≡ false = no_kin plan x y hx hy (program_no_set plan x a ofx) (program_no_set plan y b ofy) in
    let entry : IsNamed plan.setup p.place q.place = named plan.setup plan.tables p.place q.place a b apart p.stands q.stands met in
    and_from _ _ (not_from_false _ two)
    (and_from _ _ (not_from_false _ kin) (one_excludes plan.setup x y p.place q.place (parent_item plan x) (parent_item plan y) p.item q.item entry))
