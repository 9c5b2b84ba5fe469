-- What stands of an entry whose names have been looked up.
use Rattle.std.proofs.Common.{◌≡◌, ◌∙◌, sym, refl, ap, subst, ℕ, Bool, true, false, ◌&&◌, List, [], ◌∷◌, length, map, Option, None, Some, Result, Ok, Err}
use Rattle.std.specs.Prelude.{IsTrue, is_some, nat_lt, if◌then◌else◌}
use Rattle.std.specs.List.{enumerate_from, list_all, position, position_or_len}
use Rattle.std.specs.Option.{option_map, option_or}
use Rattle.std.specs.Str.{bytes_eq}
use Rattle.std.proofs.lemmas.List.FromFn.{length-enumerate_from}
use Rattle.std.proofs.lemmas.Bool.{and_from}
use Rattle.conc_types.specs.declared.kind.RefusalKind.{RefusalKind}
use Rattle.conc_types.specs.declared.kind.RefusalKind.TheVariants as refused
use Rattle.conc_types.specs.declared.item.Entry.{Entry}
use Rattle.conc_types.specs.declared.item.Item.{Item}
use Rattle.conc_types.specs.declared.item.Item.TheVariants as item
use Rattle.conc_types.specs.declared.manager.Manager.{Manager}
use Rattle.conc_types.specs.declared.manager.Rule.{Rule}
use Rattle.conc_types.specs.declared.program.Program.{Program}
use Rattle.conc_types.specs.declared.set.SetDef.{SetDef}
use Rattle.conc_types.specs.declared.stage.Stage.{Stage}
use Rattle.conc_types.specs.Fields.{is_rule}
use Rattle.conc_types.specs.Setups.{has_members, is_entry, is_item, is_manager, is_set_of, names_program}
use Rattle.conc_types.specs.Sets.{are_stages, leads_on}
use Rattle.conc_types.specs.Texts.{is_text}
use Rattle.conc_types.specs.Words.{are_distinct, is_between, none_or}
use Rattle.conc_data_fields.specs.Arrays.{all_good}
use Rattle.conc_data_fields.specs.Kinds.{both, or_kind}
use Rattle.conc_data_fields.specs.Reads.{FieldFail, both_read, read_as}
use Rattle.conc_data_fields.specs.declared.values.ShortText.{ShortText}
use Rattle.conc_data_fields.proofs.Combined.{IsRead, both-read, both_read-ok, read_as-is}
use Rattle.conc_data_entries.specs.declared.raw.RawEntry.{RawEntry}
use Rattle.conc_data_entries.specs.declared.raw.RawManager.{RawManager}
use Rattle.conc_data_entries.specs.declared.raw.RawRule.{RawRule}
use Rattle.conc_data_entries.specs.declared.raw.RawSet.{RawSet}
use Rattle.conc_data_entries.specs.declared.raw.RawStage.{RawStage}
use Rattle.conc_setup.specs.ThirdPass.{if_named, item_of, later, link_of, program_named, program_of, resolved_entry, resolved_manager, resolved_rule, resolved_set, resolved_stage, set_named, stage_named, stage_with, StageParts, to_entry, to_manager, to_rule, to_set, to_stage}
use Rattle.conc_setup.proofs.Each.{each_count, each_passes, each_passes_at, each_same_at}
use Rattle.conc_setup.proofs.Outcomes.{all_good-ok, both-ok, good-ok, judged-ok, or_kind-ok, proven-ok}

-- ---- places

below-if : (within : Bool) (n i : ℕ) → (if within then Some n else None) ≡ Some i → (within ≡ true) × (n ≡ i)
below-if true n i e = (refl, cc)
below-if false n i e = absurd (cc)

position-below : {A : Type 0} (test : A → Bool) (xs : List A) (i : ℕ) → position test xs ≡ Some i → IsTrue (nat_lt i (length xs))
position-below test xs i e =
    let p = below-if (nat_lt (position_or_len test xs) (length xs)) (position_or_len test xs) i e in
    rw (← p.1) p.0

known : (o : Option ℕ) (i : ℕ) → or_kind refused.UnknownName Ok o ≡ Ok i → o ≡ Some i
known None i e = absurd (cc)
known (Some j) i e = cc

pub program-below : (programs : List Program) (name : List ℕ) (n : ℕ) → program_of programs name ≡ Ok n → IsTrue (nat_lt n (length programs))
program-below programs name n e =
    position-below (λ p. bytes_eq name p.name) programs n (known (program_named programs name) n e)

-- what is an item, where there are as many sets as were looked through
item-there : (programs : List Program) (sets : List RawSet) (defs : List SetDef) → length defs ≡ length sets → (p s : Option ℕ)
    → ((n : ℕ) → p ≡ Some n → IsTrue (nat_lt n (length programs))) → ((n : ℕ) → s ≡ Some n → IsTrue (nat_lt n (length sets)))
    → (i : Item) → or_kind refused.UnknownName Ok (option_or (option_map (λ n. item.Program n) p) (option_map (λ n. item.Set n) s)) ≡ Ok i → IsTrue (is_item programs defs i)
item-there programs sets defs same (Some n) s hp hs i e =
    let q : item.Program n ≡ i = cc in subst (λ (j : Item). IsTrue (is_item programs defs j)) q (hp n refl)
item-there programs sets defs same None (Some n) hp hs i e =
    let q : item.Set n ≡ i = cc in
    let below : IsTrue (nat_lt n (length defs)) = rw same (hs n refl) in
    subst (λ (j : Item). IsTrue (is_item programs defs j)) q below
item-there programs sets defs same None None hp hs i e = absurd (cc)

item-kept : (programs : List Program) (sets : List RawSet) (defs : List SetDef) → length defs ≡ length sets → (name : List ℕ) (i : Item) → item_of programs sets name ≡ Ok i → IsTrue (is_item programs defs i)
unfolding item_of
item-kept programs sets defs same name i e =
    item-there programs sets defs same (program_named programs name) (set_named sets name)
    (position-below (λ p. bytes_eq name p.name) programs) (position-below (λ s. bytes_eq name s.name) sets) i e

-- ---- incompatibilities

pub entry-kept : (programs : List Program) (sets : List RawSet) (defs : List SetDef) → length defs ≡ length sets → (raw : RawEntry) (entry : Entry) → resolved_entry programs sets raw ≡ Ok entry → IsTrue (is_entry programs defs entry)
unfolding resolved_entry
entry-kept programs sets defs same raw entry e =
    let p = good-ok (to_entry raw) (both (item_of programs sets raw.owner) (item_of programs sets raw.other)) entry e in
    let q = both-ok (item_of programs sets raw.owner) (item_of programs sets raw.other) p.0.0 p.0.1 p.1 in
    subst (λ (x : Entry). IsTrue (is_entry programs defs x)) p.2
    (and_from _ _ (item-kept programs sets defs same raw.owner p.0.0 q.0) (item-kept programs sets defs same raw.other p.0.1 q.1))

-- ---- rules

if_named-ok : {A : Type 0} (look : List ℕ → Result A RefusalKind) (test : A → Bool) → ((name : List ℕ) (a : A) → look name ≡ Ok a → IsTrue (test a))
    → (name : Option (List ℕ)) (found : Option A) → if_named look name ≡ Ok found → IsTrue (none_or test found)
if_named-ok look test passes None None e = refl
if_named-ok look test passes None (Some a) e = absurd (cc)
if_named-ok look test passes (Some name) found e =
    let p = good-ok (λ (a : _). Some a) (look name) found e in
    subst (λ (o : Option _). IsTrue (none_or test o)) p.2 (passes name p.0 p.1)

if_named-some : {A : Type 0} (look : List ℕ → Result A RefusalKind) (name : Option (List ℕ)) (found : Option A) → if_named look name ≡ Ok found → is_some found ≡ is_some name
if_named-some look None None e = refl
if_named-some look None (Some a) e = absurd (cc)
if_named-some look (Some name) found e =
    let p = good-ok (λ (a : _). Some a) (look name) found e in ap (λ (o : Option _). is_some o) (sym p.2)

short_type : (t : Option (ShortText 80)) → (is_some (option_map (λ s. s.text) t) ≡ is_some t) × IsTrue (none_or (is_text 80) (option_map (λ s. s.text) t))
short_type None = (refl, refl)
short_type (Some s) = (refl, s.short)

-- a rule with a program in the place of its name is a rule
pub rule-stands : (programs : List Program) (raw : RawRule) (program : Option ℕ) → if_named (program_of programs) raw.program ≡ Ok program
    → IsTrue (is_rule program (option_map (λ t. t.text) raw.request_type) raw.user)
rule-stands programs raw program e =
    let named = if_named-some (program_of programs) raw.program program e in
    let type = short_type raw.request_type in
    and_from _ _ (rw (named, type.0) raw.names) type.1

to_rule-program : (raw : RawRule) (program : Option ℕ) (rule : Rule) → to_rule raw program ≡ Ok rule → rule.program ≡ program
to_rule-program raw program rule e =
    let p = proven-ok _ _ _ rule e in ap (λ (r : Rule). r.program) (sym p.1)

pub rule-kept : (programs : List Program) (raw : RawRule) (rule : Rule) → resolved_rule programs raw ≡ Ok rule → IsTrue (names_program programs rule)
unfolding resolved_rule
rule-kept programs raw rule e =
    let p = judged-ok (to_rule raw) (if_named (program_of programs) raw.program) rule e in
    let found = if_named-ok (program_of programs) (λ n. nat_lt n (length programs)) (program-below programs) raw.program p.0 p.1 in
    rw (to_rule-program raw p.0 rule p.2) found

-- ---- managers

to_manager-same : (raw : RawManager) (rules : List Rule × List Rule) (manager : Manager) → to_manager raw rules ≡ Ok manager
    → (manager.name ≡ raw.name) × (manager.shifts ≡ raw.shifts.list) × (manager.include ≡ rules.0) × (manager.exclude ≡ rules.1)
to_manager-same raw rules manager e =
    let p = proven-ok _ _ _ manager e in
    (ap (λ (m : Manager). m.name) (sym p.1), ap (λ (m : Manager). m.shifts) (sym p.1), ap (λ (m : Manager). m.include) (sym p.1), ap (λ (m : Manager). m.exclude) (sym p.1))

module _ (programs : List Program) (raw : RawManager) (manager : Manager) (e : resolved_manager programs raw ≡ Ok manager) where
  manager-rules : (rules : List Rule × List Rule) × (both (all_good (map (resolved_rule programs) raw.include)) (all_good (map (resolved_rule programs) raw.exclude)) ≡ Ok rules) × (to_manager raw rules ≡ Ok manager)
  unfolding resolved_manager
  manager-rules = judged-ok (to_manager raw) (both (all_good (map (resolved_rule programs) raw.include)) (all_good (map (resolved_rule programs) raw.exclude))) manager e

  pub manager-name : manager.name ≡ raw.name
  manager-name = (to_manager-same raw manager-rules.0 manager manager-rules.2).0

  pub manager-shifts : manager.shifts ≡ raw.shifts.list
  manager-shifts = (to_manager-same raw manager-rules.0 manager manager-rules.2).1

  pub manager-kept : IsTrue (is_manager programs manager)
  manager-kept =
      let same = to_manager-same raw manager-rules.0 manager manager-rules.2 in
      let q = both-ok (all_good (map (resolved_rule programs) raw.include)) (all_good (map (resolved_rule programs) raw.exclude)) manager-rules.0.0 manager-rules.0.1 manager-rules.1 in
      let include = each_passes (resolved_rule programs) (names_program programs) (rule-kept programs) raw.include manager-rules.0.0 (all_good-ok _ _ q.0) in
      let exclude = each_passes (resolved_rule programs) (names_program programs) (rule-kept programs) raw.exclude manager-rules.0.1 (all_good-ok _ _ q.1) in
      let included : IsTrue (list_all (names_program programs) manager.include) = rw same.2 include in
      let excluded : IsTrue (list_all (names_program programs) manager.exclude) = rw same.3 exclude in
      and_from _ _ included excluded

pub manager-resolved : (programs : List Program) (raw : RawManager) (rules : List Rule × List Rule) (manager : Manager)
    → Ok rules ≡ both (all_good (map (resolved_rule programs) raw.include)) (all_good (map (resolved_rule programs) raw.exclude))
    → to_manager raw rules ≡ Ok manager → Ok manager ≡ resolved_manager programs raw
unfolding resolved_manager
manager-resolved programs raw rules manager right made = rw (← right) (sym made)

-- ---- stages

later-if : (test : Bool) (place : ℕ) (kind : RefusalKind) (found : ℕ) → (if test then Ok place else Err kind) ≡ Ok found → (test ≡ true) × (place ≡ found)
later-if true place kind found e = (refl, cc)
later-if false place kind found e = absurd (cc)

later-ok : (at place found : ℕ) → later at place ≡ Ok found → (IsTrue (nat_lt at place)) × (place ≡ found)
later-ok at place found e = later-if (nat_lt at place) place _ found e

link-kept : (stages : List RawStage) (at : ℕ) (name : List ℕ) (place : ℕ) → link_of stages at name ≡ Ok place → IsTrue (nat_lt at place && nat_lt place (length stages))
link-kept stages at name place e =
    let p = or_kind-ok refused.UnknownName (later at) (stage_named stages name) place e in
    let q = later-ok at p.0 place p.2 in
    subst (λ (n : ℕ). IsTrue (nat_lt at n && nat_lt n (length stages))) q.1
    (and_from _ _ q.0 (position-below (λ s. bytes_eq name s.name) stages p.0 p.1))

stage_with-same : (raw : RawStage) (links : List (Option ℕ)) (members : List ℕ) (stage : Stage) → stage_with raw links members ≡ Ok stage
    → (stage.name ≡ raw.name) × (stage.links ≡ links) × (stage.members ≡ members)
stage_with-same raw links members stage e =
    let p = proven-ok _ _ _ stage e in
    (ap (λ (s : Stage). s.name) (sym p.1), ap (λ (s : Stage). s.links) (sym p.1), ap (λ (s : Stage). s.members) (sym p.1))

-- the parts of a stage are right each by itself
parts-ok : (success warning error : Result (Option ℕ) RefusalKind) (members : Result (List ℕ) RefusalKind) (parts : StageParts) → both success (both warning (both error members)) ≡ Ok parts
    → (success ≡ Ok parts.0) × (warning ≡ Ok parts.1.0) × (error ≡ Ok parts.1.1.0) × (members ≡ Ok parts.1.1.1)
parts-ok success warning error members parts e =
    let first = both-ok success (both warning (both error members)) parts.0 parts.1 e in
    let second = both-ok warning (both error members) parts.1.0 parts.1.1 first.1 in
    let third = both-ok error members parts.1.1.0 parts.1.1.1 second.1 in
    (first.0, second.0, third.0, third.1)

-- what is looked up of a stage
abbrev pub looked : (programs : List Program) (stages : List RawStage) (at : ℕ) (raw : RawStage) → Result StageParts RefusalKind
looked programs stages at raw =
    both (if_named (link_of stages at) raw.links.success) (both (if_named (link_of stages at) raw.links.warning) (both (if_named (link_of stages at) raw.links.error) (all_good (map (program_of programs) raw.members.list))))

pub stage-resolved : (programs : List Program) (stages : List RawStage) (at : ℕ) (raw : RawStage) (parts : StageParts) (stage : Stage)
    → Ok parts ≡ looked programs stages at raw → to_stage raw parts ≡ Ok stage → Ok stage ≡ resolved_stage programs stages (at, raw)
unfolding resolved_stage
stage-resolved programs stages at raw parts stage right made = rw (← right) (sym made)

module _ (programs : List Program) (stages : List RawStage) (at : ℕ) (raw : RawStage) (stage : Stage) (e : resolved_stage programs stages (at, raw) ≡ Ok stage) where
  abbrev look : Option (List ℕ) → Result (Option ℕ) RefusalKind
  look = if_named (link_of stages at)

  abbrev members : Result (List ℕ) RefusalKind
  members = all_good (map (program_of programs) raw.members.list)

  stage-parts : (parts : StageParts) × (both (look raw.links.success) (both (look raw.links.warning) (both (look raw.links.error) members)) ≡ Ok parts) × (to_stage raw parts ≡ Ok stage)
  unfolding resolved_stage
  stage-parts = judged-ok (to_stage raw) (both (look raw.links.success) (both (look raw.links.warning) (both (look raw.links.error) members))) stage e

  stage-same : (stage.name ≡ raw.name) × (stage.links ≡ stage-parts.0.0 ∷ stage-parts.0.1.0 ∷ stage-parts.0.1.1.0 ∷ []) × (stage.members ≡ stage-parts.0.1.1.1)
  stage-same = stage_with-same raw _ _ stage stage-parts.2

  pub stage-name : stage.name ≡ raw.name
  stage-name = stage-same.0

  stage-each : (look raw.links.success ≡ Ok stage-parts.0.0) × (look raw.links.warning ≡ Ok stage-parts.0.1.0) × (look raw.links.error ≡ Ok stage-parts.0.1.1.0) × (members ≡ Ok stage-parts.0.1.1.1)
  stage-each = parts-ok (look raw.links.success) (look raw.links.warning) (look raw.links.error) members stage-parts.0 stage-parts.1

  pub stage-members : IsTrue (has_members programs stage)
  stage-members =
      rw stage-same.2 (each_passes (program_of programs) (λ n. nat_lt n (length programs)) (program-below programs) raw.members.list stage-parts.0.1.1.1 (all_good-ok _ _ stage-each.3))

  abbrev leads : ℕ → Bool
  leads place = nat_lt at place && nat_lt place (length stages)

  pub stage-leads : IsTrue (leads_on (length stages) (at, stage))
  stage-leads =
      let success = if_named-ok (link_of stages at) leads (link-kept stages at) raw.links.success stage-parts.0.0 stage-each.0 in
      let warning = if_named-ok (link_of stages at) leads (link-kept stages at) raw.links.warning stage-parts.0.1.0 stage-each.1 in
      let error = if_named-ok (link_of stages at) leads (link-kept stages at) raw.links.error stage-parts.0.1.1.0 stage-each.2 in
      rw stage-same.1 (and_from _ _ success (and_from _ _ warning (and_from _ _ error refl)))

-- the parts of a stage are read each by itself
pub parts-read : (success warning error : Result (Option ℕ) FieldFail) (members : Result (List ℕ) FieldFail) (parts : StageParts) → both_read success (both_read warning (both_read error members)) ≡ Ok parts
    → (success ≡ Ok parts.0) × (warning ≡ Ok parts.1.0) × (error ≡ Ok parts.1.1.0) × (members ≡ Ok parts.1.1.1)
parts-read success warning error members parts e =
    let first = both_read-ok success (both_read warning (both_read error members)) parts.0 parts.1 e in
    let second = both_read-ok warning (both_read error members) parts.1.0 parts.1.1 first.1 in
    let third = both_read-ok error members parts.1.1.0 parts.1.1.1 second.1 in
    (first.0, second.0, third.0, third.1)

pub looked-read : (programs : List Program) (stages : List RawStage) (at : ℕ) (raw : RawStage) (success warning error : Result (Option ℕ) FieldFail) (members : Result (List ℕ) FieldFail)
    → success ≡ read_as (if_named (link_of stages at) raw.links.success) → warning ≡ read_as (if_named (link_of stages at) raw.links.warning) → error ≡ read_as (if_named (link_of stages at) raw.links.error)
    → IsRead members (all_good (map (program_of programs) raw.members.list))
    → IsRead (both_read success (both_read warning (both_read error members))) (looked programs stages at raw)
looked-read programs stages at raw success warning error members s w e m =
    rw (s, w, e) (both-read _ _ _ _ (read_as-is _) (both-read _ _ _ _ (read_as-is _) (both-read _ _ _ _ (read_as-is _) m)))

-- ---- sets

module _ (programs : List Program) (raws : List RawStage) (stages : List Stage) (e : all_good (map (resolved_stage programs raws) (enumerate_from 0 raws)) ≡ Ok stages) where
  stages-all : map (resolved_stage programs raws) (enumerate_from 0 raws) ≡ map Ok stages
  stages-all = all_good-ok _ _ e

  stages-names : map (λ (s : Stage). s.name) stages ≡ map (λ (s : RawStage). s.name) raws
  stages-names =
      each_same_at (resolved_stage programs raws) (λ (s : Stage). s.name) (λ (s : RawStage). s.name) (stage-name programs raws) 0 raws stages stages-all

  stages-count : length stages ≡ length raws
  stages-count =
      each_count (resolved_stage programs raws) (enumerate_from 0 raws) stages stages-all ∙ length-enumerate_from 0 raws

  -- the stages of a set are those of a set
  pub stages-stand : are_distinct bytes_eq (map (λ (s : RawStage). s.name) raws) ≡ true → IsTrue (are_stages stages)
  stages-stand distinct =
      let leads = each_passes_at (resolved_stage programs raws) (leads_on (length raws)) (stage-leads programs raws) 0 raws stages stages-all in
      let names : are_distinct bytes_eq (map (λ (s : Stage). s.name) stages) ≡ true = rw stages-names distinct in
      let links : IsTrue (list_all (leads_on (length stages)) (enumerate_from 0 stages)) = rw stages-count leads in
      and_from _ _ names links

  pub stages-few : IsTrue (is_between 1 64 (length raws)) → IsTrue (is_between 1 64 (length stages))
  stages-few few = rw stages-count few

  pub stages-members : IsTrue (list_all (has_members programs) stages)
  stages-members =
      each_passes (resolved_stage programs raws) (has_members programs) (λ (x : ℕ × RawStage) (y : Stage) h. stage-members programs raws x.0 x.1 y h) (enumerate_from 0 raws) stages stages-all

to_set-same : (name : List ℕ) (stages : List Stage) (set : SetDef) → to_set name stages ≡ Ok set → (set.name ≡ name) × (set.stages ≡ stages)
to_set-same name stages set e =
    let p = proven-ok _ _ _ set e in (ap (λ (s : SetDef). s.name) (sym p.1), ap (λ (s : SetDef). s.stages) (sym p.1))

module _ (programs : List Program) (raw : RawSet) (set : SetDef) (e : resolved_set programs raw ≡ Ok set) where
  set-stages : (stages : List Stage) × (all_good (map (resolved_stage programs raw.stages.list) (enumerate_from 0 raw.stages.list)) ≡ Ok stages) × (to_set raw.name stages ≡ Ok set)
  unfolding resolved_set
  set-stages = judged-ok (to_set raw.name) (all_good (map (resolved_stage programs raw.stages.list) (enumerate_from 0 raw.stages.list))) set e

  pub set-name : set.name ≡ raw.name
  set-name = (to_set-same raw.name set-stages.0 set set-stages.2).0

  pub set-kept : IsTrue (is_set_of programs set)
  set-kept =
      rw (to_set-same raw.name set-stages.0 set set-stages.2).1 (stages-members programs raw.stages.list set-stages.0 set-stages.1)
