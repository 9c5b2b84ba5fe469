-- The script: a command in each record after the header.
use Rattle.std.specs.Prelude.{◌≡◌, ℕ, ◌-◌, Bool, true, false, not, ◌&&◌, ◌||◌, nat_lt, if◌then◌else◌, List, [], ◌∷◌, ◌++◌, codes, drop, get_or, length, map, take, Option, None, Some, is_none}
use Rattle.std.specs.Bool.{then_some}
use Rattle.std.specs.List.{list_all, position, sum_by}
use Rattle.std.specs.Option.{option_and_then, option_map, option_map_or, option_or}
use Rattle.std.specs.Str.{bytes_eq, is_utf8}
use Rattle.conc_types.specs.declared.kind.RefusalKind.{RefusalKind}
use Rattle.conc_types.specs.declared.kind.RefusalKind.TheVariants as refused
use Rattle.conc_types.specs.declared.event.Moment.{Moment}
use Rattle.conc_types.specs.declared.event.RequestId.{RequestId}
use Rattle.conc_types.specs.declared.item.Item.{Item}
use Rattle.conc_types.specs.declared.item.Item.TheVariants as item
use Rattle.conc_types.specs.declared.script.Act.{Act}
use Rattle.conc_types.specs.declared.script.Act.TheVariants as act
use Rattle.conc_types.specs.declared.script.Order.{Order}
use Rattle.conc_types.specs.declared.script.Script.{Script}
use Rattle.conc_types.specs.declared.setup.Setup.{Setup}
use Rattle.conc_types.specs.Decimals.{decimal_value}
use Rattle.conc_types.specs.Faults.{Fault, first_broken, first_fault}
use Rattle.conc_types.specs.Scripts.{count_of}
use Rattle.conc_types.specs.Texts.{is_name, is_text}
use Rattle.conc_types.specs.Words.{has_length, is_between, is_empty, some_and}
use Rattle.conc_base_law.specs.Calendar.{moment_of}
use Rattle.conc_data_records.specs.Records.{Record, records_of}

-- ---- records

-- at,do,what,user,priority,start,domain,argument
abbrev pub header : Record
header =
    codes "at" ∷ codes "do" ∷ codes "what" ∷ codes "user" ∷ codes "priority" ∷ codes "start" ∷ codes "domain" ∷ codes "argument" ∷ []

-- the field at a place, from 0
abbrev pub field : ℕ → Record → List ℕ
field n r = get_or r n []

abbrev pub at_field : Record → List ℕ
at_field = field 0

abbrev pub word_field : Record → List ℕ
word_field = field 1

abbrev pub what_field : Record → List ℕ
what_field = field 2

abbrev pub user_field : Record → List ℕ
user_field = field 3

abbrev pub priority_field : Record → List ℕ
priority_field = field 4

abbrev pub start_field : Record → List ℕ
start_field = field 5

abbrev pub domain_field : Record → List ℕ
domain_field = field 6

abbrev pub argument_field : Record → List ℕ
argument_field = field 7

-- the record with this number, from 1
abbrev pub record_at : List Record → ℕ → Record
record_at records n = get_or records (n - 1) []

abbrev pub is : List ℕ → List ℕ → Bool
is word bytes = bytes_eq bytes word

abbrev pub is_submit : Record → Bool
is_submit r = is (codes "submit") (word_field r)

abbrev pub is_word : List ℕ → Bool
is_word bytes =
    is (codes "submit") bytes || (is (codes "hold") bytes || (is (codes "unhold") bytes || (is (codes "cancel") bytes || is (codes "terminate") bytes)))

-- ---- what the fields say

-- the program or set with this name
unfoldable pub item_named : Setup → List ℕ → Option Item
item_named setup name =
    option_or
    (option_map (λ n. item.Program n) (position (λ (p : _). bytes_eq name p.name) setup.programs))
    (option_map (λ n. item.Set n) (position (λ (s : _). bytes_eq name s.name) setup.sets))

-- 1 to 99, or 50 where it is empty
unfoldable pub priority_of : List ℕ → Option ℕ
priority_of bytes =
    if is_empty bytes then Some 50
    else option_and_then (λ n. then_some (is_between 1 99 n) n) (decimal_value bytes)

-- a moment, or that of the command where it is empty
unfoldable pub start_of : Moment → List ℕ → Option Moment
start_of at bytes = if is_empty bytes then Some at else moment_of bytes

-- a name, or `Standard` where it is empty
unfoldable pub domain_of : List ℕ → Option (List ℕ)
domain_of bytes = if is_empty bytes then Some (codes "Standard") else then_some (is_name bytes) bytes

unfoldable pub submission_of : Setup → Moment → Record → Option Act
submission_of setup at r =
    option_and_then (λ what. option_and_then (λ priority. option_and_then (λ start. option_map (λ domain.
    act.Submit what (user_field r) priority start domain (argument_field r))
    (domain_of (domain_field r))) (start_of at (start_field r))) (priority_of (priority_field r))) (item_named setup (what_field r))

-- what a word other than `submit` does to a request
abbrev pub act_on : List ℕ → RequestId → Act
act_on word r =
    if is (codes "hold") word then act.Hold r
    else (if is (codes "unhold") word then act.Unhold r else (if is (codes "cancel") word then act.Cancel r else act.Terminate r))

unfoldable pub act_of : Setup → Moment → Record → Option Act
act_of setup at r =
    if is_submit r then submission_of setup at r
    else option_map (λ n. act_on (word_field r) (record { number = n })) (decimal_value (what_field r))

-- the command that a record spells
unfoldable pub order_of : Setup → Record → Option Order
order_of setup r =
    option_and_then (λ at. option_map (λ does. record { at = at; act = does }) (act_of setup at r)) (moment_of (at_field r))

-- ---- faults

-- how many requests a record enters
unfoldable pub entered_by_record : Setup → Record → ℕ
entered_by_record setup r =
    if is_submit r then option_map_or (count_of setup) (item_named setup (what_field r)) 0 else 0

-- how many requests the records before one enter
unfoldable pub entered_before : Setup → List Record → ℕ → ℕ
entered_before setup records n = sum_by (entered_by_record setup) (take (n - 1) records)

-- eight fields of UTF-8
unfoldable pub is_record : Record → Bool
is_record r = has_length 8 r && list_all is_utf8 r

abbrev pub is_earlier : Option Moment → Option Moment → Bool
is_earlier (Some t) (Some before) = nat_lt t.seconds before.seconds
is_earlier _ _ = false

-- a submission names a program or set; any other command names, by a decimal, a request that an earlier record enters
unfoldable pub what_rules : Setup → ℕ → Record → List (Bool × RefusalKind)
what_rules setup entered r =
    if is_submit r then (is_none (item_named setup (what_field r)), refused.UnknownItem) ∷ []
    else (is_none (decimal_value (what_field r)), refused.BadField) ∷ (not (some_and (is_between 1 entered) (decimal_value (what_field r))), refused.UnknownRequest) ∷ []

-- the form of the fields behind: a user, priority, start, domain and argument; or the user alone, which may lack
unfoldable pub has_form : Record → Bool
has_form r =
    if is_submit r
    then is_name (user_field r)
    && (not (is_none (priority_of (priority_field r)))
    && ((is_empty (start_field r) || not (is_none (moment_of (start_field r))))
    && (not (is_none (domain_of (domain_field r))) && is_text 200 (argument_field r))))
    else (is_empty (user_field r) || is_name (user_field r))
    && (is_empty (priority_field r) && (is_empty (start_field r) && (is_empty (domain_field r) && is_empty (argument_field r))))

-- the first rule that the record with this number breaks
unfoldable pub record_kind : Setup → List Record → ℕ → Option RefusalKind
record_kind setup records n =
    first_broken (
    (not (is_record (record_at records n)), refused.NotCsv) ∷ (nat_lt 4097 n, refused.TooManyLines)
    ∷ (is_none (moment_of (at_field (record_at records n))), refused.BadField)
    ∷ (is_earlier (moment_of (at_field (record_at records n))) (moment_of (at_field (record_at records (n - 1)))), refused.MomentBack)
    ∷ (not (is_word (word_field (record_at records n))), refused.UnknownWord)
    ∷ what_rules setup (entered_before setup records n) (record_at records n)
    ++ (not (has_form (record_at records n)), refused.BadField) ∷ [])

abbrev pub same_fields : Record → Record → Bool
same_fields [] [] = true
same_fields (field ∷ fields) (other ∷ others) = bytes_eq field other && same_fields fields others
same_fields _ _ = false

-- the first fault of these records: that the first one is not the header or is not there, or that of a later one
abbrev pub records_fault : Setup → List Record → Option Fault
records_fault setup [] = Some (1, refused.NotCsv)
records_fault setup (first ∷ rest) =
    if same_fields first header then first_fault (record_kind setup (first ∷ rest)) 2 (length rest) else Some (1, refused.NotCsv)

-- the first fault of a script: its size, or that of a record
unfoldable pub script_fault : Setup → List ℕ → Option Fault
script_fault setup bytes =
    if nat_lt 67108864 (length bytes) then Some (0, refused.TooManyLines) else records_fault setup (records_of bytes)

-- the bytes have no fault, and the records after the header are these commands
pub record SpellsScript (setup : Setup) (bytes : List ℕ) (script : Script) : Type 0 where
  pub faultless : script_fault setup bytes ≡ None
  pub commands : map (order_of setup) (drop 1 (records_of bytes)) ≡ map (λ order. Some order) script.commands
