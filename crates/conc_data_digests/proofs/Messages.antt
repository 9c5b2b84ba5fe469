-- The messages, piece by piece.
use Rattle.std.proofs.Common.{◌≡◌, ◌∙◌, ℕ, List, [], ◌∷◌, ◌++◌, ap, append_assoc, arith}
use Rattle.std.specs.Prelude.{map}
use Rattle.std.specs.List.{concat}
use Rattle.std.proofs.lemmas.List.{append-nil}
use Rattle.std.proofs.lemmas.List.Folds.{concat-append}
use Rattle.std.proofs.lemmas.List.{map-append}
use Rattle.conc_data_digests.specs.Inputs.{base_message, framed, framed_table, message}

-- without a table
pub message_none : (setup script : List ℕ) → message setup script [] ≡ framed setup ++ framed script
unfolding message
message_none setup script = grind (arith, append_assoc, append-nil)

pub base_message_none : (setup : List ℕ) → base_message setup [] ≡ framed setup
unfolding base_message
base_message_none setup = grind (arith, append_assoc, append-nil)

-- with one more table
pub message_more : (setup script : List ℕ) (tables : List (List ℕ × List ℕ)) (table : List ℕ × List ℕ)
    → message setup script (tables ++ table ∷ []) ≡ message setup script tables ++ framed_table table
unfolding message
message_more setup script tables table = grind (arith, append_assoc, append-nil, concat-append, map-append)

pub base_message_more : (setup : List ℕ) (tables : List (List ℕ × List ℕ)) (table : List ℕ × List ℕ)
    → base_message setup (tables ++ table ∷ []) ≡ base_message setup tables ++ framed_table table
unfolding base_message
base_message_more setup tables table = grind (arith, append_assoc, append-nil, concat-append, map-append)

-- of whole lists, by other names for them
pub message_of : (setup script a b : List ℕ) (tables t : List (List ℕ × List ℕ)) → a ≡ setup → b ≡ script → t ≡ tables
    → (framed a ++ framed b) ++ concat (map framed_table t) ≡ message setup script tables
unfolding message
message_of setup script a b tables t same_setup same_script same_tables =
    ap (λ x. (framed x ++ framed b) ++ concat (map framed_table t)) same_setup
    ∙ ap (λ x. (framed setup ++ framed x) ++ concat (map framed_table t)) same_script
    ∙ ap (λ x. (framed setup ++ framed script) ++ concat (map framed_table x)) same_tables

pub base_message_of : (setup a : List ℕ) (tables t : List (List ℕ × List ℕ)) → a ≡ setup → t ≡ tables
    → framed a ++ concat (map framed_table t) ≡ base_message setup tables
unfolding base_message
base_message_of setup a tables t same_setup same_tables =
    ap (λ x. framed x ++ concat (map framed_table t)) same_setup
    ∙ ap (λ x. framed setup ++ concat (map framed_table x)) same_tables
