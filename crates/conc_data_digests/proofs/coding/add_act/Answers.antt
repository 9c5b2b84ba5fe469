use Rattle.std.proofs.Common.{◌≡◌, ℕ, List, [], ◌∷◌, ◌++◌, sym, subst, ap, ◌∙◌}
use Rattle.std.specs.Int.{to_be_bytes, w64}
use Rattle.std.proofs.lemmas.List.{append_assoc}
use Rattle.sha2.specs.Hashers.{Holds256}
use Rattle.conc_data_digests.specs.Stamps.{act_coding, item_coding, sized}
use Rattle.conc_data_digests.proofs.coding.add_act.Goals as goal

-- one byte, and six pieces
joined : (m : List ℕ) (code priority : ℕ) (item start user domain argument : List ℕ)
    → (((((m ++ code ∷ []) ++ item) ++ priority ∷ []) ++ start) ++ user) ++ domain ++ argument
    ≡ m ++ (code ∷ (item ++ (priority ∷ (start ++ (user ++ (domain ++ argument))))))
joined m code priority item start user domain argument = simp append_assoc

pub returns-in-Submit : goal.returns-in-Submit
returns-in-Submit c = λ m holds.
    let a = c.in-Submit in
    let start = to_be_bytes w64 a.start.seconds in
    let user = sized c.as_bytes.result.now in
    let domain = sized c.as_bytes-in-Submit.result.now in
    let argument = sized c.as_slice.result.now in
    let all =
    c.add_sized-in-Submit-2.ensures _ (c.add_sized-in-Submit.ensures _ (c.add_sized.ensures _ (c.add_moment.ensures _ (c.add_byte-in-Submit.ensures _ (c.add_item.ensures _ (c.add_byte.ensures m holds)))))) in
    let coded : (((((m ++ 1 ∷ []) ++ item_coding a.item) ++ a.priority ∷ []) ++ start) ++ user) ++ domain ++ argument ≡ m ++ act_coding c.args.act.now =
    joined m 1 a.priority (item_coding a.item) start user domain argument
    ∙ ap (λ u. m ++ (1 ∷ (item_coding a.item ++ (a.priority ∷ (start ++ (sized u ++ (domain ++ argument))))))) c.as_bytes.ensures
    ∙ ap (λ d. m ++ (1 ∷ (item_coding a.item ++ (a.priority ∷ (start ++ (sized a.user ++ (sized d ++ argument))))))) c.as_bytes-in-Submit.ensures
    ∙ ap (λ x. m ++ (1 ∷ (item_coding a.item ++ (a.priority ∷ (start ++ (sized a.user ++ (sized a.domain ++ sized x))))))) c.as_slice.ensures
    ∙ ap (λ act. m ++ act_coding act) (sym a.is) in
    subst (λ xs. Holds256 c.add_sized-in-Submit-2.new.hasher xs) coded all
