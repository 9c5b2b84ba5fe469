-- The line of a request, in the three parts in which it is written.
use Rattle.std.proofs.Common.{◌≡◌, ℕ, List, [], ◌∷◌, ◌++◌, append_assoc, ap, sym, ◌∙◌, arith}
use Rattle.std.specs.Prelude.{codes}
use Rattle.std.specs.Fmt.{decimal}
use Rattle.std.specs.List.{join_with_byte}
use Rattle.conc_types.specs.declared.plan.Plan.{Plan}
use Rattle.conc_types.specs.declared.plan.Req.{Req}
use Rattle.conc_base_law.specs.Moments.{moment_text}
use Rattle.conc_base_law.specs.Text.{item_name}
use Rattle.conc_history.specs.Listing.{listed, parent_word}

in-parts : (a b c d e f g h : List ℕ) → join_with_byte 9 (a ∷ b ∷ c ∷ d ∷ e ∷ f ∷ g ∷ h ∷ []) ++ codes "\n"
    ≡ join_with_byte 9 (a ∷ b ∷ c ∷ []) ++ 9 ∷ (join_with_byte 9 (d ∷ e ∷ []) ++ 9 ∷ (join_with_byte 9 (f ∷ g ∷ h ∷ []) ++ 10 ∷ []))
in-parts a b c d e f g h = grind (arith, append_assoc)

-- what stood before, and then the line
pub listed_after : (plan : Plan) (r : Req) (start one two three four after : List ℕ)
    → one ≡ start ++ join_with_byte 9 (decimal r.number.number ∷ decimal r.priority ∷ moment_text r.start ∷ [])
    → two ≡ one ++ 9 ∷ []
    → three ≡ two ++ join_with_byte 9 (parent_word r.parent ∷ decimal r.stage ∷ [])
    → four ≡ three ++ 9 ∷ []
    → after ≡ four ++ (join_with_byte 9 (r.domain ∷ r.user ∷ item_name plan r.item ∷ []) ++ 10 ∷ [])
    → after ≡ start ++ listed plan r
unfolding listed
listed_after plan r start one two three four after is_one is_two is_three is_four is_after =
    let x = join_with_byte 9 (decimal r.number.number ∷ decimal r.priority ∷ moment_text r.start ∷ []) in
    let y = join_with_byte 9 (parent_word r.parent ∷ decimal r.stage ∷ []) in
    let z = join_with_byte 9 (r.domain ∷ r.user ∷ item_name plan r.item ∷ []) ++ 10 ∷ [] in
    let all : after ≡ start ++ (x ++ 9 ∷ (y ++ 9 ∷ z)) = grind (arith, append_assoc, is_one, is_two, is_three, is_four, is_after) in
    all ∙ ap (λ l. start ++ l) (sym (in-parts (decimal r.number.number) (decimal r.priority) (moment_text r.start) (parent_word r.parent) (decimal r.stage) r.domain r.user (item_name plan r.item)))
