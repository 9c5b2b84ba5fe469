use Rattle.std.proofs.Common.{◌≡◌, ℕ, ◌+◌, ◌<◌, ◌≤◌, List, [], ◌∷◌, ◌++◌, drop, get_or, length, replicate, sym, ap, ◌∙◌}
use Rattle.std.proofs.lemmas.List.{append-nil, append_assoc, drop_all, drop_more}
use Rattle.conc_types.specs.declared.script.Order.{Order}
use Rattle.conc_data_digests.specs.Stamps.{hash_behind, stamp_of, stamps_behind}
use Rattle.conc_data_digests.proofs.Counting.{length-stamps_behind}
use Rattle.conc_data_digests.proofs.stamps.stamps_of.Goals as goal

-- the stamp of the next command, and those behind it
next-stamp : (orders : List Order) (order : Order) (i : ℕ) (hash : List ℕ) → i < length orders → order ≡ get_or orders i order
    → stamps_behind hash (drop i orders) ≡ stamp_of (hash_behind hash order) ∷ stamps_behind (hash_behind hash order) (drop (i + 1) orders)
unfolding stamps_behind
next-stamp orders order i hash below is =
    ap (λ os. stamps_behind hash os) (drop_more orders i order below ∙ ap (λ o. o ∷ drop (i + 1) orders) (sym is))

no-stamp : (orders : List Order) (i : ℕ) (hash : List ℕ) → length orders ≤ i → stamps_behind hash (drop i orders) ≡ []
unfolding stamps_behind
no-stamp orders i hash all = ap (λ os. stamps_behind hash os) (drop_all i orders all)

pub loop-order-preserved : goal.loop-order-preserved
loop-order-preserved c =
    let l = c.loop-order in
    let orders = c.args.orders.now in
    let order = c.order-item.result in
    let stamps = l.stamps.items in
    let next = hash_behind l.hash order in
    let behind = λ (hash : List ℕ). stamps_behind hash (drop (l.order-index + 1) orders) in
    ap (λ xs. xs ++ behind c.hash_behind-hash.result) c.in_ok-push.ensures.items
    ∙ ap (λ s. (stamps ++ s ∷ []) ++ behind c.hash_behind-hash.result) c.stamp_of.ensures
    ∙ ap (λ hash. (stamps ++ stamp_of hash ∷ []) ++ behind hash) c.hash_behind-hash.ensures
    ∙ append_assoc stamps (stamp_of next ∷ []) (behind next)
    ∙ ap (λ xs. stamps ++ xs) (sym (next-stamp orders order l.order-index l.hash c.loop-order-test.true c.order-item.is))
    ∙ l.invariant

pub returns : goal.returns
returns c =
    let l = c.loop-order in
    let all =
    sym (append-nil l.stamps.items)
    ∙ ap (λ xs. l.stamps.items ++ xs) (sym (no-stamp c.args.orders.now l.order-index l.hash c.loop-order-test.false))
    ∙ l.invariant in
    record { stamps = all; count = ap length all ∙ length-stamps_behind (replicate 32 0) c.args.orders.now }
