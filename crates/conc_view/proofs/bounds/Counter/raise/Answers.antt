use Rattle.std.proofs.Common.{◌≡◌, ◌≤◌, ℕ, rules, true}
use Rattle.conc_view.proofs.Seated.{raises}
use Rattle.conc_view.proofs.bounds.Counter.raise.Goals as goal

pub store-requires : goal.store-requires
store-requires g c =
    let own : c.self.inside.seat.me.0.raises ≡ true = rw c.self.view_is c.requires.raises in
    let up : c.self.inside.seat.me.0.number ≤ c.args.to = rw c.self.view_is c.requires.up in
    (search rules, search rules, raises ℕ _ _ _ c.args.to own up)
