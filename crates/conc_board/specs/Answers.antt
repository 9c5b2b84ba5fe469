-- What a word shows, whatever it may be.
use Rattle.std.specs.Prelude.{◌≡◌, ◌≢◌, ◌⊎◌, ℕ, ◌/◌, ◌<◌, ◌≤◌}
use Rattle.conc_pool_seats.specs.Words.{claimed, done, ended, idle, released, running, stopping}
use Rattle.conc_board.specs.declared.hand.Claim.{Claim}
use Rattle.conc_board.specs.declared.hand.Polled.{Polled}
use Rattle.conc_board.specs.declared.hand.Polled.TheVariants as polled
use Rattle.conc_board.specs.declared.lead.Looked.{Looked}
use Rattle.conc_board.specs.declared.lead.Looked.TheVariants.{Free, Claimed, Running, Ended}
use Rattle.conc_board.specs.declared.lead.Progress.{Progress}
use Rattle.conc_board.specs.declared.lead.Progress.TheVariants as progress

-- the lead
abbrev pub LookedBy : Looked → ℕ → Type 0
LookedBy Free n = (n < 256) ⊎ (1280 ≤ n)
LookedBy (Claimed p) n = (p.index < 256) × (n ≡ claimed p)
LookedBy (Running p) n = (p.index < 256) × ((n ≡ running p) ⊎ (n ≡ stopping p))
LookedBy (Ended p) n = (p.index < 256) × (n ≡ ended p)

-- how far the request has come
abbrev pub ProgressBy : Progress → ℕ → Type 0
ProgressBy progress.NotLet n = n ≡ idle
ProgressBy progress.Let n = (n ≡ released) ⊎ (n / 256 ≡ 1)
ProgressBy progress.Gone n = (3 ≤ n) × (n / 256 ≢ 1)
ProgressBy progress.Done n = n ≡ done

-- a hand that waits
abbrev pub PolledBy : Polled → Claim → ℕ → Type 0
PolledBy (polled.Go permit) claim n =
    ((n ≡ running claim.place) ⊎ (n ≡ stopping claim.place))
    × (permit.request ≡ claim.request) × (permit.place ≡ claim.place)
PolledBy (polled.NotYet same) claim n =
    (n ≡ claimed claim.place) × (same.request ≡ claim.request) × (same.place ≡ claim.place)
PolledBy polled.Withdrawn claim n =
    (n ≢ claimed claim.place) × (n ≢ running claim.place) × (n ≢ stopping claim.place)
