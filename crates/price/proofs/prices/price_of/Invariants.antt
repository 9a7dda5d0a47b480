-- The pages so far are added up.
use Rattle.std.proofs.Common.{◌≡◌, ◌≤◌, ◌*◌, ◌-◌, get_or}
use Rattle.model.specs.Basics.{sum_to}
use Rattle.model.specs.Prices.{cents_for}
use Rattle.price.proofs.prices.price_of.Given as goal

abbrev pub invariant-loop-page : goal.invariant-loop-page
invariant-loop-page l =
    (l.page - 1 ≤ l.page-end) × (l.cents ≤ 410 * (l.page - 1))
    × (l.cents ≡ sum_to (l.page - 1) (λ p. cents_for (get_or l.layout.weights p 0) l.limit))
