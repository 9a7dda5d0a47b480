-- A plan of a tree by shape: which marks are allowed, and the weights of its pages in the order of their first nodes.
-- The marks of a chain are a list in node order; what stands after them in the list is not looked at.
-- Defines allowed, weighed, Weights, AllWithin, EachWithin. Assumes nothing.
use Rattle.std.specs.Prelude.{ℕ, zero, suc, ◌+◌, ◌≤◌, Bool, true, false, ◌&&◌, List, [], ◌∷◌, ◌++◌, drop}
use Rattle.model.specs.Table.{Chain, end, node}
unfoldable pub use Rattle.model.specs.Table.{size}

-- whether a mark puts its node in a run
unfoldable pub runs : ℕ → Bool
runs zero = false
runs (suc k) = true

-- 0 and 1 are allowed anywhere, and 2 after a sibling in a run
unfoldable pub allowed_mark : Bool → ℕ → Bool
allowed_mark after zero = true
allowed_mark after (suc zero) = true
allowed_mark after (suc (suc zero)) = after
allowed_mark after (suc (suc (suc k))) = false

-- the marks of a chain are allowed, where `after` says that the sibling just before it is in a run
unfoldable pub allowed : Bool → Chain → List ℕ → Bool
allowed after end ms = true
allowed after (node w l kids next) [] = false
allowed after (node w l kids next) (k ∷ ms) =
    allowed_mark after k && allowed false kids ms && allowed (runs k) next (drop (size kids) ms)

-- What the marks of a chain make of its weight: what stays on the parent's page, what goes to the run that the chain
-- continues, and the pages that begin in it, by their first nodes.
pub record Weights : Type 0 where
  pub stay : ℕ
  pub carry : ℕ
  pub pages : List ℕ

-- a node of weight w with mark k, from the weights of its children and of the siblings after it
unfoldable pub joined : ℕ → ℕ → Weights → Weights → Weights
joined zero w a b = record { stay = w + a.stay + b.stay; carry = 0; pages = a.pages ++ b.pages }
joined (suc zero) w a b =
    record { stay = b.stay; carry = 0; pages = (w + a.stay + b.carry) ∷ (a.pages ++ b.pages) }
joined (suc (suc k)) w a b = record { stay = b.stay; carry = w + a.stay + b.carry; pages = a.pages ++ b.pages }

unfoldable pub weighed : Chain → List ℕ → Weights
weighed end ms = record { stay = 0; carry = 0; pages = [] }
weighed (node w l kids next) [] = record { stay = 0; carry = 0; pages = [] }
weighed (node w l kids next) (k ∷ ms) = joined k w (weighed kids ms) (weighed next (drop (size kids) ms))

-- every page is within the limit
unfoldable pub AllWithin : ℕ → List ℕ → Type 0
AllWithin K [] = Unit {0}
AllWithin K (p ∷ ps) = (p ≤ K) × AllWithin K ps

-- no node of the chain outweighs K
unfoldable pub EachWithin : ℕ → Chain → Type 0
EachWithin K end = Unit {0}
EachWithin K (node w l kids next) = (w ≤ K) × EachWithin K kids × EachWithin K next
