-- Document 02, 'The film maker's price': what a page costs by its fill, a plan's total, and the saving of the best plan
-- against the single-cut plan. Fewest pages is not lowest price: 'Cases' computes a tree whose best plan costs more than
-- another of its plans.
use Rattle.std.specs.Prelude.{ℕ, ◌*◌, ◌/◌, List, [], ◌∷◌, ℤ, pos, ◌-ℤ◌, get_or}
use Rattle.model.specs.Basics.{sum_to}
use Rattle.model.specs.Table.{limit_of, tree_of}
use Rattle.model.specs.Plan.{page_count, page_weight}
use Rattle.model.specs.Steps.{best_marks, single_marks}

-- a page's fill: so many fifteenths of the limit, rounded down
abbrev pub full_fill : ℕ
full_fill = 15

abbrev pub fill_of : ℕ → ℕ → ℕ
fill_of weight limit = full_fill * weight / limit

-- cents by fill, from an empty page to a full one
abbrev pub prices : List ℕ
prices =
    410 ∷ 405 ∷ 398 ∷ 390 ∷ 380 ∷ 368 ∷ 355 ∷ 340 ∷ 324 ∷ 306 ∷ 287 ∷ 266 ∷ 244 ∷ 221 ∷ 196 ∷ 90 ∷ []

abbrev pub price_at : ℕ → ℕ
price_at fill = get_or prices fill 0

-- what a page of this weight costs
abbrev pub cents_for : ℕ → ℕ → ℕ
cents_for weight limit = price_at (fill_of weight limit)

-- a plan's total: the cents of all its pages
unfoldable pub total_cents : List ℕ → List ℕ → ℕ
total_cents t m = sum_to (page_count t m) (λ p. cents_for (page_weight t m p) (limit_of t))

-- single total less best total, over the integers
unfoldable pub saving_of : List ℕ → ℤ
saving_of t =
    pos (total_cents t (single_marks (limit_of t) (tree_of t))) -ℤ pos (total_cents t (best_marks (limit_of t) (tree_of t)))
