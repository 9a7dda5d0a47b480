-- Laws of prices: a page's fill is the last entry exactly where the page weighs K (fill_full); each price is from 90 to
-- 410 cents (price_range), and so are a plan's cents a page (sum-most, sum_least, total_range), so that a total fits an
-- i32 (total_fits). Assumes nothing.
use Rattle.std.specs.Prelude.{ℕ, ◌*◌, ◌^◌, ◌≤◌, ◌<◌, ◌≡◌, ◌↔◌, List, leb}
use Rattle.std.proofs.Common.{arith, le-div_iff_mul-le, leb-true}
use Rattle.model.specs.Basics.{sum_to}
use Rattle.model.specs.Table.{limit_of}
use Rattle.model.specs.Plan.{page_count, page_weight}
use Rattle.model.specs.Prices.{full_fill, fill_of, prices, price_at, cents_for, total_cents}
use Rattle.theory.specs.Bools.{both_true}
use Rattle.theory.specs.Ranges.{Upto}
use Rattle.theory.specs.Sums.{sum_to_most, sum_to_least}
use Rattle.theory.specs.Lists.{every_at}
use Rattle.theory.specs.JudgeAnswers.{page_count_le}
use Rattle.theory.specs.PlanFeasible.{Judged, within_limit_lem}
use Rattle.theory.specs.PricePages.{fill_most, in_range, all_in_range}

-- ---- Fills

module _ (weight limit : ℕ) (within : weight ≤ limit) where
  pub fill_full : 1 ≤ limit → (fill_of weight limit ≡ full_fill) ↔ (weight ≡ limit)
  fill_full low =
      let iff = le-div_iff_mul-le {k = limit} {x = full_fill} {y = full_fill * weight} low in (
        λ e. omega (arith, iff.0 (omega (arith, e))),
        λ e. omega (arith, fill_most weight limit within, iff.1 (omega (arith, e))),
      )

-- ---- Prices

pub price_range : (fill : ℕ) → fill ≤ full_fill → (90 ≤ price_at fill) × (price_at fill ≤ 410)
price_range fill high =
    let both =
    both_true (leb 90 (price_at fill)) (leb (price_at fill) 410)
    (every_at in_range prices 0 fill all_in_range (omega arith)) in
    (leb-true 90 (price_at fill) both.0, leb-true (price_at fill) 410 both.1)

-- ---- Totals

-- pages of these weights, none over the limit
module _ (n limit : ℕ) (weight : ℕ → ℕ) (within : Upto n (λ p. weight p ≤ limit)) where
  page_range : Upto n (λ p. (90 ≤ cents_for (weight p) limit) × (cents_for (weight p) limit ≤ 410))
  page_range p low high =
      price_range (fill_of (weight p) limit) (fill_most (weight p) limit (within p low high))

  pub sum-most : sum_to n (λ p. cents_for (weight p) limit) ≤ n * 410
  sum-most = sum_to_most n 410 (λ p. cents_for (weight p) limit) (λ p low high. (page_range p low high).1)

  pub sum_least : n * 90 ≤ sum_to n (λ p. cents_for (weight p) limit)
  sum_least = sum_to_least n 90 (λ p. cents_for (weight p) limit) (λ p low high. (page_range p low high).0)

module _ {t m : List ℕ} (j : Judged t m) where
  pub total_range : (90 * page_count t m ≤ total_cents t m) × (total_cents t m ≤ 410 * page_count t m)
  unfolding total_cents
  total_range = (
    omega (arith, sum_least (page_count t m) (limit_of t) (page_weight t m) (within_limit_lem j)),
    omega (arith, sum-most (page_count t m) (limit_of t) (page_weight t m) (within_limit_lem j)),
  )

  -- a total is far below what an i32 holds
  pub total_fits : total_cents t m < 2 ^ 31
  total_fits = omega (arith, total_range.1, page_count_le t m, j.tree.sound.count_high)
