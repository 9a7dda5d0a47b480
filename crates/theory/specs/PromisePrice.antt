-- What the saving gives: the saving where it accepts (saved_done), and else 0 (saved_refused). Assumes nothing.
use Rattle.std.specs.Prelude.{ℕ, true, false, ◌≡◌, List, pos}
use Rattle.model.specs.Prices.{saving_of}
use Rattle.model.specs.Refusals.{plan_checks, passes}
use Rattle.model.specs.Refusals.{save_best}
use Rattle.theory.specs.Ranges.{pick_true, pick_false}

module _ (t m s : List ℕ) where
  pub saved_done : passes (plan_checks t m s) ≡ true → (save_best t m s).left.saving ≡ saving_of t
  unfolding save_best
  saved_done e = pick_true (passes (plan_checks t m s)) (saving_of t) (pos 0) e

  pub saved_refused : passes (plan_checks t m s) ≡ false → (save_best t m s).left.saving ≡ pos 0
  unfolding save_best
  saved_refused e = pick_false (passes (plan_checks t m s)) (saving_of t) (pos 0) e
