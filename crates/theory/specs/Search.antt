-- A search upwards from 1 for the first number that passes a test, as a loop makes it: a turn that passes on, a turn
-- that finds it, and the end. Proves search_on, search_found, search_none. Assumes nothing.
use Rattle.std.specs.Prelude.{◌≡◌, Bool, true, false, ℕ, suc, ◌+◌, ◌≤◌, ◌<◌}
use Rattle.std.proofs.Common.{sym, ◌∙◌, arith, add-one}
use Rattle.model.specs.Basics.{first_to}
use Rattle.std.specs.declared.option.Option.TheVariants.{Some, None}
use Rattle.theory.specs.Ranges.{when_false, first_to_further, first_to_nowhere, first_to-first}

module _ (p : ℕ → Bool) (v : ℕ) (none : first_to v p ≡ None) where
  pub search_on : p (v + 1) ≡ false → first_to (v + 1) p ≡ None
  search_on h = rw add-one (first_to_further v p none ∙ when_false (p (suc v)) (suc v) (rw add-one at h))

  pub search_found : (n : ℕ) → v < n → p (v + 1) ≡ true → first_to n p ≡ Some (v + 1)
  search_found n l h =
      first_to-first n (v + 1) p
      (record {
        low = omega arith;
        high = omega arith;
        passed = h;
        before = λ u a b. first_to_nowhere v p none u a (omega arith);
      })

  pub search_none : (n : ℕ) → v ≤ n → n ≤ v → None ≡ first_to n p
  search_none n a b = let e : v ≡ n = omega arith in sym (rw e at none)
