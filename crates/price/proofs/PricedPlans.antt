-- The price of a plan, from the judge's answer, and its promise. Assumes nothing.
use Prim.Native.Nat.{ℕ}
use mathlib.Core.Path.{◌≡◌, sym, ◌∙◌, ap, ap₂}
use mathlib.Core.List.{List}
use Rattle.model.specs.Prices.{total_cents}
use Rattle.model.specs.Refusals.{Answer, answer_of, refusal_answer, plain_rules, judge_checks, judge_by, outcome, price_plan}
use Rattle.model.specs.Demand.{PricePromise}
use Rattle.model.specs.declared.Refusal.{Refusal}
use Rattle.model.specs.declared.Verdict.TheVariants.{Feasible}
use Rattle.theory.specs.Entries.{promised, entry_done, entry_stands}
use Rattle.theory.specs.JudgedEntries.{judge_passes, judge_given, given_zero}
use Rattle.theory.proofs.PromisePrice.{price_promise}
use Rattle.theory.specs.Refused.{refusal_number}

module _ (t m : List ℕ) where
  -- a refusal has no cents
  pub price_refused : (r : Refusal) → refusal_answer r ≡ judge_by plain_rules t m
      → outcome (refusal_answer r) 0 ≡ price_plan t m
  unfolding price_plan
  price_refused r e =
      entry_stands _ _ 0 (judge_checks plain_rules t m) (given_zero plain_rules t m) e (refusal_number r)

  -- a feasible plan has its total
  pub price_done : (pages root cents : ℕ) → answer_of (Feasible pages root) ≡ judge_by plain_rules t m
      → cents ≡ total_cents t m → outcome (answer_of (Feasible pages root)) cents ≡ price_plan t m
  unfolding price_plan
  price_done pages root cents e f =
      let passed = judge_passes plain_rules t m (sym (ap (λ (r : Answer). r.number) e)) in
      ap₂ outcome (e ∙ judge_given plain_rules t m passed) f
      ∙ sym (entry_done _ _ 0 (judge_checks plain_rules t m) passed)

  pub price_promised : {r : Answer} {cents : ℕ} → outcome r cents ≡ price_plan t m → PricePromise t m r cents
  price_promised e = (promised (PricePromise t m) (price_promise t m) e).1
