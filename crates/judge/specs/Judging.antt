-- What the judge learns of what it is given before a plan is laid, and what it leaves beside its answer: the layout of
-- every plan that it gives a verdict, and of a feasible one what is known of it.
-- Defines BeforePlan, LaidBeside. Proves beside_none, beside_laid. Assumes nothing.
use Rattle.std.specs.Prelude.{ℕ, Bool, true, ◌≡◌, List, length}
use Rattle.std.proofs.Common.{sym, ◌∙◌, ap}
use Rattle.model.specs.Table.{node_count}
use Rattle.model.specs.Refusals.{Answer, tree_checks, passes, judge_by}
use Rattle.theory.specs.PlanFeasible.{with_judged}
use Rattle.theory.specs.JudgedEntries.{judge_passes}
use Rattle.layout.specs.declared.Layout.{Layout}
use Rattle.layout.specs.Rows.{IsLayout, FeasibleLayout, feasible_layout}

-- the tree passes and there is a mark a node, or else the answer r is the judge's
pub record BeforePlan (filed : Bool) (t m : List ℕ) (r : Answer) : Type 0 where
  pub tree : r.number ≡ 0 → passes (tree_checks filed t) ≡ true
  pub long : r.number ≡ 0 → length m ≡ node_count t
  pub refuses : (r.number ≡ 0 → ⊥) → r ≡ judge_by (record { filed = filed }) t m
  pub none : (r.number ≡ 0 → ⊥) → passes (tree_checks filed t) ≡ true → length m ≡ node_count t → ⊥

pub record LaidBeside (filed : Bool) (t m : List ℕ) (r : Answer) (l : Layout) : Type 0 where
  pub laid : passes (tree_checks filed t) ≡ true → length m ≡ node_count t → IsLayout t m l
  pub feasible : r.number ≡ 0 → FeasibleLayout t m l

module _ {filed : Bool} {t m : List ℕ} {r : Answer} {l : Layout} where
  -- with no verdict
  pub beside_none : (passes (tree_checks filed t) ≡ true → length m ≡ node_count t → ⊥) → (r.number ≡ 0 → ⊥)
      → LaidBeside filed t m r l
  beside_none none other =
      record { laid = λ tree long. absurd (none tree long); feasible = λ z. absurd (other z) }

  -- with one
  pub beside_laid : r ≡ judge_by (record { filed = filed }) t m → IsLayout t m l → LaidBeside filed t m r l
  beside_laid is layout =
      record {
        laid = λ tree long. layout;
        feasible =
            λ z.
            feasible_layout
            (with_judged (record { filed = filed }) t m
            (judge_passes (record { filed = filed }) t m (sym (ap (λ (x : Answer). x.number) is) ∙ z)))
            layout;
      }
