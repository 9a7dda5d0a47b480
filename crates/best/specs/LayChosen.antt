-- What becomes of nodes as it stands in arrays of marks and of second plans.
-- Defines chosen_in, choices_for, LaidRun. Proves choices_for_same, choices_for_more. Assumes nothing.
use Rattle.std.specs.Prelude.{ℕ, zero, suc, ◌+◌, ◌-◌, ◌≤◌, ◌<◌, ◌≡◌, refl, List, [], ◌∷◌, ◌++◌, length, get_or, Bool, false}
use Rattle.std.proofs.Common.{sym, ◌∙◌, ap, ap₂, arith}
use Rattle.model.specs.Steps.{Choice}
use Rattle.columns.specs.CellsRun.{nth_prev, nth_prev_shift}

-- the mark of node u, and whether it follows its second plan
abbrev pub chosen_in : List ℕ → List Bool → ℕ → Choice
chosen_in marks seconds u = record { mark = get_or marks (u - 1) 0; second = get_or seconds u false }

-- what becomes of node u and of the n - 1 siblings before it, the last first
unfoldable pub choices_for : List ℕ → (ℕ → Choice) → ℕ → ℕ → List Choice
choices_for prevs ch zero u = []
choices_for prevs ch (suc n) u = ch u ∷ choices_for prevs ch n (get_or prevs u 0)

-- it is the same where it is the same for each of them
pub choices_for_same : (prevs : List ℕ) (ch ch' : ℕ → Choice) (n u : ℕ)
    → ((i : ℕ) → i < n → ch (nth_prev prevs i u) ≡ ch' (nth_prev prevs i u))
    → choices_for prevs ch n u ≡ choices_for prevs ch' n u
unfolding choices_for nth_prev
choices_for_same prevs ch ch' zero u h = refl
choices_for_same prevs ch ch' (suc n) u h =
    ap₂ ◌∷◌ (h 0 (omega arith))
    (choices_for_same prevs ch ch' n (get_or prevs u 0)
    (λ i l. rw (nth_prev_shift prevs i u) at (h (suc i) (omega arith))))

-- first n, and then m more
pub choices_for_more : (prevs : List ℕ) (ch : ℕ → Choice) (n m u : ℕ)
    → choices_for prevs ch (n + m) u ≡ choices_for prevs ch n u ++ choices_for prevs ch m (nth_prev prevs n u)
unfolding choices_for nth_prev
choices_for_more prevs ch zero m u = let e : 0 + m ≡ m = omega arith in rw e refl
choices_for_more prevs ch (suc n) m u =
    let e : suc n + m ≡ suc (n + m) = omega arith in
    ap (λ k. choices_for prevs ch k u) e
    ∙ ap (λ l. ch u ∷ l)
    (choices_for_more prevs ch n m (get_or prevs u 0)
    ∙ ap (λ v. choices_for prevs ch n (get_or prevs u 0) ++ choices_for prevs ch m v) (sym (nth_prev_shift prevs n u)))

-- the choices of node c and of the n - 1 siblings before it are these, and those of every other node are as they were
pub record LaidRun (prevs : List ℕ) (n c : ℕ) (cs : List Choice) (marks : List ℕ) (seconds : List Bool) (marks' : List ℕ)
    (seconds' : List Bool) : Type 0 where
  pub long : length marks' ≡ length marks
  pub chosen : choices_for prevs (chosen_in marks' seconds') n c ≡ cs
  pub others : (u : ℕ) → 1 ≤ u → ((i : ℕ) → i < n → u ≡ nth_prev prevs i c → ⊥)
      → chosen_in marks' seconds' u ≡ chosen_in marks seconds u
