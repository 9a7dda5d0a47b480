-- The numbers of 1 to n that pass a test, by their rank: how many pass up to each, which is the first, second, .., and
-- the list of what is made of each of them.
-- Defines Ranked, chosen. Proves ranked, ranked_one, count_to_only, length-chosen, get_d_chosen. Assumes nothing.
use Rattle.std.specs.Prelude.{ℕ, zero, suc, ◌≤◌, ◌<◌, Bool, true, false, ◌≡◌, refl, ◌⊎◌, List, [], ◌∷◌, ◌++◌, length, get_or, leb}
use Rattle.std.proofs.Common.{arith, true≢false, sym, ◌∙◌, ap, inl, inr, ⊎_elim, append-nil, length-append, leb-true, leb-false}
use Rattle.std.proofs.Math.ListN.{get_or-append}
use Rattle.std.proofs.Math.Seq.{get_or-append_seam}
use Rattle.model.specs.Basics.{pick, count_to, list_to}
use Rattle.theory.specs.Bools.{bool_cases}
use Rattle.theory.specs.Ranges.{Upto, pick_true, pick_false, order_cases, upto_suc, count_to_zero, count_to_suc}
use Rattle.theory.specs.Ranges.{count_to_yes, count_to_no, list_to_zero, list_to_suc}

module _ (p : ℕ → Bool) where
  pub count_to_mono : (m n : ℕ) → m ≤ n → count_to m p ≤ count_to n p
  count_to_mono m zero h = let z : m ≡ 0 = omega arith in rw z (omega arith)
  count_to_mono m (suc n) h =
      ⊎_elim (λ l. omega (arith, count_to_mono m n l, count_to_suc n p)) (λ e. rw e (omega arith)) (upto_suc n m h)

  -- one that passes adds one to the count
  pub count_to_pass : (v : ℕ) → 1 ≤ v → p v ≡ true → (u : ℕ) → u < v → count_to u p < count_to v p
  count_to_pass zero low e u h = absurd (omega arith)
  count_to_pass (suc v) low e u h = omega (arith, count_to_yes v p e, count_to_mono u v (omega arith))

  pub count_to_some : (n v : ℕ) → 1 ≤ v → v ≤ n → p v ≡ true → 1 ≤ count_to n p
  count_to_some n v low high e = omega (arith, count_to_pass v low e 0 low, count_to_mono v n high)

  -- v is the q-th of 1 to n that pass
  pub record Ranked (n q v : ℕ) : Type 0 where
    pub low : 1 ≤ v
    pub high : v ≤ n
    pub passed : p v ≡ true
    pub rank : count_to v p ≡ q

  ranked_more : {n q v : ℕ} → Ranked n q v → Ranked (suc n) q v
  ranked_more r = record { low = r.low; high = omega (arith, r.high); passed = r.passed; rank = r.rank }

  pub ranked : (n q : ℕ) → 1 ≤ q → q ≤ count_to n p → (v : ℕ) × Ranked n q v
  ranked zero q low high = absurd (omega (arith, count_to_zero p))
  ranked (suc n) q low high =
      ⊎_elim
      (λ e.
      ⊎_elim (λ l. let r = ranked n q low l in (r.0, ranked_more r.1))
      (λ l. (suc n, record { low = omega arith; high = omega arith; passed = e; rank = count_to_yes n p e ∙ sym l }))
      (upto_suc (count_to n p) q (omega (arith, count_to_yes n p e))))
      (λ e. let r = ranked n q low (omega (arith, count_to_no n p e)) in (r.0, ranked_more r.1))
      (bool_cases (p (suc n)))

  -- two that pass and count the same are the same
  pub count_to_same : (u v : ℕ) → p u ≡ true → p v ≡ true → count_to u p ≡ count_to v p → u ≡ v
  count_to_same u v a b e = go (order_cases u v)
    where
      go : (u < v) ⊎ ((u ≡ v) ⊎ (v < u)) → u ≡ v
      go (inl h) = absurd (omega (arith, count_to_pass v (omega arith) b u h))
      go (inr (inl q)) = q
      go (inr (inr h)) = absurd (omega (arith, count_to_pass u (omega arith) a v h))

  -- there is one of each rank
  pub ranked_one : {n q u v : ℕ} → Ranked n q u → Ranked n q v → u ≡ v
  ranked_one {n} {q} {u} {v} r s = count_to_same u v r.passed s.passed (r.rank ∙ sym s.rank)

  -- the only one that passes
  pub count_to_only : (n v : ℕ) → 1 ≤ v → v ≤ n → p v ≡ true → Upto n (λ u. p u ≡ true → u ≡ v) → count_to n p ≡ 1
  count_to_only n v low high e only = go (leb (count_to n p) 1) refl
    where
      go : (b : Bool) → leb (count_to n p) 1 ≡ b → count_to n p ≡ 1
      go true q = omega (arith, leb-true (count_to n p) 1 q, count_to_some n v low high e)
      go false q =
          let more : 1 < count_to n p = leb-false (count_to n p) 1 q in
          let a = ranked n 1 (omega arith) (omega arith) in
          let b = ranked n 2 (omega arith) (omega arith) in
          let same : a.0 ≡ b.0 =
          only a.0 a.1.low a.1.high a.1.passed
          ∙ sym (only b.0 b.1.low b.1.high b.1.passed) in
          absurd (omega (arith, a.1.rank, b.1.rank, ap (λ u. count_to u p) same))

-- ---- The list of what is made of each that passes

module _ {ℓ} {X : Type ℓ} (p : ℕ → Bool) (f : ℕ → X) where
  abbrev pub chosen : ℕ → List X
  chosen n = list_to n (λ v. pick (p v) (f v ∷ []) [])

  pub chosen_zero : chosen 0 ≡ []
  chosen_zero = list_to_zero (λ v. pick (p v) (f v ∷ []) [])

  pub chosen_yes : (n : ℕ) → p (suc n) ≡ true → chosen (suc n) ≡ chosen n ++ (f (suc n) ∷ [])
  chosen_yes n e =
      list_to_suc n (λ v. pick (p v) (f v ∷ []) [])
      ∙ ap (λ (r : List X). chosen n ++ r) (pick_true (p (suc n)) (f (suc n) ∷ []) [] e)

  pub chosen_no : (n : ℕ) → p (suc n) ≡ false → chosen (suc n) ≡ chosen n
  chosen_no n e =
      list_to_suc n (λ v. pick (p v) (f v ∷ []) [])
      ∙ ap (λ (r : List X). chosen n ++ r) (pick_false (p (suc n)) (f (suc n) ∷ []) [] e) ∙ append-nil (chosen n)

  pub length-chosen : (n : ℕ) → length (chosen n) ≡ count_to n p
  length-chosen zero = ap length chosen_zero ∙ sym (count_to_zero p)
  length-chosen (suc n) =
      ⊎_elim
      (λ e.
      ap length (chosen_yes n e) ∙ length-append (chosen n) (f (suc n) ∷ [])
      ∙ omega (arith, count_to_yes n p e, length-chosen n))
      (λ e. ap length (chosen_no n e) ∙ length-chosen n ∙ sym (count_to_no n p e)) (bool_cases (p (suc n)))

  -- what is made of the one of rank i + 1 stands at i
  pub get_d_chosen : (n v i : ℕ) (d : X) → Ranked p n (suc i) v → get_or (chosen n) i d ≡ f v
  get_d_chosen zero v i d r = absurd (omega (arith, r.low, r.high))
  get_d_chosen (suc n) v i d r = by_last (p (suc n)) refl (upto_suc n v r.high) (get_d_chosen n v i d)
    where
      earlier : v ≤ n → Ranked p n (suc i) v
      earlier h = record { low = r.low; high = h; passed = r.passed; rank = r.rank }

      within : v ≤ n → i < length (chosen n)
      within h = omega (arith, length-chosen n, r.rank, count_to_mono p v n h)

      by_last : (b : Bool) → p (suc n) ≡ b → (v ≤ n) ⊎ (v ≡ suc n) → (Ranked p n (suc i) v → get_or (chosen n) i d ≡ f v)
          → get_or (chosen (suc n)) i d ≡ f v
      by_last true e (inl h) ih =
          ap (λ l. get_or l i d) (chosen_yes n e) ∙ get_or-append (chosen n) (f (suc n) ∷ []) d i (within h)
          ∙ ih (earlier h)
      by_last true e (inr q) ih =
          let here : i ≡ length (chosen n) =
          omega (arith, length-chosen n, r.rank, count_to_yes n p e, ap (λ u. count_to u p) q) in
          ap (λ l. get_or l i d) (chosen_yes n e)
          ∙ ap (λ k. get_or (chosen n ++ (f (suc n) ∷ [])) k d) here
          ∙ get_or-append_seam (chosen n) (f (suc n)) [] d
          ∙ ap f (sym q)
      by_last false e (inl h) ih = ap (λ l. get_or l i d) (chosen_no n e) ∙ ih (earlier h)
      by_last false e (inr q) ih = absurd (true≢false (sym r.passed ∙ ap p q ∙ e))
