-- Laws of a choice by a test, of a place, of two numbers in order, of what goes by earlier numbers, and of the numbers
-- 1 to n summed, counted, searched and listed. `Upto n P` says P of each of 1 to n. Assumes nothing.
use Rattle.std.specs.Prelude.{ℕ, zero, suc, ◌+◌, ◌≤◌, ◌<◌, Bool, true, false, ◌≡◌, refl, ◌⊎◌, List, [], ◌∷◌, ◌++◌, length, get_or, eqb, leb}
use Rattle.std.proofs.Common.{arith, eq-or-lt_of_le, eq-zero-or-pos, true≢false, sym, ◌∙◌, ap, inl, inr, ⊎_elim, length-append, eqb-true, leb-true, leb-false}
use Rattle.std.proofs.Math.Nat.{le-suc_iff}
use Rattle.std.proofs.lemmas.Bool.{false≢true, eqb-false}
use Rattle.std.proofs.Math.ListN.{get_or-append}
use Rattle.std.proofs.Math.Seq.{get_or-append_seam}
use Rattle.model.specs.Basics.{pick, when, at_place, sum_to, count_to, first_to, last_to, list_to}
use Rattle.std.specs.declared.option.Option.{Option}
use Rattle.std.specs.declared.option.Option.TheVariants.{Some, None}
use Rattle.theory.specs.Bools.{bool_cases}

-- ---- Choices and places

pub pick_true {ℓ} : {X : Type ℓ} (b : Bool) (x y : X) → b ≡ true → pick b x y ≡ x
unfolding pick
pick_true true x y e = refl
pick_true false x y e = absurd (false≢true e)

pub pick_false {ℓ} : {X : Type ℓ} (b : Bool) (x y : X) → b ≡ false → pick b x y ≡ y
unfolding pick
pick_false true x y e = absurd (true≢false e)
pick_false false x y e = refl

-- what holds of both holds of the choice
pub pick_both {ℓ ℓ'} : {X : Type ℓ} (P : X → Type ℓ') (b : Bool) (x y : X) → P x → P y → P (pick b x y)
unfolding pick
pick_both P true x y p q = p
pick_both P false x y p q = q

pub when_true : (b : Bool) (p : ℕ) → b ≡ true → when b p ≡ Some p
unfolding when
when_true true p e = refl
when_true false p e = absurd (false≢true e)

pub when_false : (b : Bool) (p : ℕ) → b ≡ false → when b p ≡ None
unfolding when
when_false true p e = absurd (true≢false e)
when_false false p e = refl

pub at_nowhere : (p : ℕ) → Some p ≡ None → ⊥
at_nowhere p e = let z : ◌≡◌ {A = ℕ} 0 1 = cc in omega arith

pub at_same : {p q : ℕ} → Some p ≡ Some q → p ≡ q
at_same e = cc

pub when_nowhere : (b : Bool) (p : ℕ) → when b p ≡ None → b ≡ false
unfolding when
when_nowhere true p e = absurd (at_nowhere p e)
when_nowhere false p e = refl

when_at : (b : Bool) (p q : ℕ) → when b p ≡ Some q → (b ≡ true) × (p ≡ q)
unfolding when
when_at true p q e = (refl, at_same e)
when_at false p q e = absurd (at_nowhere q (sym e))

pub at_place_at {ℓ} : {X : Type ℓ} (o : Option ℕ) (p : ℕ) (f : ℕ → X) (x : X) → o ≡ Some p → at_place o f x ≡ f p
unfolding at_place
at_place_at o p f x e = rw e

pub at_place_nowhere {ℓ} : {X : Type ℓ} (o : Option ℕ) (f : ℕ → X) (x : X) → o ≡ None → at_place o f x ≡ x
unfolding at_place
at_place_nowhere o f x e = rw e

-- a place is a number or none
pub place_cases : (o : Option ℕ) → ((p : ℕ) × (o ≡ Some p)) ⊎ (o ≡ None)
place_cases (Some p) = inl (p, refl)
place_cases None = inr refl

-- ---- Numbers in order

pub order_cases : (a b : ℕ) → (a < b) ⊎ ((a ≡ b) ⊎ (b < a))
order_cases a b =
    ⊎_elim (λ e. ⊎_elim (λ q. inr (inl q)) inl (eq-or-lt_of_le (leb-true a b e))) (λ e. inr (inr (leb-false a b e)))
    (bool_cases (leb a b))

-- what holds of a number where it holds of all earlier ones holds of every number
pub by_earlier {ℓ} : (P : ℕ → Type ℓ) → ((v : ℕ) → ((u : ℕ) → u < v → P u) → P v) → (v : ℕ) → P v
by_earlier P turn v = upto (suc v) v (omega arith)
  where
    upto : (f u : ℕ) → u < f → P u
    upto zero u h = absurd (omega arith)
    upto (suc f) u h = turn u (λ w less. upto f w (omega arith))

-- what is found by steps back from v is found with v steps or more
pub steps_enough {ℓ} : {X : Type ℓ} (found : ℕ → ℕ → X) (back : ℕ → ℕ) → ((v : ℕ) → 1 ≤ v → back v < v)
    → ((f g : ℕ) → found f 0 ≡ found g 0)
    → ((f g v : ℕ) → found f (back v) ≡ found g (back v) → found (suc f) v ≡ found (suc g) v)
    → (f g v : ℕ) → v ≤ f → v ≤ g → found f v ≡ found g v
steps_enough found back less none turn zero g v a b = let z : v ≡ 0 = omega arith in rw z (none 0 g)
steps_enough found back less none turn (suc f) zero v a b = let z : v ≡ 0 = omega arith in rw z (none (suc f) 0)
steps_enough found back less none turn (suc f) (suc g) zero a b = none (suc f) (suc g)
steps_enough found back less none turn (suc f) (suc g) (suc v) a b =
    let l : back (suc v) < suc v = less (suc v) (omega arith) in
    turn f g (suc v) (steps_enough found back less none turn f g (back (suc v)) (omega arith) (omega arith))

-- ---- The numbers 1 to n

abbrev pub Upto {ℓ} : ℕ → (ℕ → Type ℓ) → Type ℓ
Upto n P = (v : ℕ) → 1 ≤ v → v ≤ n → P v

pub upto_suc : (n v : ℕ) → v ≤ suc n → (v ≤ n) ⊎ (v ≡ suc n)
upto_suc n v h = le-suc_iff.0 h

-- what holds of 1 to n and of n + 1 holds of 1 to n + 1, and back
upto_add {ℓ} : (P : ℕ → Type ℓ) (n : ℕ) → Upto n P → P (suc n) → Upto (suc n) P
upto_add P n below last v low high = ⊎_elim (below v low) (λ e. rw e last) (upto_suc n v high)

pub upto_less {ℓ} : (P : ℕ → Type ℓ) (n : ℕ) → Upto (suc n) P → Upto n P
upto_less P n h v low high = h v low (omega arith)

pub upto_last {ℓ} : (P : ℕ → Type ℓ) (n : ℕ) → Upto (suc n) P → P (suc n)
upto_last P n h = h (suc n) (omega arith) (omega arith)

-- ---- Sums

pub sum_to_zero : (f : ℕ → ℕ) → sum_to 0 f ≡ 0
unfolding sum_to
sum_to_zero f = refl

pub sum_to_suc : (n : ℕ) (f : ℕ → ℕ) → sum_to (suc n) f ≡ sum_to n f + f (suc n)
unfolding sum_to
sum_to_suc n f = refl

pub sum_to_cong : (n : ℕ) (f g : ℕ → ℕ) → Upto n (λ v. f v ≡ g v) → sum_to n f ≡ sum_to n g
sum_to_cong zero f g h = simp sum_to_zero
sum_to_cong (suc n) f g h =
    let before : sum_to n f ≡ sum_to n g = sum_to_cong n f g (upto_less (λ v. f v ≡ g v) n h) in
    let last : f (suc n) ≡ g (suc n) = upto_last (λ v. f v ≡ g v) n h in
    rw (sum_to_suc n f, sum_to_suc n g, before, last)

pub sum_to_add : (n : ℕ) (f g : ℕ → ℕ) → sum_to n (λ v. f v + g v) ≡ sum_to n f + sum_to n g
sum_to_add zero f g = simp sum_to_zero
sum_to_add (suc n) f g =
    omega (arith, sum_to_add n f g, sum_to_suc n (λ v. f v + g v), sum_to_suc n f, sum_to_suc n g)

pub sum_to_none : (n : ℕ) (f : ℕ → ℕ) → Upto n (λ v. f v ≡ 0) → sum_to n f ≡ 0
sum_to_none zero f h = sum_to_zero f
sum_to_none (suc n) f h =
    omega (arith, sum_to_none n f (upto_less (λ v. f v ≡ 0) n h), upto_last (λ v. f v ≡ 0) n h, sum_to_suc n f)

-- ---- Counts

pub count_to_zero : (p : ℕ → Bool) → count_to 0 p ≡ 0
unfolding count_to
count_to_zero p = sum_to_zero (λ v. pick (p v) 1 0)

pub count_to_suc : (n : ℕ) (p : ℕ → Bool) → count_to (suc n) p ≡ count_to n p + pick (p (suc n)) 1 0
unfolding count_to
count_to_suc n p = sum_to_suc n (λ v. pick (p v) 1 0)

pub count_to_yes : (n : ℕ) (p : ℕ → Bool) → p (suc n) ≡ true → count_to (suc n) p ≡ suc (count_to n p)
count_to_yes n p e = omega (arith, count_to_suc n p, pick_true {X = ℕ} (p (suc n)) 1 0 e)

pub count_to_no : (n : ℕ) (p : ℕ → Bool) → p (suc n) ≡ false → count_to (suc n) p ≡ count_to n p
count_to_no n p e = omega (arith, count_to_suc n p, pick_false {X = ℕ} (p (suc n)) 1 0 e)

pub count_to_le : (n : ℕ) (p : ℕ → Bool) → count_to n p ≤ n
count_to_le zero p = omega (arith, count_to_zero p)
count_to_le (suc n) p =
    omega (arith, count_to_le n p, count_to_suc n p, pick_both (λ k. k ≤ 1) (p (suc n)) 1 0 (omega arith) (omega arith))

pub count_to_all : (n : ℕ) (p : ℕ → Bool) → Upto n (λ v. p v ≡ true) → count_to n p ≡ n
count_to_all zero p h = count_to_zero p
count_to_all (suc n) p h =
    omega (
      arith,
      count_to_all n p (upto_less (λ v. p v ≡ true) n h),
      count_to_yes n p (upto_last (λ v. p v ≡ true) n h),
    )

pub count_to_none : (n : ℕ) (p : ℕ → Bool) → Upto n (λ v. p v ≡ false) → count_to n p ≡ 0
count_to_none zero p h = count_to_zero p
count_to_none (suc n) p h =
    omega (
      arith,
      count_to_none n p (upto_less (λ v. p v ≡ false) n h),
      count_to_no n p (upto_last (λ v. p v ≡ false) n h),
    )

pub count_to_full : (n : ℕ) (p : ℕ → Bool) → count_to n p ≡ n → Upto n (λ v. p v ≡ true)
count_to_full zero p e = λ v low high. absurd (omega arith)
count_to_full (suc n) p e =
    ⊎_elim (λ q. upto_add (λ v. p v ≡ true) n (count_to_full n p (omega (arith, count_to_yes n p q))) q)
    (λ q. absurd (omega (arith, count_to_no n p q, count_to_le n p))) (bool_cases (p (suc n)))

-- ---- The first that passes

pub first_to_zero : (p : ℕ → Bool) → first_to 0 p ≡ None
unfolding first_to
first_to_zero p = refl

pub first_to_suc : (n : ℕ) (p : ℕ → Bool) → first_to (suc n) p ≡ at_place (first_to n p) Some (when (p (suc n)) (suc n))
unfolding first_to
first_to_suc n p = refl

first_to_found : (n v : ℕ) (p : ℕ → Bool) → first_to n p ≡ Some v → first_to (suc n) p ≡ Some v
first_to_found n v p e = first_to_suc n p ∙ at_place_at (first_to n p) v Some (when (p (suc n)) (suc n)) e

pub first_to_further : (n : ℕ) (p : ℕ → Bool) → first_to n p ≡ None → first_to (suc n) p ≡ when (p (suc n)) (suc n)
first_to_further n p e = first_to_suc n p ∙ at_place_nowhere (first_to n p) Some (when (p (suc n)) (suc n)) e

pub first_to_cong : (n : ℕ) (p q : ℕ → Bool) → Upto n (λ v. p v ≡ q v) → first_to n p ≡ first_to n q
first_to_cong zero p q h = simp first_to_zero
first_to_cong (suc n) p q h =
    let before : first_to n p ≡ first_to n q = first_to_cong n p q (upto_less (λ v. p v ≡ q v) n h) in
    let last : p (suc n) ≡ q (suc n) = upto_last (λ v. p v ≡ q v) n h in
    rw (first_to_suc n p, first_to_suc n q, before, last)

-- no number passes, and none is found
pub first_to_none : (n : ℕ) (p : ℕ → Bool) → Upto n (λ v. p v ≡ false) → first_to n p ≡ None
first_to_none zero p h = first_to_zero p
first_to_none (suc n) p h =
    first_to_further n p (first_to_none n p (upto_less (λ v. p v ≡ false) n h))
    ∙ when_false (p (suc n)) (suc n) (upto_last (λ v. p v ≡ false) n h)

pub first_to_nowhere : (n : ℕ) (p : ℕ → Bool) → first_to n p ≡ None → Upto n (λ v. p v ≡ false)
first_to_nowhere zero p e = λ v low high. absurd (omega arith)
first_to_nowhere (suc n) p e =
    ⊎_elim (λ f. absurd (at_nowhere f.0 (sym (first_to_found n f.0 p f.1) ∙ e)))
    (λ q.
    upto_add (λ v. p v ≡ false) n (first_to_nowhere n p q)
    (when_nowhere (p (suc n)) (suc n) (sym (first_to_further n p q) ∙ e)))
    (place_cases (first_to n p))

-- v is the first of 1 to n that passes
pub record First (n : ℕ) (p : ℕ → Bool) (v : ℕ) : Type 0 where
  pub low : 1 ≤ v
  pub high : v ≤ n
  pub passed : p v ≡ true
  pub before : (u : ℕ) → 1 ≤ u → u < v → p u ≡ false

pub first_to_at : (n v : ℕ) (p : ℕ → Bool) → first_to n p ≡ Some v → First n p v
first_to_at zero v p e = absurd (at_nowhere v (sym e ∙ first_to_zero p))
first_to_at (suc n) v p e = go (first_to n p) refl (first_to_at n)
  where
    more : First n p v → First (suc n) p v
    more f = record { low = f.low; high = omega (arith, f.high); passed = f.passed; before = f.before }

    go : (o : Option ℕ) → first_to n p ≡ o → ((u : ℕ) (q : ℕ → Bool) → first_to n q ≡ Some u → First n q u) → First (suc n) p v
    go (Some u) q ih = more (ih v p (q ∙ sym (first_to_found n u p q) ∙ e))
    go None q ih =
        let both = when_at (p (suc n)) (suc n) v (sym (first_to_further n p q) ∙ e) in
        let none : Upto n (λ u. p u ≡ false) = first_to_nowhere n p q in
        record {
          low = omega arith;
          high = omega arith;
          passed = ap p (sym both.1) ∙ both.0;
          before = λ u l h. none u l (omega arith);
        }

-- the first one that passes is found
pub first_to-first : (n v : ℕ) (p : ℕ → Bool) → First n p v → first_to n p ≡ Some v
first_to-first n v p f = go (first_to n p) refl
  where
    go : (o : Option ℕ) → first_to n p ≡ o → first_to n p ≡ Some v
    go None e = absurd (true≢false (sym f.passed ∙ first_to_nowhere n p e v f.low f.high))
    go (Some u) e = e ∙ ap Some (same (order_cases u v))
      where
        g : First n p u
        g = first_to_at n u p e

        same : (u < v) ⊎ ((u ≡ v) ⊎ (v < u)) → u ≡ v
        same (inl h) = absurd (true≢false (sym g.passed ∙ f.before u g.low h))
        same (inr (inl q)) = q
        same (inr (inr h)) = absurd (true≢false (sym f.passed ∙ g.before v f.low h))

-- where none but x can pass
pub first_to_only : (n x : ℕ) (p : ℕ → Bool) → 1 ≤ x → x ≤ n → Upto n (λ u. (u ≡ x → ⊥) → p u ≡ false)
    → first_to n p ≡ when (p x) x
first_to_only n x p low high other =
    ⊎_elim
    (λ e.
    first_to-first n x p
    (record {
      low = low;
      high = high;
      passed = e;
      before = λ u a b. other u a (omega arith) (λ q. omega arith);
    })
    ∙ sym (when_true (p x) x e))
    (λ e.
    first_to_none n p
    (λ u a b. ⊎_elim (λ q. rw (eqb-true u x q) e) (λ q. other u a b (eqb-false u x q)) (bool_cases (eqb u x)))
    ∙ sym (when_false (p x) x e))
    (bool_cases (p x))

-- ---- The last that passes

pub last_to_zero : (p : ℕ → Bool) → last_to 0 p ≡ 0
unfolding last_to
last_to_zero p = refl

pub last_to_suc : (n : ℕ) (p : ℕ → Bool) → last_to (suc n) p ≡ pick (p (suc n)) (suc n) (last_to n p)
unfolding last_to
last_to_suc n p = refl

pub last_to_yes : (n : ℕ) (p : ℕ → Bool) → p (suc n) ≡ true → last_to (suc n) p ≡ suc n
last_to_yes n p e = last_to_suc n p ∙ pick_true (p (suc n)) (suc n) (last_to n p) e

pub last_to_no : (n : ℕ) (p : ℕ → Bool) → p (suc n) ≡ false → last_to (suc n) p ≡ last_to n p
last_to_no n p e = last_to_suc n p ∙ pick_false (p (suc n)) (suc n) (last_to n p) e

pub last_to_le : (n : ℕ) (p : ℕ → Bool) → last_to n p ≤ n
last_to_le zero p = omega (arith, last_to_zero p)
last_to_le (suc n) p =
    rw (last_to_suc n p)
    (pick_both (λ k. k ≤ suc n) (p (suc n)) (suc n) (last_to n p) (omega arith) (omega (arith, last_to_le n p)))

pub last_to_none : (n : ℕ) (p : ℕ → Bool) → Upto n (λ v. p v ≡ false) → last_to n p ≡ 0
last_to_none zero p h = last_to_zero p
last_to_none (suc n) p h =
    last_to_no n p (upto_last (λ v. p v ≡ false) n h) ∙ last_to_none n p (upto_less (λ v. p v ≡ false) n h)

last_to_nothing : (n : ℕ) (p : ℕ → Bool) → last_to n p ≡ 0 → Upto n (λ v. p v ≡ false)
last_to_nothing zero p e = λ v low high. absurd (omega arith)
last_to_nothing (suc n) p e =
    ⊎_elim (λ q. absurd (omega (arith, last_to_yes n p q)))
    (λ q. upto_add (λ v. p v ≡ false) n (last_to_nothing n p (sym (last_to_no n p q) ∙ e)) q) (bool_cases (p (suc n)))

-- v is the last of 1 to n that passes
pub record Last (n : ℕ) (p : ℕ → Bool) (v : ℕ) : Type 0 where
  pub low : 1 ≤ v
  pub high : v ≤ n
  pub passed : p v ≡ true
  pub after : (u : ℕ) → v < u → u ≤ n → p u ≡ false

pub last_to_at : (n v : ℕ) (p : ℕ → Bool) → last_to n p ≡ v → 1 ≤ v → Last n p v
last_to_at zero v p e low = absurd (omega (arith, last_to_zero p))
last_to_at (suc n) v p e low = go (p (suc n)) refl (last_to_at n v p)
  where
    go : (b : Bool) → p (suc n) ≡ b → (last_to n p ≡ v → 1 ≤ v → Last n p v) → Last (suc n) p v
    go true q ih =
        let same : suc n ≡ v = sym (last_to_yes n p q) ∙ e in
        record { low = low; high = omega arith; passed = ap p (sym same) ∙ q; after = λ u l h. absurd (omega arith) }
    go false q ih =
        let f : Last n p v = ih (sym (last_to_no n p q) ∙ e) low in
        record {
          low = low;
          high = omega (arith, f.high);
          passed = f.passed;
          after =
              λ u l h. upto_add (λ w. v < w → p w ≡ false) n (λ w a b c. f.after w c b) (λ c. q) u (omega arith) h l;
        }

-- the last one that passes is found
pub last_to_last : (n v : ℕ) (p : ℕ → Bool) → Last n p v → last_to n p ≡ v
last_to_last n v p f = go (eq-zero-or-pos u)
  where
    u : ℕ
    u = last_to n p

    go : (u ≡ 0) ⊎ (1 ≤ u) → u ≡ v
    go (inl z) = absurd (true≢false (sym f.passed ∙ last_to_nothing n p z v f.low f.high))
    go (inr one) = same (order_cases u v)
      where
        g : Last n p u
        g = last_to_at n u p refl one

        same : (u < v) ⊎ ((u ≡ v) ⊎ (v < u)) → u ≡ v
        same (inl h) = absurd (true≢false (sym f.passed ∙ g.after v h f.high))
        same (inr (inl q)) = q
        same (inr (inr h)) = absurd (true≢false (sym g.passed ∙ f.after u h g.high))

-- the only one that passes is found
pub last_to_only : (n v : ℕ) (p : ℕ → Bool) → 1 ≤ v → v ≤ n → p v ≡ true → Upto n (λ u. p u ≡ true → u ≡ v)
    → last_to n p ≡ v
last_to_only n v p low high pass only =
    last_to_last n v p (record { low = low; high = high; passed = pass; after = none })
  where
    none : (u : ℕ) → v < u → u ≤ n → p u ≡ false
    none u l h = ⊎_elim (λ e. absurd (omega (arith, only u (omega arith) h e))) (λ e. e) (bool_cases (p u))

-- ---- Lists

pub list_to_zero {ℓ} : {X : Type ℓ} (f : ℕ → List X) → list_to 0 f ≡ []
unfolding list_to
list_to_zero f = refl

pub list_to_suc {ℓ} : {X : Type ℓ} (n : ℕ) (f : ℕ → List X) → list_to (suc n) f ≡ list_to n f ++ f (suc n)
unfolding list_to
list_to_suc n f = refl

pub list_to_cong {ℓ} : {X : Type ℓ} (n : ℕ) (f g : ℕ → List X) → Upto n (λ v. f v ≡ g v) → list_to n f ≡ list_to n g
list_to_cong zero f g h = simp list_to_zero
list_to_cong (suc n) f g h =
    let before : list_to n f ≡ list_to n g = list_to_cong n f g (upto_less (λ v. f v ≡ g v) n h) in
    let last : f (suc n) ≡ g (suc n) = upto_last (λ v. f v ≡ g v) n h in
    rw (list_to_suc n f, list_to_suc n g, before, last)

pub length-list_to {ℓ} : {X : Type ℓ} (n : ℕ) (f : ℕ → X) → length (list_to n (λ v. f v ∷ [])) ≡ n
length-list_to zero f = rw (list_to_zero (λ v. f v ∷ []))
length-list_to (suc n) f =
    rw (list_to_suc n (λ v. f v ∷ []), length-append) (omega (arith, length-list_to n f))

pub get_d_list_to {ℓ} : {X : Type ℓ} (n i : ℕ) (f : ℕ → X) (d : X) → i < n
    → get_or (list_to n (λ v. f v ∷ [])) i d ≡ f (suc i)
get_d_list_to zero i f d h = absurd (omega arith)
get_d_list_to {X = X} (suc n) i f d h =
    rw (list_to_suc n (λ v. f v ∷ [])) (go (upto_suc n (suc i) h) (get_d_list_to n i f d))
  where
    xs : List X
    xs = list_to n (λ v. f v ∷ [])

    go : (suc i ≤ n) ⊎ (suc i ≡ suc n) → (i < n → get_or xs i d ≡ f (suc i))
        → get_or (xs ++ (f (suc n) ∷ [])) i d ≡ f (suc i)
    go (inl l) ih =
        let fits : i < length xs = rw (length-list_to n f) l in get_or-append xs (f (suc n) ∷ []) d i fits ∙ ih l
    go (inr e) ih =
        let here : i ≡ length xs = rw (length-list_to n f) (omega arith) in
        ap (λ k. get_or (xs ++ (f (suc n) ∷ [])) k d) here ∙ get_or-append_seam xs (f (suc n)) [] d ∙ ap f (sym e)
