-- Tests and counts over lists, and over the list of what is made of each of 1 to n that passes a test: which elements
-- it has, and what is counted in it; and what stands in a list of numbers after a store. Defines Mem, From. Proves
-- every_all, all_every, every_at, count_of_one, chosen_from, chosen_mem, count_of_chosen; get_d_set, zeros. Assumes nothing.
use Prim.Native.Nat.{ℕ, zero, suc, ◌+◌, ◌≤◌, ◌<◌}
use Rattle.std.proofs.Common.{arith, le_of_suc-le-suc, not-suc-le-zero, true≢false, sym, ◌∙◌, inl, inr, ⊎_elim, get_or-set_same, get_or-set_other, eqb-true}
use Rattle.std.specs.Prelude.{Bool, true, false, ◌&&◌, ◌≡◌, ◌⊎◌, length, get_or, set, replicate, eqb}
use Rattle.std.proofs.Math.Path.{refl, ap}
use mathlib.Core.List.Memᴰ
use mathlib.Core.List.{List, [], ◌∷◌, ◌++◌, Memᴰ}
use Rattle.std.proofs.lemmas.Bool.{eqb-false}
use Rattle.model.specs.Basics.{pick, count_to, every}
use Rattle.model.specs.Runs.{count_of}
use Rattle.theory.specs.Bools.{bool_cases, both_true, and_false_left}
use Rattle.theory.specs.Ranges.{upto_suc, pick_true, pick_false, pick_both, count_to_zero, count_to_suc, count_to_no}
use Rattle.theory.specs.Chosen.{chosen, chosen_zero, chosen_yes, chosen_no}

abbrev pub Mem {ℓ} : {X : Type ℓ} → X → List X → Type ℓ
Mem x xs = Memᴰ x xs

-- ---- Every element

module _ {ℓ} {X : Type ℓ} (p : X → Bool) where
  pub every_all : (xs : List X) → every p xs ≡ true → (x : X) → Mem x xs → p x ≡ true
  unfolding every
  every_all [] e x h = absurd (Memᴰ.not-nil h)
  every_all (y ∷ ys) e x (Memᴰ.head q) = ap p q ∙ (both_true (p y) (every p ys) e).0
  every_all (y ∷ ys) e x (Memᴰ.tail h) = every_all ys (both_true (p y) (every p ys) e).1 x h

  pub all_every : (xs : List X) → ((x : X) → Mem x xs → p x ≡ true) → every p xs ≡ true
  unfolding every
  all_every [] h = refl
  all_every (y ∷ ys) h = rw (h y (Memᴰ.head refl)) (all_every ys (λ x m. h x (Memᴰ.tail m)))

  pub every_at : (xs : List X) (d : X) (i : ℕ) → every p xs ≡ true → i < length xs → p (get_or xs i d) ≡ true
  unfolding every
  every_at [] d i e h = absurd (not-suc-le-zero h)
  every_at (y ∷ ys) d zero e h = (both_true (p y) (every p ys) e).0
  every_at (y ∷ ys) d (suc i) e h = every_at ys d i (both_true (p y) (every p ys) e).1 (le_of_suc-le-suc h)

  -- ---- Counts over a list

  pub count_of_nil : count_of p [] ≡ 0
  unfolding count_of
  count_of_nil = refl

  count_of_yes : (x : X) (xs : List X) → p x ≡ true → count_of p (x ∷ xs) ≡ suc (count_of p xs)
  unfolding count_of
  count_of_yes x xs e = pick_true (p x) (suc (count_of p xs)) (count_of p xs) e

  count_of_no : (x : X) (xs : List X) → p x ≡ false → count_of p (x ∷ xs) ≡ count_of p xs
  unfolding count_of
  count_of_no x xs e = pick_false (p x) (suc (count_of p xs)) (count_of p xs) e

  pub count_of_cons : (x : X) (xs : List X) → count_of p (x ∷ xs) ≡ pick (p x) 1 0 + count_of p xs
  count_of_cons x xs =
      ⊎_elim (λ e. omega (arith, count_of_yes x xs e, pick_true {X = ℕ} (p x) 1 0 e))
      (λ e. omega (arith, count_of_no x xs e, pick_false {X = ℕ} (p x) 1 0 e)) (bool_cases (p x))

  count_of_more : (x : X) (xs : List X) → count_of p xs ≤ count_of p (x ∷ xs)
  unfolding count_of
  count_of_more x xs =
      pick_both (λ k. count_of p xs ≤ k) (p x) (suc (count_of p xs)) (count_of p xs) (omega arith) (omega arith)

  pub count_of_some : (xs : List X) (x : X) → Mem x xs → p x ≡ true → 1 ≤ count_of p xs
  count_of_some [] x h e = absurd (Memᴰ.not-nil h)
  count_of_some (y ∷ ys) x (Memᴰ.head q) e = omega (arith, count_of_yes y ys (ap p (sym q) ∙ e))
  count_of_some (y ∷ ys) x (Memᴰ.tail h) e = omega (arith, count_of_some ys x h e, count_of_more y ys)

  pub count_of_find : (xs : List X) → 1 ≤ count_of p xs → (x : X) × Mem x xs × (p x ≡ true)
  count_of_find [] h = absurd (omega (arith, count_of_nil))
  count_of_find (y ∷ ys) h =
      ⊎_elim (λ e. (y, Memᴰ.head refl, e))
      (λ e. let r = count_of_find ys (omega (arith, count_of_no y ys e)) in (r.0, Memᴰ.tail r.1, r.2))
      (bool_cases (p y))

  -- where one at most is counted, two that are counted are the same
  pub count_of_one : (xs : List X) (x y : X) → count_of p xs ≤ 1 → Mem x xs → Mem y xs → p x ≡ true → p y ≡ true → x ≡ y
  count_of_one [] x y h a b e e' = absurd (Memᴰ.not-nil a)
  count_of_one (z ∷ zs) x y h (Memᴰ.head q) (Memᴰ.head q') e e' = q ∙ sym q'
  count_of_one (z ∷ zs) x y h (Memᴰ.head q) (Memᴰ.tail b) e e' =
      absurd (omega (arith, count_of_some zs y b e', count_of_yes z zs (ap p (sym q) ∙ e)))
  count_of_one (z ∷ zs) x y h (Memᴰ.tail a) (Memᴰ.head q') e e' =
      absurd (omega (arith, count_of_some zs x a e, count_of_yes z zs (ap p (sym q') ∙ e')))
  count_of_one (z ∷ zs) x y h (Memᴰ.tail a) (Memᴰ.tail b) e e' =
      count_of_one zs x y (omega (arith, count_of_more z zs)) a b e e'

  count_of_append : (xs ys : List X) → count_of p (xs ++ ys) ≡ count_of p xs + count_of p ys
  count_of_append [] ys = omega (arith, count_of_nil)
  count_of_append (x ∷ xs) ys =
      let rest = count_of_append xs ys in
      ⊎_elim (λ e. omega (arith, count_of_yes x (xs ++ ys) e, count_of_yes x xs e))
      (λ e. omega (arith, count_of_no x (xs ++ ys) e, count_of_no x xs e)) (bool_cases (p x))

-- a test that passes less often counts less
pub count_of_le {ℓ} : {X : Type ℓ} (p q : X → Bool) (xs : List X) → ((x : X) → Mem x xs → p x ≡ true → q x ≡ true)
    → count_of p xs ≤ count_of q xs
count_of_le p q [] h = omega (arith, count_of_nil p)
count_of_le p q (x ∷ xs) h =
    let rest = count_of_le p q xs (λ y m. h y (Memᴰ.tail m)) in
    ⊎_elim (λ e. omega (arith, count_of_yes p x xs e, count_of_yes q x xs (h x (Memᴰ.head refl) e)))
    (λ e. omega (arith, count_of_no p x xs e, count_of_more q x xs)) (bool_cases (p x))

-- ---- Lists of what is made of each number that passes

module _ {ℓ} {X : Type ℓ} (p : ℕ → Bool) (f : ℕ → X) where
  -- what is listed
  pub record From (n : ℕ) (x : X) : Type ℓ where
    pub number : ℕ
    pub low : 1 ≤ number
    pub high : number ≤ n
    pub passed : p number ≡ true
    pub same : x ≡ f number

  from_more : (n : ℕ) (x : X) → From n x → From (suc n) x
  from_more n x r =
      record { number = r.number; low = r.low; high = omega (arith, r.high); passed = r.passed; same = r.same }

  pub chosen_from : (n : ℕ) (x : X) → Mem x (chosen p f n) → From n x
  chosen_from zero x h = absurd (Memᴰ.not-nil (rw (chosen_zero p f) at h))
  chosen_from (suc n) x h = go (p (suc n)) refl (chosen_from n x)
    where
      go : (b : Bool) → p (suc n) ≡ b → (Mem x (chosen p f n) → From n x) → From (suc n) x
      go true e ih = by (Memᴰ.append_cases (chosen p f n) (rw (chosen_yes p f n e) at h))
        where
          by : Mem x (chosen p f n) ⊎ Mem x (f (suc n) ∷ []) → From (suc n) x
          by (inl m) = from_more n x (ih m)
          by (inr m) =
              record {
                number = suc n;
                low = omega arith;
                high = omega arith;
                passed = e;
                same = Memᴰ.eq_of_singleton m;
              }
      go false e ih = from_more n x (ih (rw (chosen_no p f n e) at h))

  pub chosen_mem : (n v : ℕ) → 1 ≤ v → v ≤ n → p v ≡ true → Mem (f v) (chosen p f n)
  chosen_mem zero v low high e = absurd (omega arith)
  chosen_mem (suc n) v low high e = go (upto_suc n v high) (p (suc n)) refl (chosen_mem n v low)
    where
      go : (v ≤ n) ⊎ (v ≡ suc n) → (b : Bool) → p (suc n) ≡ b → (v ≤ n → p v ≡ true → Mem (f v) (chosen p f n))
          → Mem (f v) (chosen p f (suc n))
      go (inl l) true q ih = rw (chosen_yes p f n q) (Memᴰ.append_left (f (suc n) ∷ []) (ih l e))
      go (inl l) false q ih = rw (chosen_no p f n q) (ih l e)
      go (inr r) true q ih = rw (chosen_yes p f n q) (Memᴰ.append_right (chosen p f n) (Memᴰ.head (ap f r)))
      go (inr r) false q ih = absurd (true≢false (sym e ∙ ap p r ∙ q))

  -- what is counted in it
  pub count_of_chosen : (q : X → Bool) (n : ℕ) → count_of q (chosen p f n) ≡ count_to n (λ v. p v && q (f v))
  count_of_chosen q zero = ap (count_of q) (chosen_zero p f) ∙ count_of_nil q ∙ sym (count_to_zero (λ v. p v && q (f v)))
  count_of_chosen q (suc n) = go (p (suc n)) refl (count_of_chosen q n)
    where
      both : ℕ → Bool
      both v = p v && q (f v)

      go : (b : Bool) → p (suc n) ≡ b → count_of q (chosen p f n) ≡ count_to n both
          → count_of q (chosen p f (suc n)) ≡ count_to (suc n) both
      go true e ih =
          omega (
            arith,
            ap (count_of q) (chosen_yes p f n e),
            count_of_append q (chosen p f n) (f (suc n) ∷ []),
            count_of_cons q (f (suc n)) [],
            count_of_nil q,
            count_to_suc n both,
            ap (λ b. pick {X = ℕ} (b && q (f (suc n))) 1 0) e,
          )
      go false e ih =
          ap (count_of q) (chosen_no p f n e) ∙ ih
          ∙ sym (count_to_no n both (and_false_left (p (suc n)) (q (f (suc n))) e))

-- ---- A store

-- what stands at w after x is stored at q: y, where x is y if w is q, and y stood there if not
pub get_d_set : (l : List ℕ) (q x w y : ℕ) → (w ≡ q → (q < length l) × (x ≡ y)) → ((w ≡ q → ⊥) → get_or l w 0 ≡ y)
    → get_or (set l q x) w 0 ≡ y
get_d_set l q x w y here there = go (eqb w q) refl
  where
    go : (b : Bool) → eqb w q ≡ b → get_or (set l q x) w 0 ≡ y
    go true e =
        let same : w ≡ q = eqb-true w q e in
        ap (λ (k : ℕ). get_or (set l q x) k 0) same ∙ get_or-set_same l q x 0 (here same).0 ∙ (here same).1
    go false e = let other = eqb-false w q e in get_or-set_other l q w x 0 other ∙ there other

-- an array of zeros has 0 everywhere
pub zeros : (n h : ℕ) → get_or {A = ℕ} (replicate n 0) h 0 ≡ 0
zeros zero h = refl
zeros (suc n) zero = refl
zeros (suc n) (suc h) = zeros n h
