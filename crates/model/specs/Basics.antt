-- What the definitions are written with: a choice by a test, a place, and the numbers 1 to n summed, counted and
-- searched.
use Rattle.std.specs.Prelude.{ℕ, zero, suc, ◌+◌, Bool, true, false, ◌&&◌, List, [], ◌∷◌, ◌++◌, eqb}
use Rattle.std.specs.declared.option.Option.{Option}
use Rattle.std.specs.declared.option.Option.TheVariants.{Some, None}

unfoldable pub pick {ℓ} : {X : Type ℓ} → Bool → X → X → X
pick true x y = x
pick false x y = y

-- the place p where a condition holds
unfoldable pub when : Bool → ℕ → Option ℕ
when true p = Some p
when false p = None

-- what f makes of a place, or what stands in for none
unfoldable pub at_place {ℓ} : {X : Type ℓ} → Option ℕ → (ℕ → X) → X → X
at_place (Some p) f x = f p
at_place None f x = x

-- f 1 + f 2 + .. + f n
unfoldable pub sum_to : ℕ → (ℕ → ℕ) → ℕ
sum_to zero f = 0
sum_to (suc n) f = sum_to n f + f (suc n)

-- how many of 1 to n pass the test
unfoldable pub count_to : ℕ → (ℕ → Bool) → ℕ
count_to n p = sum_to n (λ v. pick (p v) 1 0)

-- the first of 1 to n that passes the test
unfoldable pub first_to : ℕ → (ℕ → Bool) → Option ℕ
first_to zero p = None
first_to (suc n) p = at_place (first_to n p) Some (when (p (suc n)) (suc n))

-- the last of 1 to n that passes the test, or 0
unfoldable pub last_to : ℕ → (ℕ → Bool) → ℕ
last_to zero p = 0
last_to (suc n) p = pick (p (suc n)) (suc n) (last_to n p)

-- f 1 ++ f 2 ++ .. ++ f n
unfoldable pub list_to {ℓ} : {X : Type ℓ} → ℕ → (ℕ → List X) → List X
list_to zero f = []
list_to (suc n) f = list_to n f ++ f (suc n)

-- every element passes the test
unfoldable pub every {ℓ} : {X : Type ℓ} → (X → Bool) → List X → Bool
every p [] = true
every p (x ∷ xs) = p x && every p xs

-- two lists of numbers are the same
unfoldable pub same_list : List ℕ → List ℕ → Bool
same_list [] [] = true
same_list [] (y ∷ ys) = false
same_list (x ∷ xs) [] = false
same_list (x ∷ xs) (y ∷ ys) = eqb x y && same_list xs ys
