-- What tells the numbers that a search looks for.
use Rattle.std.specs.Prelude.{ℕ, ◌≤◌, ◌≡◌, Bool}

-- for each of 1 to n, what `gives` allows is what the test says
abbrev pub IsTestTo : ℕ → (ℕ → Bool → Type 0) → (ℕ → Bool) → Type 0
IsTestTo n gives test = (v : ℕ) (b : Bool) → 1 ≤ v → v ≤ n → gives v b → b ≡ test v
