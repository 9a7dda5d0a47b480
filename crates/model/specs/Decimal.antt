-- Numbers and words in text. A list of numbers is a string of bytes; the digit 0 is byte 48.
use Rattle.std.specs.Prelude.{ℕ, zero, suc, ◌+◌, ◌/◌, ◌%◌, List, [], ◌∷◌, ◌++◌, ltb}
use Prim.Native.Char.{code}
use Prim.Native.String.{String, [] as ε, ◌∷◌ as ◌∷ˢ◌}
use Rattle.model.specs.Basics.{pick}

-- a number in decimal, of at most f digits, with no zero in front
unfoldable pub decimal_to : ℕ → ℕ → List ℕ
decimal_to zero n = []
decimal_to (suc f) n = pick (ltb n 10) ((48 + n) ∷ []) (decimal_to f (n / 10) ++ ((48 + n % 10) ∷ []))

-- ten digits hold every number of 32 bits
unfoldable pub decimal : ℕ → List ℕ
decimal n = decimal_to 10 n

-- the bytes of a text, a byte a character
abbrev pub bytes : String → List ℕ
bytes ε = []
bytes (c ∷ˢ s) = code c ∷ bytes s
