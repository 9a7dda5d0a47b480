-- Strings of bytes and their words of two bytes each: the words that are written are read, words below 65,536 make
-- bytes, and a string of bytes is that of its words.
-- Defines Words, Holds. Proves length_bytes_of, word_at_bytes_of, words_bytes, bytes_of_words. Assumes nothing.
use Rattle.std.specs.Prelude.{ℕ, zero, suc, ◌+◌, ◌*◌, ◌/◌, ◌%◌, ◌≤◌, ◌<◌, ◌≡◌, refl, List, [], ◌∷◌, ◌++◌, length, get_or, drop}
use Rattle.std.proofs.Common.{arith, sym, ◌∙◌, ap, ap₂, drop_of_length-le, drop-cons}
use Rattle.model.specs.Basics.{list_to}
use Rattle.model.specs.Table.{Bytes, word_at, bytes_of}
use Rattle.theory.specs.Ranges.{list_to_zero, list_to_suc}

-- ---- Written and read

pub length_bytes_of : (ws : List ℕ) → length (bytes_of ws) ≡ 2 * length ws
unfolding bytes_of
length_bytes_of [] = refl
length_bytes_of (w ∷ ws) = omega (arith, length_bytes_of ws)

-- a word after the first two bytes is a word of the rest
word_at_suc : (a b : ℕ) (t : List ℕ) (i : ℕ) → word_at (a ∷ b ∷ t) (suc i) ≡ word_at t i
unfolding word_at
word_at_suc a b t i =
    let high : 2 * suc i ≡ suc (suc (2 * i)) = omega arith in
    let low : 2 * suc i + 1 ≡ suc (suc (2 * i + 1)) = omega arith in
    rw (low, high)

pub word_at_bytes_of : (ws : List ℕ) (i : ℕ) → word_at (bytes_of ws) i ≡ get_or ws i 0
unfolding word_at bytes_of
word_at_bytes_of [] i = refl
word_at_bytes_of (w ∷ ws) zero = omega arith
word_at_bytes_of (w ∷ ws) (suc i) = word_at_suc (w / 256) (w % 256) (bytes_of ws) i ∙ word_at_bytes_of ws i

-- ---- Words below 65,536

abbrev pub Words : List ℕ → Type 0
Words ws = (i : ℕ) → get_or ws i 0 < 65536

pub word_small : (t : List ℕ) (i : ℕ) → Bytes t → word_at t i < 65536
unfolding word_at
word_small t i h = omega (arith, h (2 * i), h (2 * i + 1))

pub words_bytes : (ws : List ℕ) → Words ws → Bytes (bytes_of ws)
unfolding bytes_of
words_bytes [] h i = omega arith
words_bytes (w ∷ ws) h zero = omega (arith, h 0)
words_bytes (w ∷ ws) h (suc zero) = omega arith
words_bytes (w ∷ ws) h (suc (suc k)) = words_bytes ws (λ n. h (suc n)) k

pub words_nil : Words []
words_nil i = omega arith

pub words_cons : (w : ℕ) (ws : List ℕ) → w < 65536 → Words ws → Words (w ∷ ws)
words_cons w ws h k zero = h
words_cons w ws h k (suc j) = k j

pub words_append : (xs ys : List ℕ) → Words xs → Words ys → Words (xs ++ ys)
words_append [] ys h k = k
words_append (x ∷ xs) ys h k = words_cons x (xs ++ ys) (h 0) (words_append xs ys (λ n. h (suc n)) k)

pub words_list_to : (n : ℕ) (rec : ℕ → List ℕ) → ((v : ℕ) → 1 ≤ v → v ≤ n → Words (rec v)) → Words (list_to n rec)
words_list_to zero rec h = rw (list_to_zero rec) words_nil
words_list_to (suc n) rec h =
    rw (list_to_suc n rec)
    (words_append (list_to n rec) (rec (suc n)) (words_list_to n rec (λ v a b. h v a (omega arith)))
    (h (suc n) (omega arith) (omega arith)))

-- ---- The words of a string from word i on

unfoldable pub Holds : List ℕ → ℕ → List ℕ → Type 0
Holds t i [] = Unit {0}
Holds t i (w ∷ ws) = (word_at t i ≡ w) × Holds t (suc i) ws

holds_words : (t : List ℕ) (i : ℕ) (ws : List ℕ) → ((j : ℕ) → j < length ws → word_at t (i + j) ≡ get_or ws j 0)
    → Holds t i ws
unfolding Holds
holds_words t i [] h = tt
holds_words t i (w ∷ ws) h = (
  ap (word_at t) (omega arith) ∙ h 0 (omega arith),
  holds_words t (suc i) ws (λ j less. ap (word_at t) (omega arith) ∙ h (suc j) (omega arith)),
)

pub holds_bytes_of : (ws : List ℕ) → Holds (bytes_of ws) 0 ws
holds_bytes_of ws =
    holds_words (bytes_of ws) 0 ws (λ j less. ap (word_at (bytes_of ws)) (omega arith) ∙ word_at_bytes_of ws j)

holds_at : (t : List ℕ) {i j : ℕ} (ws : List ℕ) → i ≡ j → Holds t i ws → Holds t j ws
holds_at t ws q h = rw q at h

pub holds_append : (t : List ℕ) (i : ℕ) (xs ys : List ℕ) → Holds t i (xs ++ ys)
    → Holds t i xs × Holds t (i + length xs) ys
unfolding Holds
holds_append t i [] ys h = (tt, holds_at t ys (omega arith) h)
holds_append t i (x ∷ xs) ys h =
    let both = holds_append t (suc i) xs ys h.1 in
    ((h.0, both.0), holds_at t ys (omega arith) both.1)

-- ---- A string of bytes is that of its words

word_bytes : (t : List ℕ) (i : ℕ) → Bytes t
    → (word_at t i / 256 ≡ get_or t (2 * i) 0) × (word_at t i % 256 ≡ get_or t (2 * i + 1) 0)
unfolding word_at
word_bytes t i h = omega (arith, h (2 * i), h (2 * i + 1))

holds_drop : (t : List ℕ) (i : ℕ) (ws : List ℕ) → Bytes t → Holds t i ws → length t ≡ 2 * (i + length ws)
    → drop (2 * i) t ≡ bytes_of ws
unfolding Holds bytes_of
holds_drop t i [] h k long = drop_of_length-le t {i = 2 * i} (omega arith)
holds_drop t i (w ∷ ws) h k long =
    let two = word_bytes t i h in
    let high : w / 256 ≡ get_or t (2 * i) 0 = ap (λ x. x / 256) (sym k.0) ∙ two.0 in
    let low : w % 256 ≡ get_or t (suc (2 * i)) 0 =
    ap (λ x. x % 256) (sym k.0) ∙ two.1 ∙ ap (λ j. get_or t j 0) (omega arith) in
    let rest : drop (2 * suc i) t ≡ bytes_of ws = holds_drop t (suc i) ws h k.1 (omega arith) in
    let same : 2 * suc i ≡ suc (suc (2 * i)) = omega arith in
    drop-cons t (2 * i) 0 (omega arith)
    ∙ ap₂ ◌∷◌ (sym high)
    (drop-cons t (suc (2 * i)) 0 (omega arith) ∙ ap₂ ◌∷◌ (sym low) (ap (λ j. drop j t) (sym same) ∙ rest))

holds_all : (t ws : List ℕ) → Bytes t → Holds t 0 ws → length t ≡ 2 * length ws → t ≡ bytes_of ws
holds_all t ws h k long = holds_drop t 0 ws h k (omega arith)

pub bytes_of_words : (t ws : List ℕ) → Bytes t → length t ≡ 2 * length ws
    → ((j : ℕ) → j < length ws → word_at t j ≡ get_or ws j 0)
    → t ≡ bytes_of ws
bytes_of_words t ws b long h =
    holds_all t ws b (holds_words t 0 ws (λ j less. ap (word_at t) (omega arith) ∙ h j less)) long
