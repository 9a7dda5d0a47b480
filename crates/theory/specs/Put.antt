-- Words put into a string of bytes, one after the other and in records. Defines put_word, put_record, Starts, RecordsPut.
-- Assumes nothing.
use Rattle.std.specs.Prelude.{ℕ, zero, suc, ◌+◌, ◌-◌, ◌*◌, ◌/◌, ◌%◌, ◌≤◌, ◌<◌, ◌≡◌, refl, ◌⊎◌, List, [], ◌∷◌, ◌++◌, length, get_or, take, set}
use Rattle.std.proofs.Common.{arith, mul-le-mul_left, add-one, sym, ◌∙◌, ap, inl, inr, append_assoc, append-nil, length-append, length-set, take-suc-set, take_all, get_or-append-add}
use Rattle.std.proofs.Math.ListN.{get_or-append}
use Rattle.model.specs.Basics.{list_to}
use Rattle.model.specs.Table.{bytes_of}
use Rattle.theory.specs.Ranges.{upto_suc, list_to_zero, list_to_suc}

-- word i of the string becomes w
unfoldable pub put_word : List ℕ → ℕ → ℕ → List ℕ
put_word o i w = set (set o (2 * i) (w / 256)) (2 * i + 1) (w % 256)

-- the four words from word i on
unfoldable pub put_record : List ℕ → ℕ → ℕ → ℕ → ℕ → ℕ → List ℕ
put_record o i a b c d = put_word (put_word (put_word (put_word o i a) (i + 1) b) (i + 2) c) (i + 3) d

-- the string starts with these words
unfoldable pub Starts : List ℕ → List ℕ → Type 0
Starts o ws = take (2 * length ws) o ≡ bytes_of ws

pub length-put_word : (o : List ℕ) (i w : ℕ) → length (put_word o i w) ≡ length o
unfolding put_word
length-put_word o i w = simp length-set

pub length-put_record : (o : List ℕ) (i a b c d : ℕ) → length (put_record o i a b c d) ≡ length o
unfolding put_record
length-put_record o i a b c d = simp length-put_word

bytes_of_append : (xs ys : List ℕ) → bytes_of (xs ++ ys) ≡ bytes_of xs ++ bytes_of ys
unfolding bytes_of
bytes_of_append [] ys = refl
bytes_of_append (x ∷ xs) ys = ap (λ r. x / 256 ∷ x % 256 ∷ r) (bytes_of_append xs ys)

pub starts_none : (o : List ℕ) → Starts o []
unfolding Starts bytes_of
starts_none o = refl

pub starts_word : (o ws : List ℕ) (i w : ℕ) → Starts o ws → i ≡ length ws → 2 * i + 2 ≤ length o
    → Starts (put_word o i w) (ws ++ (w ∷ []))
unfolding Starts put_word bytes_of
starts_word o ws i w h at room =
    let first : List ℕ = set o (2 * i) (w / 256) in
    let long : 2 * length (ws ++ (w ∷ [])) ≡ suc (suc (2 * i)) = omega (arith, length-append ws (w ∷ [])) in
    let odd : 2 * i + 1 ≡ suc (2 * i) = omega arith in
    let two : take (suc (suc (2 * i))) (set first (suc (2 * i)) (w % 256))
    ≡ take (suc (2 * i)) first ++ (w % 256 ∷ []) =
    take-suc-set first (suc (2 * i)) (w % 256) (rw (length-set o (2 * i) (w / 256)) (omega arith)) in
    let one : take (suc (2 * i)) first ≡ take (2 * i) o ++ (w / 256 ∷ []) =
    take-suc-set o (2 * i) (w / 256) (omega arith) in
    let none : take (2 * i) o ≡ bytes_of ws = ap (λ j. take (2 * j) o) at ∙ h in
    rw (long, odd, two, one, none, bytes_of_append ws (w ∷ []), append_assoc)

-- the first two words
pub starts_two : (o o₁ o₂ : List ℕ) (a b : ℕ) → o₁ ≡ put_word o 0 a → o₂ ≡ put_word o₁ 1 b → 4 ≤ length o
    → Starts o₂ (a ∷ b ∷ [])
starts_two o o₁ o₂ a b e₁ e₂ room =
    let long : length o₁ ≡ length o = ap length e₁ ∙ length-put_word o 0 a in
    let s₁ : Starts o₁ (a ∷ []) = rw e₁ (starts_word o [] 0 a (starts_none o) refl (omega arith)) in
    rw e₂ (starts_word o₁ (a ∷ []) 1 b s₁ refl (omega arith))

pub starts_record : (o ws : List ℕ) (i a b c d : ℕ) → Starts o ws → i ≡ length ws → 2 * i + 8 ≤ length o
    → Starts (put_record o i a b c d) (ws ++ (a ∷ b ∷ c ∷ d ∷ []))
unfolding put_record
starts_record o ws i a b c d h at room =
    let o₁ : List ℕ = put_word o i a in
    let o₂ : List ℕ = put_word o₁ (i + 1) b in
    let o₃ : List ℕ = put_word o₂ (i + 2) c in
    let l₁ : length o₁ ≡ length o = length-put_word o i a in
    let l₂ : length o₂ ≡ length o₁ = length-put_word o₁ (i + 1) b in
    let l₃ : length o₃ ≡ length o₂ = length-put_word o₂ (i + 2) c in
    let w₁ : List ℕ = ws ++ (a ∷ []) in
    let w₂ : List ℕ = w₁ ++ (b ∷ []) in
    let w₃ : List ℕ = w₂ ++ (c ∷ []) in
    let n₁ : length w₁ ≡ length ws + 1 = length-append ws (a ∷ []) in
    let n₂ : length w₂ ≡ length w₁ + 1 = length-append w₁ (b ∷ []) in
    let n₃ : length w₃ ≡ length w₂ + 1 = length-append w₂ (c ∷ []) in
    let s₁ = starts_word o ws i a h at (omega arith) in
    let s₂ = starts_word o₁ w₁ (i + 1) b s₁ (omega arith) (omega arith) in
    let s₃ = starts_word o₂ w₂ (i + 2) c s₂ (omega arith) (omega arith) in
    let s₄ = starts_word o₃ w₃ (i + 3) d s₃ (omega arith) (omega arith) in
    let same : w₃ ++ (d ∷ []) ≡ ws ++ (a ∷ b ∷ c ∷ d ∷ []) = simp append_assoc in
    rw same at s₄

pub starts_all : (o ws : List ℕ) → Starts o ws → length o ≡ 2 * length ws → o ≡ bytes_of ws
unfolding Starts
starts_all o ws h long = sym (take_all (2 * length ws) o (omega arith)) ∙ h

-- ---- Records of one width

-- after any k words that stood at the start, the records 1 to n stand
abbrev pub RecordsPut : (ℕ → List ℕ) → ℕ → ℕ → List ℕ → List ℕ → Type 0
RecordsPut rec k n start out = (ws : List ℕ) → length ws ≡ k → Starts start ws → Starts out (ws ++ list_to n rec)

module _ (rec : ℕ → List ℕ) (width : ℕ) (wide : (v : ℕ) → length (rec v) ≡ width) where
  pub length_records_to : (n : ℕ) → length (list_to n rec) ≡ width * n
  length_records_to zero = ap length (list_to_zero rec) ∙ omega arith
  length_records_to (suc n) =
      ap length (list_to_suc n rec)
      ∙ length-append (list_to n rec) (rec (suc n))
      ∙ omega (arith, length_records_to n, wide (suc n))

  -- word f of record v
  pub get_d_records_to : (n v f : ℕ) → 1 ≤ v → v ≤ n → f < width
      → get_or (list_to n rec) (width * (v - 1) + f) 0 ≡ get_or (rec v) f 0
  get_d_records_to zero v f low high less = absurd (omega arith)
  get_d_records_to (suc n) zero f low high less = absurd (omega arith)
  get_d_records_to (suc n) (suc k) f low high less = go (upto_suc n (suc k) high) (get_d_records_to n (suc k) f low)
    where
      place : width * (suc k - 1) + f ≡ width * k + f
      place = ap (λ j. width * j + f) (omega arith)

      go : (suc k ≤ n) ⊎ (suc k ≡ suc n)
          → (suc k ≤ n → f < width → get_or (list_to n rec) (width * (suc k - 1) + f) 0 ≡ get_or (rec (suc k)) f 0)
          → get_or (list_to (suc n) rec) (width * (suc k - 1) + f) 0 ≡ get_or (rec (suc k)) f 0
      go (inl h) ih =
          ap (λ l. get_or l (width * (suc k - 1) + f) 0) (list_to_suc n rec)
          ∙ get_or-append (list_to n rec) (rec (suc n)) 0 (width * (suc k - 1) + f)
          (omega (arith, place, length_records_to n, mul-le-mul_left width h))
          ∙ ih h less
      go (inr e) ih =
          let same : k ≡ n = omega arith in
          ap (λ l. get_or l (width * (suc k - 1) + f) 0) (list_to_suc n rec)
          ∙ ap (λ i. get_or (list_to n rec ++ rec (suc n)) i 0)
          (place ∙ ap (λ j. width * j + f) same ∙ ap (λ j. j + f) (sym (length_records_to n)))
          ∙ get_or-append-add (list_to n rec) (rec (suc n)) f 0
          ∙ ap (λ u. get_or (rec u) f 0) (sym e)

  -- ---- Put one after the other

  pub records_none : (k : ℕ) (out : List ℕ) → RecordsPut rec k 0 out out
  records_none k out ws long h = rw (list_to_zero rec, append-nil ws) h

  -- one more: what puts record n + 1 after all words that stand
  pub records_turn : (k n : ℕ) (start out out' : List ℕ) → RecordsPut rec k n start out
      → ((xs : List ℕ) → length xs ≡ k + width * n → Starts out xs → Starts out' (xs ++ rec (n + 1)))
      → RecordsPut rec k (n + 1) start out'
  records_turn k n start out out' h put ws long begun =
      let more : list_to (n + 1) rec ≡ list_to n rec ++ rec (n + 1) = rw (add-one n) (list_to_suc n rec) in
      let all : length (ws ++ list_to n rec) ≡ k + width * n =
      omega (arith, length-append ws (list_to n rec), length_records_to n) in
      rw (more, ← append_assoc ws (list_to n rec) (rec (n + 1))) (put (ws ++ list_to n rec) all (h ws long begun))

  -- records of four words
  pub records_four : (k n : ℕ) (start out out' : List ℕ) (i a b c d : ℕ) → RecordsPut rec k n start out
      → i ≡ k + width * n → 2 * i + 8 ≤ length out → out' ≡ put_record out i a b c d
      → rec (n + 1) ≡ a ∷ b ∷ c ∷ d ∷ [] → RecordsPut rec k (n + 1) start out'
  records_four k n start out out' i a b c d h at room e four =
      records_turn k n start out out' h
      (λ xs long begun. rw (e, four) (starts_record out xs i a b c d begun (at ∙ sym long) room))
