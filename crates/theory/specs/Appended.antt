-- Text appended to a buffer at a position, and a text copied there byte by byte. Defines Appended, Filled. Proves
-- appended_none, appended_then, filled_first, filled_then, filled_all; text_turn, text_end. Assumes nothing.
use Rattle.std.specs.Prelude.{ℕ, ◌+◌, ◌≤◌, ◌<◌, ◌≡◌, List, [], ◌++◌, length, take, get_or, set}
use Rattle.std.proofs.Common.{arith, add-one, sym, ◌∙◌, ap, append_assoc, append-nil, length-append, take_all}
use Rattle.std.proofs.Math.Seq.{paste, paste-suc}
use Rattle.std.proofs.lemmas.List.Edits.{take-paste}

-- what stood in front of the position stands there still, the text follows it, and the new position is at its end
pub record Appended (out : List ℕ) (at : ℕ) (text left : List ℕ) (end : ℕ) : Type 0 where
  pub bytes : take end left ≡ take at out ++ text
  pub place : end ≡ at + length text

pub appended_none : (o : List ℕ) (at : ℕ) → Appended o at [] o at
appended_none o at = record { bytes = sym (append-nil (take at o)); place = omega arith }

pub appended_then : {o o₁ o₂ x y : List ℕ} {at a b : ℕ} → Appended o at x o₁ a → Appended o₁ a y o₂ b
    → Appended o at (x ++ y) o₂ b
appended_then {o} {o₁} {o₂} {x} {y} {at} {a} {b} h k =
    record {
      bytes = k.bytes ∙ ap (λ (l : List ℕ). l ++ y) h.bytes ∙ append_assoc (take at o) x y;
      place = omega (arith, h.place, k.place, length-append x y);
    }

-- the buffer starts with the text, and the position is at its end
pub record Filled (text left : List ℕ) (end : ℕ) : Type 0 where
  pub bytes : take end left ≡ text
  pub place : end ≡ length text

pub filled_first : {o o₁ x : List ℕ} {a : ℕ} → Appended o 0 x o₁ a → Filled x o₁ a
filled_first h = record { bytes = h.bytes; place = omega (arith, h.place) }

pub filled_then : {o₁ o₂ x y : List ℕ} {a b : ℕ} → Filled x o₁ a → Appended o₁ a y o₂ b → Filled (x ++ y) o₂ b
filled_then {x} {y} h k =
    record {
      bytes = k.bytes ∙ ap (λ (l : List ℕ). l ++ y) h.bytes;
      place = omega (arith, h.place, k.place, length-append x y);
    }

-- from the start to the end of the buffer
pub filled_all : {o left text : List ℕ} {end : ℕ} → Appended o 0 text left end → length left ≤ end → left ≡ text
filled_all {left} {end} h all = sym (take_all end left all) ∙ h.bytes

-- ---- A text copied, byte by byte

module _ (out text : List ℕ) (at : ℕ) (room : at + length text ≤ length out) where
  pub text_turn : (i : ℕ) → i < length text
      → set (paste out at text i) (at + i) (get_or text i 0) ≡ paste out at text (i + 1)
  text_turn i less = rw (add-one i) (paste-suc out at text i 0 (omega arith) less)

  pub text_end : (i : ℕ) → i ≤ length text → length text ≤ i
      → Appended out at text (paste out at text i) (at + length text)
  text_end i high low =
      let all : i ≡ length text = omega arith in
      record {
        bytes =
            ap (λ n. take (at + length text) (paste out at text n)) all
            ∙ take-paste out at text (length text) (omega arith) (omega arith)
            ∙ ap (λ (l : List ℕ). take at out ++ l) (take_all (length text) text (omega arith));
        place = omega arith;
      }
