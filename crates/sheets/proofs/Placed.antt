-- Texts of one width put one after the other, as lines into a sheet and sheets into the output. Defines Placed. Proves
-- placed_start, placed_turn, placed_at, placed_end, placed_whole. Assumes nothing.
use Prim.Native.Nat.{ℕ, suc, ◌+◌, ◌-◌, ◌*◌, ◌≤◌}
use native.Mathlib.Omega.{arith}
use mathlib.Core.Path.{◌≡◌, refl, sym, ◌∙◌, ap, subst}
use mathlib.Core.List.{List, ◌++◌}
use lib.ListN.{length}
use Rattle.model.specs.Basics.{list_to}
use Rattle.theory.specs.Ranges.{list_to_zero, list_to_suc}
use Rattle.theory.specs.Appended.{Appended, appended_none, appended_then, filled_all}
use Rattle.theory.specs.Put.{length_records_to}

-- the texts before number `next` stand from the position `at` on, up to the position `end`
pub record Placed (text : ℕ → List ℕ) (out₀ : List ℕ) (at next : ℕ) (out : List ℕ) (end : ℕ) : Type 0 where
  pub low : 1 ≤ next
  pub long : length out ≡ length out₀
  pub texts : Appended out₀ at (list_to (next - 1) text) out end

pub placed_start : (text : ℕ → List ℕ) (out : List ℕ) (at : ℕ) → Placed text out at 1 out at
placed_start text out at =
    record { low = omega arith; long = refl; texts = rw (list_to_zero text) (appended_none out at) }

pub placed_turn : {text : ℕ → List ℕ} {out₀ out out' line : List ℕ} {at next end end' : ℕ}
    → Placed text out₀ at next out end → Appended out end line out' end' → line ≡ text next → length out' ≡ length out
    → Placed text out₀ at (next + 1) out' end'
placed_turn {text} {next} p put is same =
    let number : next ≡ suc (next - 1) = omega (arith, p.low) in
    let more : list_to next text ≡ list_to (next - 1) text ++ text next =
    subst (λ n. list_to n text ≡ list_to (next - 1) text ++ text n) (sym number) (list_to_suc (next - 1) text) in
    let again : next + 1 - 1 ≡ next = omega arith in
    record {
      low = omega arith;
      long = same ∙ p.long;
      texts = rw (again, more, ← is) (appended_then p.texts put);
    }

-- where the next one goes
pub placed_at : {text : ℕ → List ℕ} {out₀ out : List ℕ} {at next end : ℕ} (width : ℕ)
    → ((v : ℕ) → length (text v) ≡ width) → Placed text out₀ at next out end → end ≡ at + width * (next - 1)
placed_at {text} {next} width wide p = omega (arith, p.texts.place, length_records_to text width wide (next - 1))

-- all of them
pub placed_end : {text : ℕ → List ℕ} {out₀ out : List ℕ} {at next end : ℕ} (k : ℕ) → Placed text out₀ at next out end
    → next - 1 ≡ k → Appended out₀ at (list_to k text) out end
placed_end {text} k p all = rw (ap (λ j. list_to j text) all) at p.texts

-- the whole output
pub placed_whole : {text : ℕ → List ℕ} {out₀ out : List ℕ} {next end : ℕ} (width k : ℕ)
    → ((v : ℕ) → length (text v) ≡ width) → Placed text out₀ 0 next out end → next - 1 ≡ k → length out₀ ≡ width * k
    → out ≡ list_to k text
placed_whole width k wide p all room =
    filled_all (placed_end k p all) (omega (arith, placed_at width wide p, p.long, ap (λ j. width * j) all))
