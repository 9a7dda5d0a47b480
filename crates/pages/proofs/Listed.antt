-- The loop over a layout's pages: the lines of the pages passed stand in the report. Defines Listed. Proves listed_start,
-- listed_turn, listed_end. Assumes nothing.
use Prim.Native.Nat.{ℕ, ◌+◌, ◌-◌, ◌*◌, ◌≤◌}
use native.Mathlib.Omega.{arith}
use mathlib.Core.Path.{◌≡◌, sym, ◌∙◌, ap, subst}
use mathlib.Core.List.{List, ◌++◌}
use Rattle.layout.specs.declared.Layout.{Layout}
use Rattle.pages.specs.Text.{line_bytes}
use Rattle.pages.specs.Listing.{line_of, head_of, lines_to, layout_lines, lines_start, lines_more}

-- the pages before page `next` are listed in a text that takes so many bytes
pub record Listed (l : Layout) (limit next used : ℕ) (text : List ℕ) : Type 0 where
  pub low : 1 ≤ next
  pub high : next ≤ l.pages + 1
  pub room : used ≤ line_bytes * next
  pub lines : text ≡ lines_to l limit (next - 1)

module _ (l : Layout) (limit : ℕ) where
  pub listed_start : {used : ℕ} {text : List ℕ} → text ≡ head_of l limit → used ≤ line_bytes
      → Listed l limit 1 used text
  listed_start is small =
      record { low = omega arith; high = omega arith; room = omega arith; lines = rw lines_start is }

  pub listed_turn : {next used used' : ℕ} {text text' : List ℕ} → Listed l limit next used text → next ≤ l.pages
      → text' ≡ text ++ line_of l next → used' ≤ used + line_bytes → Listed l limit (next + 1) used' text'
  listed_turn {next} x less is small =
      let number : next - 1 + 1 ≡ next = omega (arith, x.low) in
      let again : next + 1 - 1 ≡ next = omega arith in
      let more : lines_to l limit next ≡ lines_to l limit (next - 1) ++ line_of l next =
      subst (λ n. lines_to l limit n ≡ lines_to l limit (next - 1) ++ line_of l n) number (lines_more l limit (next - 1)) in
      record {
        low = omega arith;
        high = omega arith;
        room = omega (arith, x.room);
        lines = is ∙ ap (λ (t : List ℕ). t ++ line_of l next) x.lines ∙ sym more ∙ ap (lines_to l limit) (sym again);
      }

  pub listed_end : {next used : ℕ} {text : List ℕ} → Listed l limit next used text → l.pages + 1 ≤ next
      → text ≡ layout_lines l limit
  unfolding layout_lines
  listed_end {next} x all =
      let end : next - 1 ≡ l.pages = omega (arith, x.high) in x.lines ∙ ap (lines_to l limit) end
