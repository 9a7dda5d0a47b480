-- How many nodes each page has, counted in one pass. Defines Counted. Proves counted_start, counted_turn, counted_few,
-- counted_pages. Assumes nothing.
use Rattle.std.specs.Prelude.{ℕ, ◌+◌, ◌≤◌, ◌<◌, ◌≡◌, Bool, List, length, get_or, set, eqb}
use Rattle.std.proofs.Common.{arith, add-one, sym, ◌∙◌, ap, eq-eqb, ne_eqb}
use Rattle.model.specs.Basics.{pick, sum_to, count_to}
use Rattle.model.specs.Table.{node_count}
use Rattle.model.specs.Plan.{page_of, page_count, page_nodes}
use Rattle.theory.specs.Ranges.{sum_to_cong, count_to_zero, count_to_yes, count_to_no, count_to_le}
use Rattle.theory.specs.Lists.{get_d_set}
use Rattle.theory.specs.Slots.{Row}
use Rattle.records.specs.Size.{film_slots}

-- for each page, how many of the nodes 1 to n have it in their row
abbrev pub Counted : List ℕ → ℕ → List ℕ → Type 0
Counted page n l = (p : ℕ) → p < film_slots → get_or l p 0 ≡ count_to n (λ v. eqb (get_or page v 0) p)

module _ (page : List ℕ) where
  -- the test that is counted
  abbrev on : ℕ → ℕ → Bool
  on p v = eqb (get_or page v 0) p

  pub counted_start : (l : List ℕ) → ((k : ℕ) → k < film_slots → get_or l k 0 ≡ 0) → Counted page 0 l
  counted_start l h p fits = h p fits ∙ sym (count_to_zero (on p))

  pub counted_turn : (l : List ℕ) (v : ℕ) → Counted page v l → length l ≡ film_slots → get_or page (v + 1) 0 < film_slots
      → Counted page (v + 1) (set l (get_or page (v + 1) 0) (get_or l (get_or page (v + 1) 0) 0 + 1))
  counted_turn l v h long fits p less =
      let q : ℕ = get_or page (v + 1) 0 in
      get_d_set l q (get_or l q 0 + 1) p (count_to (v + 1) (on p))
      (λ same. (omega arith, ap (λ k. k + 1) (h q fits ∙ ap (λ k. count_to v (on k)) (sym same)) ∙ sym (yes (sym same))))
      (λ other. h p less ∙ sym (no (λ e. other (sym e))))
    where
      yes : get_or page (v + 1) 0 ≡ p → count_to (v + 1) (on p) ≡ count_to v (on p) + 1
      yes e = rw (add-one v) (omega (arith, count_to_yes v (on p) (eq-eqb _ p (rw (add-one v) at e))))

      no : (get_or page (v + 1) 0 ≡ p → ⊥) → count_to (v + 1) (on p) ≡ count_to v (on p)
      no other = rw (add-one v) (count_to_no v (on p) (ne_eqb _ p (rw (add-one v) at other)))

  -- no page has more nodes than there are
  pub counted_few : (l : List ℕ) (v p : ℕ) → Counted page v l → p < film_slots → get_or l p 0 ≤ v
  counted_few l v p h fits = omega (arith, h p fits, count_to_le v (on p))

-- where the row is that of a plan's pages
pub counted_pages : (t m page l : List ℕ) (n : ℕ) → n ≡ node_count t → Row (node_count t) (page_of t m) page
    → page_count t m < film_slots → Counted page n l → Row (page_count t m) (page_nodes t m) l
unfolding page_nodes count_to
counted_pages t m page l n n-is row few h p low high =
    h p (omega arith)
    ∙ ap (λ k. sum_to k (λ v. pick (eqb (get_or page v 0) p) 1 0)) n-is
    ∙ sum_to_cong (node_count t) (λ v. pick (eqb (get_or page v 0) p) 1 0) (λ v. pick (eqb (page_of t m v) p) 1 0)
    (λ v one le. ap (λ k. pick (eqb k p) 1 0) (row v one le))
