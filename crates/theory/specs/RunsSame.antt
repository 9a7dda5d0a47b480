-- Two sequences with the same runs, in whatever order, say the same: a sequence that holds the tree and one with the
-- same runs have the same homes, page weights and verdict on the limit, and, where the other holds the tree too, the
-- same length and each run as often.
-- Defines SameRuns. Proves apart_same (order apart, the same runs), same_run_with, same_home, same_weight, same_root,
-- same_limit, same_length, same_times. Assumes nothing.
use Prim.Native.Nat.{ℕ, zero, suc, ◌+◌, ◌≤◌}
use Rattle.std.proofs.Common.{arith, eq-zero-or-pos, sym, ◌∙◌, subst, ⊎_elim, eqb-true, eq-eqb}
use Rattle.std.specs.Prelude.{Bool, true, ◌≡◌, List, [], ◌∷◌, length, eqb}
use Rattle.std.proofs.Math.Path.{refl, ap}
use mathlib.Core.List.Memᴰ
use Rattle.std.proofs.Math.Dec.{leb}
use Rattle.model.specs.Basics.{pick, at_place, sum_to, every}
use Rattle.model.specs.Table.{node_count, limit_of, weight_at}
use Rattle.model.specs.Plan.{parent_at}
use Rattle.model.specs.Runs.{Run, is_member, root_run, count_of, run_with, home_from, home_of, run_weight, within_limit}
use Rattle.model.specs.Runs.{same_run, OrderApart, root_weight}
use Rattle.std.specs.declared.option.Option.{Option}
use Rattle.std.specs.declared.option.Option.TheVariants.{Some, None}
use Rattle.theory.specs.Bools.{both_true, and_true, same_true}
use Rattle.theory.specs.Ranges.{Upto, sum_to_cong, sum_to_add, sum_to_none}
use Rattle.theory.specs.Sums.{sum_to_only}
use Rattle.theory.specs.TableFacts.{SoundFacts}
use Rattle.theory.specs.Lists.{Mem, every_all, all_every, count_of_nil, count_of_some, count_of_cons, count_of_find}
use Rattle.theory.specs.Lists.{count_of_le}
use Rattle.theory.specs.RunsFacts.{RunFacts, run_path, FoundRun, HoldFacts, first_member, run_with_found}
use Rattle.theory.specs.RunsFacts.{run_with_none}
use Rattle.theory.specs.RunsFacts.{none_run_with, run_with_at}

pub record SameRuns (rs rs' : List Run) : Type 0 where
  pub there : (r : Run) → Mem r rs → Mem r rs'
  pub back : (r : Run) → Mem r rs' → Mem r rs

same_first : (r r' : Run) → same_run r r' ≡ true → r.first ≡ r'.first
unfolding same_run
same_first r r' e =
    eqb-true r.first r'.first (both_true (eqb r.first r'.first) (eqb r.last r'.last) e).0

same_last : (r r' : Run) → same_run r r' ≡ true → r.last ≡ r'.last
unfolding same_run
same_last r r' e =
    eqb-true r.last r'.last (both_true (eqb r.first r'.first) (eqb r.last r'.last) e).1

same_itself : (r : Run) → same_run r r ≡ true
unfolding same_run
same_itself r = and_true _ _ (eq-eqb r.first r.first refl) (eq-eqb r.last r.last refl)

-- a run that is somewhere as often is there
apart_mem : (rs rs' : List Run) → OrderApart rs rs' → (r : Run) → Mem r rs → Mem r rs'
apart_mem rs rs' apart r m =
    let f = count_of_find (same_run r) rs' (omega (arith, apart r, count_of_some (same_run r) rs r m (same_itself r))) in
    let same : r ≡ f.0 = run_path (same_first r f.0 f.2) (same_last r f.0 f.2) in
    subst (λ (x : Run). Mem x rs') (sym same) f.1

pub apart_same : (rs rs' : List Run) → OrderApart rs rs' → SameRuns rs rs'
apart_same rs rs' apart = record { there = apart_mem rs rs' apart; back = apart_mem rs' rs (λ r. sym (apart r)) }

-- ---- Homes and weights

module _ {t : List ℕ} (s : SoundFacts t) (rs rs' : List Run) (h : HoldFacts t rs) (same : SameRuns rs rs') where
  pub same_run_with : (v : ℕ) → run_with t rs v ≡ run_with t rs' v
  same_run_with v = go (run_with t rs' v) refl
    where
      go : (o : Option ℕ) → run_with t rs' v ≡ o → run_with t rs v ≡ run_with t rs' v
      go None q = none_run_with t rs v (λ r m. run_with_none t rs' v q r (same.there r m)) ∙ sym q
      go (Some u) q =
          let f : FoundRun t rs' v u = run_with_found t rs' v u q in
          run_with_at s rs h v f.run (same.back f.run f.listed) f.member ∙ ap Some f.first ∙ sym q

  same_home_from : (f v : ℕ) → home_from f t rs v ≡ home_from f t rs' v
  unfolding home_from
  same_home_from zero v = refl
  same_home_from (suc f) v =
      ap (λ o. at_place o (λ u. u) (home_from f t rs (parent_at t v))) (same_run_with v)
      ∙ ap (λ w. at_place (run_with t rs' v) (λ u. u) w) (same_home_from f (parent_at t v))

  pub same_home : (v : ℕ) → home_of t rs v ≡ home_of t rs' v
  unfolding home_of
  same_home v = same_home_from v v

  pub same_weight : (r : Run) → run_weight t rs r ≡ run_weight t rs' r
  unfolding run_weight
  same_weight r =
      sum_to_cong (node_count t) (λ v. pick (eqb (home_of t rs v) r.first) (weight_at t v) 0)
      (λ v. pick (eqb (home_of t rs' v) r.first) (weight_at t v) 0)
      (λ v low high. ap (λ u. pick (eqb u r.first) (weight_at t v) 0) (same_home v))

  pub same_root : root_weight t rs ≡ root_weight t rs'
  same_root = same_weight root_run

  pub same_limit : within_limit t rs ≡ within_limit t rs'
  unfolding within_limit
  same_limit =
      same_true (every (λ r. leb (run_weight t rs r) (limit_of t)) rs)
      (every (λ r. leb (run_weight t rs' r) (limit_of t)) rs')
      (λ e. all_every (λ r. leb (run_weight t rs' r) (limit_of t)) rs'
      (λ r m. ap (λ w. leb w (limit_of t)) (sym (same_weight r))
      ∙ every_all (λ r. leb (run_weight t rs r) (limit_of t)) rs e r (same.back r m)))
      (λ e. all_every (λ r. leb (run_weight t rs r) (limit_of t)) rs
      (λ r m. ap (λ w. leb w (limit_of t)) (same_weight r)
      ∙ every_all (λ r. leb (run_weight t rs' r) (limit_of t)) rs' e r (same.there r m)))

-- ---- Lengths

abbrev starts_at : ℕ → Run → Bool
starts_at v r = eqb r.first v

-- each run counted at its first node
length_starts : (n : ℕ) (rs : List Run) → ((r : Run) → Mem r rs → (1 ≤ r.first) × (r.first ≤ n))
    → length rs ≡ sum_to n (λ v. count_of (starts_at v) rs)
length_starts n [] h = sym (sum_to_none n (λ v. count_of (starts_at v) []) (λ v low high. count_of_nil (starts_at v)))
length_starts n (r ∷ rs) h =
    let range = h r (Memᴰ.head refl) in
    omega (
      arith,
      length_starts n rs (λ x m. h x (Memᴰ.tail m)),
      sum_to_cong n (λ v. count_of (starts_at v) (r ∷ rs)) (λ v. pick (eqb r.first v) 1 0 + count_of (starts_at v) rs)
          (λ v low high. count_of_cons (starts_at v) r rs),
      sum_to_add n (λ v. pick (eqb r.first v) 1 0) (λ v. count_of (starts_at v) rs),
      sum_to_only n r.first 1 range.0 range.1,
    )

-- a test that one run at most of a sequence passes, counted in another with the same runs
count_le : (p : Run → Bool) (rs rs' : List Run) → count_of p rs ≤ 1 → ((r : Run) → Mem r rs → Mem r rs')
    → count_of p rs ≤ count_of p rs'
count_le p rs rs' one there =
    ⊎_elim (λ z. omega arith)
    (λ some. let f = count_of_find p rs some in omega (arith, count_of_some p rs' f.0 (there f.0 f.1) f.2))
    (eq-zero-or-pos (count_of p rs))

same_count : (p : Run → Bool) (rs rs' : List Run) → count_of p rs ≤ 1 → count_of p rs' ≤ 1 → SameRuns rs rs'
    → count_of p rs ≡ count_of p rs'
same_count p rs rs' one one' same =
    omega (arith, count_le p rs rs' one same.there, count_le p rs' rs one' same.back)

module _ {t : List ℕ} (s : SoundFacts t) where
  starts_once : (rs : List Run) → HoldFacts t rs → Upto (node_count t) (λ v. count_of (starts_at v) rs ≤ 1)
  starts_once rs h v low high =
      let less : count_of (starts_at v) rs ≤ count_of (is_member t v) rs =
      count_of_le (starts_at v) (is_member t v) rs
      (λ r m e. ap (λ u. is_member t u r) (sym (eqb-true r.first v e)) ∙ first_member s r (h.each r m)) in
      omega (arith, h.once v low high)

  times_once : (rs : List Run) → HoldFacts t rs → (r : Run) → count_of (same_run r) rs ≤ 1
  times_once rs h r =
      ⊎_elim (λ z. omega arith)
      (λ some.
      let f = count_of_find (same_run r) rs some in
      let run : RunFacts t f.0 = h.each f.0 f.1 in
      let at : r.first ≡ f.0.first = same_first r f.0 f.2 in
      let less : count_of (same_run r) rs ≤ count_of (starts_at r.first) rs =
      count_of_le (same_run r) (starts_at r.first) rs
      (λ x m q. eq-eqb x.first r.first (sym (same_first r x q))) in
      omega (arith, starts_once rs h r.first (omega (arith, run.low)) (omega (arith, run.high))))
      (eq-zero-or-pos (count_of (same_run r) rs))

  module _ (rs rs' : List Run) (h : HoldFacts t rs) (h' : HoldFacts t rs') (same : SameRuns rs rs') where
    pub same_length : length rs ≡ length rs'
    same_length =
        length_starts (node_count t) rs (λ r m. ((h.each r m).low, (h.each r m).high))
        ∙ sum_to_cong (node_count t) (λ v. count_of (starts_at v) rs) (λ v. count_of (starts_at v) rs')
        (λ v low high. same_count (starts_at v) rs rs' (starts_once rs h v low high)
        (starts_once rs' h' v low high) same)
        ∙ sym (length_starts (node_count t) rs' (λ r m. ((h'.each r m).low, (h'.each r m).high)))

    -- each run as often in one as in the other
    pub same_times : (r : Run) → count_of (same_run r) rs ≡ count_of (same_run r) rs'
    same_times r = same_count (same_run r) rs rs' (times_once rs h r) (times_once rs' h' r) same
