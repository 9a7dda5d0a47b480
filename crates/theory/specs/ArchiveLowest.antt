-- Demand 3 read off the archive's bytes, in an edition: page count, the weight in page record 1 and the runs in the
-- page records are the plan's.
-- Proves archive_runs, root_back. Assumes nothing.
use Prim.Native.Nat.{ℕ, suc, ◌≤◌, ◌<◌}
use Rattle.std.proofs.Common.{arith, ◌∙◌}
use Rattle.std.specs.Prelude.{◌≡◌, List, [], ◌∷◌}
use Rattle.std.proofs.Math.Path.{sym, ap, ap₂}
use Rattle.std.proofs.Math.ListN.{get_or}
use Rattle.std.proofs.Math.Seq.{ext_get_or}
use Rattle.model.specs.Basics.{list_to}
use Rattle.model.specs.Plan.{page_count, page_weight}
use Rattle.model.specs.Runs.{root_run, runs_of, page_run}
use Rattle.model.specs.Archive.{archive_of, pages_in}
use Rattle.model.specs.Demand.{run_in, runs_in, root_in}
use Rattle.model.specs.declared.Edition.{Edition}
use Rattle.theory.specs.Ranges.{length-list_to, get_d_list_to}
use Rattle.theory.specs.PlanPages.{pages_low}
use Rattle.theory.specs.PlanFeasible.{Judged}
use Rattle.theory.specs.RunsMarked.{length-runs_of}
use Rattle.theory.specs.ArchiveWords.{Described, archive_pages, archive_begin, archive_end, archive_weight}

-- ---- The page records of a table and marks

module _ {e : Edition} (d : Described e) (t m : List ℕ) where
  abbrev a : List ℕ
  a = archive_of e t m

  run_back : (i : ℕ) → i < pages_in e a → run_in e a (suc i) ≡ get_or (runs_of t m) i root_run
  unfolding page_run
  run_back i h =
      let high : suc i ≤ page_count t m = omega (arith, archive_pages d t m) in
      ap₂ (λ u v. record { first = u; last = v }) (archive_begin d t m (suc i) (omega arith) high)
      (archive_end d t m (suc i) (omega arith) high)
      ∙ ap (λ j. get_or (runs_of t m) j root_run) (omega arith)

  pub archive_runs : runs_in e (archive_of e t m) ≡ runs_of t m
  unfolding runs_in
  archive_runs =
      let long = length-list_to (pages_in e a) (run_in e a) in
      ext_get_or root_run (list_to (pages_in e a) (λ q. run_in e a q ∷ [])) (runs_of t m)
      (long ∙ archive_pages d t m ∙ sym (length-runs_of t m))
      (λ i h.
      let less : i < pages_in e a =
      rw long at h in get_d_list_to (pages_in e a) i (run_in e a) root_run less ∙ run_back i less)

  archive_root : 1 ≤ page_count t m → root_in e (archive_of e t m) ≡ page_weight t m 1
  unfolding root_in
  archive_root some = archive_weight d t m 1 (omega arith) some

  -- of a feasible plan, with the verdict's figures
  module _ (judged : Judged t m) where
    pub root_back : root_in e (archive_of e t m) ≡ page_weight t m 1
    root_back = archive_root (pages_low judged.tree.sound m judged.marked)
