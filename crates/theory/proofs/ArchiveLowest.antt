-- Demand 3 read off the archive's bytes, in an edition: a feasible plan's verdict and what its archive's page records tell
-- are the same (archive_figures, archive_plan); so where a planner promises that its plan is the lowest, the archive of
-- that plan is the lowest too (film_lowest). Assumes nothing.
use Rattle.std.specs.Prelude.{ℕ, ◌≡◌, List}
use Rattle.std.proofs.Common.{◌∙◌, sym, ap₂}
use Rattle.std.proofs.Math.Path.{ap}
use Rattle.model.specs.Plan.{verdict_of}
use Rattle.model.specs.Archive.{archive_of, pages_in}
use Rattle.model.specs.Refusals.{answer_of}
use Rattle.model.specs.Demand.{PlanLent, PlanPromise, BestPromise, root_in, PlanOnFilm, LowestOnFilm}
use Rattle.model.specs.declared.Verdict.{Verdict}
use Rattle.model.specs.declared.Verdict.TheVariants.{Feasible, Failed}
use Rattle.std.specs.declared.option.Option.{Option}
use Rattle.std.specs.declared.option.Option.TheVariants.{Some, None}
use Rattle.model.specs.Refusals.{Answer}
use Rattle.model.specs.declared.Edition.{Edition}
use Rattle.theory.specs.PlanFeasible.{Judged, feasible_judged, judged_verdict}
use Rattle.theory.specs.RunsMarked.{length-runs_of}
use Rattle.theory.specs.ArchiveWords.{Described, archive_pages}
use Rattle.theory.specs.ArchiveLowest.{archive_runs, root_back}

-- ---- The page records of a feasible plan

module _ {e : Edition} (d : Described e) (t m : List ℕ) (judged : Judged t m) where
  pub archive_figures : answer_of (verdict_of t m)
      ≡ answer_of (Feasible (pages_in e (archive_of e t m)) (root_in e (archive_of e t m)))
  archive_figures =
      ap answer_of (judged_verdict judged)
      ∙ ap₂ (λ (x y : ℕ). answer_of (Feasible x y)) (sym (archive_pages d t m)) (sym (root_back d t m judged))

  pub archive_plan : PlanOnFilm e t m (archive_of e t m)
  archive_plan = record { pages = archive_pages d t m; root = root_back d t m judged; runs = archive_runs d t m }

-- ---- The archive of a plan that its planner promises to be the lowest

-- the root weight of the verdict beside an answer
abbrev root_beside : Option Verdict → ℕ
root_beside (Some (Feasible pages root)) = root
root_beside (Some (Failed c)) = 0
root_beside None = 0

module _ {t m s marks scratch : List ℕ} {r : Answer} (p : PlanPromise t m s r marks scratch)
    (ready : PlanLent t m s) where
  judged : Judged t marks
  judged = feasible_judged t marks (p.accepts ready).1

  module _ {e : Edition} (d : Described e) where
    abbrev film : List ℕ
    film = archive_of e t marks

    pub film_lowest : BestPromise t m s r marks
        → LowestOnFilm e t (archive_of e t marks) r (answer_of (verdict_of t marks))
    film_lowest b =
        let answer = (p.accepts ready).0 in
        let low = b.lowest ready in
        let count : low.0 ≡ pages_in e film =
        sym low.3.count ∙ length-runs_of t marks ∙ sym (archive_pages d t marks) in
        let root : low.1 ≡ root_in e film =
        ap (λ (x : Answer). root_beside x.beside) (sym low.2 ∙ answer) ∙ sym (root_back d t marks judged) in
        let figures = archive_figures d t marks judged in
        record {
          planner = answer ∙ sym (ap answer_of (judged_verdict judged)) ∙ figures;
          writer = figures;
          lowest = rw (← count, ← root, archive_runs d t marks) low.3;
        }
