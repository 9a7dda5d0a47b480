-- Refusal 7 of every entry is what the tree reader says of a table, and exact: demand 3's last sentence, as the
-- entries promise it. The table is the one that was handed in, or another that the entry speaks of, as the tree with a
-- late leaf. 5 is never given.
-- Defines SaysSeven. Proves weight_promise; says_stop, says_pass, says_after, says_read, tree_says (which lists of
-- checks say 7 of a table); tree_weight, read_weight, judge_weight, write_weight, print_weight; and of the archive's
-- reader and the converters read_five, convert_five. Assumes nothing.
use Rattle.std.specs.Prelude.{ℕ, ◌≡◌, refl, Bool, false, ◌↔◌, List, ◌++◌}
use Rattle.std.proofs.Common.{arith, sym, ◌∙◌, ap, append_assoc}
use Rattle.std.proofs.Math.Bool.{true}
use Rattle.model.specs.Plan.{verdict_of}
use Rattle.model.specs.Archive.{table_in, marks_in}
use Rattle.model.specs.Refusals.{Check, tree_checks, mark_checks, film_checks, sheet_checks, judge_checks, write_checks}
use Rattle.model.specs.Refusals.{plain_rules, print_checks, passes}
use Rattle.model.specs.Refusals.{answer_of, accepted, first_of, checked, read_tree, judge_plan}
use Rattle.model.specs.Refusals.{write_archive, print_sheets, read_checks, read_archive, convert_checks, convert_archive}
use Rattle.model.specs.Demand.{WeightPromise}
use Rattle.model.specs.declared.Cause.TheVariants.{BadMark, HeavyPage}
use Rattle.model.specs.declared.Verdict.{Verdict}
use Rattle.model.specs.declared.Verdict.TheVariants.{Feasible, Failed}
use Rattle.model.specs.Refusals.{Answer}
use Rattle.model.specs.declared.Edition.{Edition}
use Rattle.theory.specs.Checks.{Never, Plain, first_of_pass, first_of_stop, first_of_fails, first_of_all}
use Rattle.theory.specs.Checks.{never_append, never_first, plain_append, mark_plain, film_plain, sheet_plain}
use Rattle.theory.specs.Checks.{tree_never_five, read_plain, convert_plain}
use Rattle.theory.specs.RunsHeld.{refused_unheld, seven_refused}

-- an entry that answers 7 just where the tree reader does, and 5 nowhere
pub weight_promise : (t : List ℕ) (r : Answer) → (r.number ≡ 7) ↔ ((read_tree t).number ≡ 7) → (r.number ≡ 5 → ⊥)
    → WeightPromise t r
weight_promise t r same never =
    record {
      seven = λ f. (
        λ h. ((refused_unheld t).0 ((seven_refused t).0 (same.0 h))).1,
        λ h. same.1 ((seven_refused t).1 ((refused_unheld t).1 (f, h))),
      );
      five = never;
    }

-- ---- Lists of checks that say 7 of the table u, where the tree reader does, and nowhere else

abbrev pub SaysSeven : List ℕ → List Check → Type 0
SaysSeven u cs = (a : Answer) → (a.number ≡ 7 → ⊥) → ((first_of cs a).number ≡ 7) ↔ ((read_tree u).number ≡ 7)

-- where the numbers are the same
says_same : {n k r : ℕ} → n ≡ k → (k ≡ 7) ↔ (r ≡ 7) → (n ≡ 7) ↔ (r ≡ 7)
says_same e h = (λ z. h.0 (sym e ∙ z), λ z. e ∙ h.1 z)

module _ (u : List ℕ) (cs ds : List Check) where
  -- checks that do not pass say it, whatever comes after
  pub says_stop : passes cs ≡ false → SaysSeven u cs → SaysSeven u (cs ++ ds)
  says_stop e says a other = says_same (ap (λ (x : Answer). x.number) (first_of_stop cs ds a a e)) (says a other)

  -- checks that pass leave it to those after them
  pub says_pass : passes cs ≡ true → SaysSeven u ds → SaysSeven u (cs ++ ds)
  says_pass e says a other = says_same (ap (λ (x : Answer). x.number) (first_of_pass cs ds a e)) (says a other)

  -- and those that never give 7 add nothing
  pub says_after : SaysSeven u cs → Never 7 ds → SaysSeven u (cs ++ ds)
  says_after says never = go (passes cs) refl
    where
      go : (b : Bool) → passes cs ≡ b → SaysSeven u (cs ++ ds)
      go false e = says_stop e says
      go true e = λ a other. (
        λ z. absurd
            (other (never_first 7 ds a never (sym (ap (λ (x : Answer). x.number) (first_of_pass cs ds a e)) ∙ z)).1),
        λ z. absurd (other (sym (ap (λ (x : Answer). x.number) (first_of_all cs a e)) ∙ (says a other).1 z)),
      )

-- checks that answer as the tree reader does to u
pub says_read : (u : List ℕ) (cs : List Check) → read_tree u ≡ first_of cs accepted → SaysSeven u cs
says_read u cs is a other = go (passes cs) refl
  where
    go : (b : Bool) → passes cs ≡ b → ((first_of cs a).number ≡ 7) ↔ ((read_tree u).number ≡ 7)
    go true e = (
      λ z. absurd (other (sym (ap (λ (x : Answer). x.number) (first_of_all cs a e)) ∙ z)),
      λ z. absurd (omega (arith, ap (λ (x : Answer). x.number) (is ∙ first_of_all cs accepted e))),
    )
    go false e =
        says_same (ap (λ (x : Answer). x.number) (first_of_fails cs a accepted e ∙ sym is)) (λ z. z, λ z. z)

-- the tree's own checks
pub tree_says : (t : List ℕ) → SaysSeven t (tree_checks true t)
unfolding read_tree
tree_says t = says_read t (tree_checks true t) refl

-- ---- The entries

-- no verdict has number 7 or 5
verdict_never : (v : Verdict) → ((answer_of v).number ≡ 7 → ⊥) × ((answer_of v).number ≡ 5 → ⊥)
verdict_never (Feasible pages root) = (λ h. omega arith, λ h. omega arith)
verdict_never (Failed (BadMark v)) = (λ h. omega arith, λ h. omega arith)
verdict_never (Failed (HeavyPage p)) = (λ h. omega arith, λ h. omega arith)

pub read_weight : (t : List ℕ) → WeightPromise t (read_tree t)
unfolding read_tree
read_weight t =
    weight_promise t (read_tree t) (λ h. h, λ h. h)
    (λ h. omega (arith, (never_first 5 (tree_checks true t) accepted (tree_never_five true t) h).1))

-- an entry that checks the tree, then cs, and else has a verdict
pub tree_weight : (t : List ℕ) (cs : List Check) (v : Verdict) → Plain cs
    → WeightPromise t (first_of (tree_checks true t ++ cs) (answer_of v))
tree_weight t cs v plain =
    weight_promise t _
    (says_after t (tree_checks true t) cs (tree_says t) plain.1 (answer_of v) (verdict_never v).0)
    (λ h. (verdict_never v).1 (never_first 5 (tree_checks true t ++ cs) (answer_of v)
    (never_append 5 (tree_checks true t) cs (tree_never_five true t) plain.2) h).1)

module _ (t m : List ℕ) where
  pub judge_weight : WeightPromise t (judge_plan t m)
  unfolding judge_plan judge_checks
  judge_weight = tree_weight t (mark_checks t m) (verdict_of t m) (mark_plain t m)

  -- an entry that checks more after the judge
  judge_more : (cs : List Check) → Plain cs
      → WeightPromise t (first_of (judge_checks plain_rules t m ++ cs) (answer_of (verdict_of t m)))
  unfolding judge_checks
  judge_more cs more =
      let plain = plain_append (mark_checks t m) cs (mark_plain t m) more in
      rw (append_assoc (tree_checks true t) (mark_checks t m) cs)
      (tree_weight t (mark_checks t m ++ cs) (verdict_of t m) plain)

  pub write_weight : (e : Edition) (out : List ℕ) → WeightPromise t (write_archive e t m out).answer
  unfolding write_archive checked write_checks
  write_weight e out = judge_more (film_checks e t m out) (film_plain e t m out)

  pub print_weight : (out : List ℕ) → WeightPromise t (print_sheets t m out).answer
  unfolding print_sheets checked print_checks
  print_weight out = judge_more (sheet_checks t m out) (sheet_plain t m out)

pub read_five : (e : Edition) (a t m : List ℕ) → (read_archive e a t m).answer.number ≡ 5 → ⊥
unfolding read_archive checked
read_five e a t m h =
    (verdict_never (verdict_of (table_in e a) (marks_in e a))).1
    (never_first 5 (read_checks e a t m) _ (read_plain e a t m).2 h).1

pub convert_five : (e f : Edition) (a out : List ℕ) → (convert_archive e f a out).answer.number ≡ 5 → ⊥
unfolding convert_archive checked
convert_five e f a out h =
    (verdict_never (verdict_of (table_in e a) (marks_in e a))).1
    (never_first 5 (convert_checks e f a out) _ (convert_plain e f a out).2 h).1
