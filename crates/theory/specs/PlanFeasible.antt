-- Feasible plans by number and by shape: the judge finds nothing just where node 1 has mark 1, the marks of the tree
-- are allowed and every page by shape is within the limit; the verdict is then page count and root weight.
-- Defines Judged, ShapePlan. Proves within_limit_lem, with_judged, stricter, feasible_judged, film_judged, feasible_filed,
-- feasible_film_lem, judged_feasible, judged_verdict, judged_zero, feasible_judge; filed_feasible, label_stops, film_filed;
-- heavy_bridge, judged_bridge; shape_judged (from FeasibleShape). Assumes nothing.
use Rattle.std.specs.Prelude.{ℕ, zero, suc, ◌-◌, ◌≤◌, false, not, ◌≡◌, refl, ◌↔◌, List, [], ◌∷◌, length, get_or}
use Rattle.std.proofs.Common.{arith, ◌∙◌, ap}
use Rattle.std.proofs.Math.Bool.{true}
use Rattle.std.proofs.Math.Dec.{ltb}
use borrow.Author.Tests.{eqb-true, eq-eqb, le-ltb, ltb-false, not-false}
use Rattle.model.specs.Basics.{pick}
use Rattle.model.specs.Table.{node_count, limit_of, tree_of}
use Rattle.model.specs.Plan.{mark_at, page_count, page_weight, bad_mark, heavy_page, verdict_of}
use Rattle.model.specs.Refusals.{Rules, passes, asked, no_label, bad_marks, mark_refused, page_refused, head_checks}
use Rattle.model.specs.Refusals.{node_checks, weight_checks, form_checks, tree_checks, found_checks, mark_checks, judge_checks}
use Rattle.model.specs.Refusals.{accepted_tree, plain_rules, film_rules, feasible_by, feasible_plan, feasible_film}
use Rattle.model.specs.Refusals.{first_of, answer_of, refused, judge_plan}
use Rattle.model.specs.Demand.{Filed}
use Rattle.model.specs.Refusals.{Answer}
use Rattle.model.specs.declared.Edition.{Edition}
use Rattle.std.specs.declared.option.Option.TheVariants.{Some, None}
use Rattle.model.specs.declared.Verdict.TheVariants.{Feasible}
use Rattle.theory.specs.Ranges.{Upto, when_false, when_nowhere, at_place_nowhere, first_to_none, first_to_nowhere}
use Rattle.theory.specs.Checks.{Pass, pass_all, passes_both, both_pass, first_of_all}
use Rattle.theory.specs.Checks.{first_of_pass, first_of_append, asked_none, asked_less, node_stops}
use Rattle.theory.specs.TableFacts.{SoundFacts, AcceptedFacts, nowhere_filed, passed_facts}
use Rattle.theory.specs.TableNumbered.{tree_size}
use Rattle.theory.specs.PlanShape.{allowed, weighed, AllWithin}
use Rattle.theory.specs.PlanLaid.{FeasibleShape}
use Rattle.theory.specs.PlanMarks.{marks_bridge}
use Rattle.theory.specs.PlanBridge.{count_bridge, weight_bridge}

-- ---- Pages within a limit, by their places in the list

pub within_all : (K : ℕ) (ps : List ℕ) → AllWithin K ps → Upto (length ps) (λ p. get_or ps (p - 1) 0 ≤ K)
unfolding AllWithin
within_all K [] h p low high = absurd (omega arith)
within_all K (x ∷ ps) h zero low high = absurd (omega arith)
within_all K (x ∷ ps) h (suc zero) low high = h.0
within_all K (x ∷ ps) h (suc (suc p)) low high =
    let here : suc (suc p) - 1 ≡ suc p = omega arith in
    let there : suc p - 1 ≡ p = omega arith in
    rw here (rw there at (within_all K ps h.1 (suc p) (omega arith) (omega arith)))

pub all_within : (K : ℕ) (ps : List ℕ) → Upto (length ps) (λ p. get_or ps (p - 1) 0 ≤ K) → AllWithin K ps
unfolding AllWithin
all_within K [] h = tt
all_within K (x ∷ ps) h = (h 1 (omega arith) (omega arith), all_within K ps rest)
  where
    rest : Upto (length ps) (λ p. get_or ps (p - 1) 0 ≤ K)
    rest zero low high = absurd (omega arith)
    rest (suc p) low high =
        let here : suc (suc p) - 1 ≡ suc p = omega arith in
        let there : suc p - 1 ≡ p = omega arith in
        rw there (rw here at (h (suc (suc p)) (omega arith) (omega arith)))

-- ---- What the judge finds

-- the judge finds nothing in a tree and a plan
pub record Judged (t m : List ℕ) : Type 0 where
  pub tree : AcceptedFacts t
  pub long : length m ≡ node_count t
  pub marked : bad_mark t m ≡ None
  pub light : heavy_page t m ≡ None

pub within_limit_lem : {t m : List ℕ} → Judged t m → Upto (page_count t m) (λ p. page_weight t m p ≤ limit_of t)
unfolding heavy_page
within_limit_lem {t} {m} j p low high =
    ltb-false (limit_of t) (page_weight t m p)
    (first_to_nowhere (page_count t m) (λ q. ltb (limit_of t) (page_weight t m q)) j.light p low high)

pub marks_judged : (t m : List ℕ) → AcceptedFacts t → passes (mark_checks t m) ≡ true → Judged t m
unfolding Pass mark_checks bad_marks found_checks mark_refused page_refused
marks_judged t m a e =
    let p = (pass_all (mark_checks t m)).0 e in
    record {
      tree = a;
      long = eqb-true (length m) (node_count t) (not-false _ (when_nowhere _ (node_count t) p.0));
      marked = p.1.0;
      light = p.1.1.0;
    }

-- the judge under rules finds nothing
module _ (r : Rules) (t m : List ℕ) (f : feasible_by r t m ≡ true) where
  rule_parts : (passes (head_checks t) ≡ true) × (passes (node_checks r.filed t) ≡ true)
      × (passes (weight_checks t) ≡ true) × (passes (mark_checks t m) ≡ true)
  unfolding judge_checks tree_checks form_checks
  rule_parts =
      let plan = passes_both (tree_checks r.filed t) (mark_checks t m) f in
      let tree = passes_both (form_checks r.filed t) (weight_checks t) plan.0 in
      let form = passes_both (head_checks t) (node_checks r.filed t) tree.0 in
      (form.0, form.1, tree.1, plan.1)

  pub with_judged : Judged t m
  unfolding judge_checks
  with_judged =
      let plan = passes_both (tree_checks r.filed t) (mark_checks t m) f in
      marks_judged t m (passed_facts r.filed t plan.0) plan.1

  labels_asked : (asked r.filed (no_label t)).place ≡ None
  unfolding Pass node_checks
  labels_asked = ((pass_all (node_checks r.filed t)).0 rule_parts.1).0

  -- nor does the judge under others, where what they ask for applies nowhere
  other_rules : (s : Rules) → (asked s.filed (no_label t)).place ≡ None → feasible_by s t m ≡ true
  unfolding Pass judge_checks tree_checks form_checks node_checks
  other_rules s labels =
      let p = rule_parts in
      let walk = ((pass_all (node_checks r.filed t)).0 p.1).1 in
      both_pass (tree_checks s.filed t) (mark_checks t m)
      (both_pass (form_checks s.filed t) (weight_checks t)
      (both_pass (head_checks t) (node_checks s.filed t) p.0 ((pass_all (node_checks s.filed t)).1 (labels, walk)))
      p.2)
      p.3

  -- nor under rules that ask no more
  pub stricter : (s : Rules) → (s.filed ≡ true → r.filed ≡ true) → feasible_by s t m ≡ true
  stricter s filed = other_rules s (asked_less r.filed s.filed (no_label t) filed labels_asked)

pub feasible_judged : (t m : List ℕ) → feasible_plan t m ≡ true → Judged t m
unfolding feasible_plan
feasible_judged t m e = with_judged plain_rules t m e

pub film_judged : (e : Edition) (t m : List ℕ) → feasible_film e t m ≡ true → Judged t m
unfolding feasible_film
film_judged e t m f = with_judged (film_rules e) t m f

-- no label of an accepted tree is 0
pub feasible_filed : (t m : List ℕ) → feasible_plan t m ≡ true → Filed t
unfolding feasible_plan asked pick
feasible_filed t m f = nowhere_filed t (labels_asked plain_rules t m f)

-- a feasible plan is one on film of every edition
pub feasible_film_lem : (e : Edition) (t m : List ℕ) → feasible_plan t m ≡ true → feasible_film e t m ≡ true
unfolding feasible_plan feasible_film
feasible_film_lem e t m f = stricter plain_rules t m f (film_rules e) (λ h. refl)

pub judged_feasible : {t m : List ℕ} → accepted_tree t ≡ true → Judged t m → feasible_plan t m ≡ true
unfolding Pass feasible_plan judge_checks accepted_tree mark_checks bad_marks found_checks mark_refused page_refused
judged_feasible {t} {m} e j =
    both_pass (tree_checks true t) (mark_checks t m) e
    ((pass_all (mark_checks t m)).1
    (when_false _ (node_count t) (ap not (eq-eqb (length m) (node_count t) j.long)), (j.marked, (j.light, tt))))

pub judged_verdict : {t m : List ℕ} → Judged t m → verdict_of t m ≡ Feasible (page_count t m) (page_weight t m 1)
unfolding verdict_of
judged_verdict {t} {m} j = at_place_nowhere (bad_mark t m) _ _ j.marked ∙ at_place_nowhere (heavy_page t m) _ _
    j.light

pub judged_zero : {t m : List ℕ} → Judged t m → (answer_of (verdict_of t m)).number ≡ 0
judged_zero j = ap (λ v. (answer_of v).number) (judged_verdict j)

-- ---- The judge's answer

pub feasible_judge : (t m : List ℕ) → feasible_plan t m ≡ true
    → judge_plan t m ≡ answer_of (Feasible (page_count t m) (page_weight t m 1))
unfolding judge_plan feasible_plan
feasible_judge t m e =
    first_of_all (judge_checks plain_rules t m) (answer_of (verdict_of t m)) e
    ∙ ap answer_of (judged_verdict (feasible_judged t m e))

-- ---- A plan on film, in which nothing but labels is refused

module _ (e : Edition) (t m : List ℕ) (f : feasible_film e t m ≡ true) where
  -- with no label 0 it is feasible
  pub filed_feasible : (no_label t).place ≡ None → feasible_plan t m ≡ true
  unfolding feasible_plan feasible_film
  filed_feasible none = other_rules (film_rules e) t m f plain_rules (asked_none true (no_label t) none)

  -- with one, 14 is the answer
  pub label_stops : (v : ℕ) → (no_label t).place ≡ Some v → (a : Answer)
      → first_of (judge_checks plain_rules t m) a ≡ refused 14 v
  unfolding feasible_film judge_checks tree_checks form_checks
  label_stops v found a =
      first_of_append (tree_checks true t) (mark_checks t m) a
      ∙ first_of_append (form_checks true t) (weight_checks t) (first_of (mark_checks t m) a)
      ∙ first_of_pass (head_checks t) (node_checks true t) _ (rule_parts (film_rules e) t m f).0
      ∙ node_stops t v found _

  -- film of a filed edition has none
  pub film_filed : e.filed ≡ true → feasible_plan t m ≡ true
  unfolding feasible_plan feasible_film
  film_filed is = stricter (film_rules e) t m f plain_rules (λ h. is)

-- ---- By shape

-- a plan by shape
pub record ShapePlan (t m : List ℕ) : Type 0 where
  pub first : mark_at m 1 ≡ 1
  pub allows : allowed false (tree_of t) m ≡ true
  pub within : AllWithin (limit_of t) (weighed (tree_of t) m).pages

module _ {t : List ℕ} (s : SoundFacts t) (m : List ℕ) (long : length m ≡ node_count t) where
  pub heavy_bridge : allowed false (tree_of t) m ≡ true → (heavy_page t m ≡ None) ↔ AllWithin (limit_of t)
      (weighed (tree_of t) m).pages
  unfolding heavy_page
  heavy_bridge ok = (
    λ e. all_within (limit_of t) (weighed (tree_of t) m).pages
        (λ p low high.
        rw (← weight_bridge s m long ok p low)
        (ltb-false (limit_of t) (page_weight t m p)
        (first_to_nowhere (page_count t m) (λ p. ltb (limit_of t) (page_weight t m p)) e p low
        (omega (arith, count_bridge s m long ok))))),
    λ h. first_to_none (page_count t m) (λ p. ltb (limit_of t) (page_weight t m p))
        (λ p low high.
        le-ltb (limit_of t) (page_weight t m p)
        (rw (weight_bridge s m long ok p low)
        (within_all (limit_of t) (weighed (tree_of t) m).pages h p low (omega (arith, count_bridge s m long ok))))),
  )

module _ {t : List ℕ} (a : AcceptedFacts t) (m : List ℕ) (long : length m ≡ node_count t) where
  -- the judge finds nothing: a plan by shape
  pub judged_bridge : Judged t m ↔ ShapePlan t m
  judged_bridge = (
    λ j.
        let both = (marks_bridge a.sound m long).0 j.marked in
        record { first = both.0; allows = both.1; within = (heavy_bridge a.sound m long both.1).0 j.light },
    λ p. record {
      tree = a;
      long = long;
      marked = (marks_bridge a.sound m long).1 (p.first, p.allows);
      light = (heavy_bridge a.sound m long p.allows).1 p.within;
    },
  )

-- what the judge finds of a plan by shape
pub shape_judged : {t : List ℕ} → AcceptedFacts t → (m : List ℕ) (root : ℕ) → FeasibleShape (limit_of t) (tree_of t) m
    root
    → Judged t m
unfolding mark_at
shape_judged {t} a m root f =
    let long : length m ≡ node_count t = omega (arith, f.long, tree_size a.sound) in
    (judged_bridge a m long).1 (record { first = f.first; allows = f.allows; within = f.within })
