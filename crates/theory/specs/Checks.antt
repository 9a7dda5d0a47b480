-- Lists of checks, one after the other: where all pass, which of them answers, and which numbers they never give. A
-- list is told by its parts, so that a check put into one of them is met here and in the facts that the part stands
-- for, and nowhere else.
-- Defines Pass, Never, Plain. Proves pass_all, passes_append, passes_both, both_pass; first_of_pass, first_of_stop,
-- first_of_fails, first_of_all, first_of_cons, first_of_append; never_append, never_first, accepted_pass, refused_fails;
-- that no check gives 0 or 5, that of the weights alone 7, and that of the judge none 15 (head_plain to convert_plain);
-- of a check that a rule asks for asked_none, asked_less, node_stops. Assumes nothing.
use Rattle.std.specs.Prelude.{ℕ, ◌≡◌, refl, Bool, true, false, not, ◌&&◌, ◌↔◌, List, [], ◌∷◌, ◌++◌, eqb}
use Rattle.std.proofs.Common.{sym, ap, ap₂, ◌∙◌, true≢false, append-nil, eq-eqb}
use Rattle.std.proofs.lemmas.Bool.{false≢true}
use Rattle.model.specs.Basics.{pick, at_place, every}
use Rattle.model.specs.Refusals.{Rules, Check, refused, first_of, passes, asked}
use Rattle.model.specs.Refusals.{short_table, bad_count, bad_limit, bad_length, bad_walk, heavy_node, bad_marks}
use Rattle.model.specs.Refusals.{short_scratch, mark_refused, page_refused, bad_output, no_archive, no_label, many_nodes}
use Rattle.model.specs.Refusals.{head_checks, node_checks, weight_checks, lent_checks, found_checks, mark_checks, film_checks}
use Rattle.model.specs.Refusals.{back_checks, sheet_checks, form_checks, tree_checks, plan_checks, judge_checks, read_checks}
use Rattle.model.specs.Refusals.{convert_checks}
use Rattle.std.specs.declared.option.Option.{Option}
use Rattle.std.specs.declared.option.Option.TheVariants.{Some, None}
use Rattle.model.specs.Refusals.{Answer}
use Rattle.model.specs.declared.Edition.{Edition}
use Rattle.theory.specs.Ranges.{at_nowhere, at_place_at}
use Rattle.theory.specs.Bools.{both_true, and_true}

-- ---- Checks that pass

-- no check's condition holds
unfoldable pub Pass : List Check → Type 0
Pass [] = Unit {0}
Pass (c ∷ cs) = (c.place ≡ None) × Pass cs

pub pass_all : (cs : List Check) → (passes cs ≡ true) ↔ Pass cs
unfolding passes at_place Pass
pass_all [] = (λ e. tt, λ p. refl)
pass_all (c ∷ cs) = go c.place refl (pass_all cs)
  where
    go : (o : Option ℕ) → c.place ≡ o → (passes cs ≡ true) ↔ Pass cs
        → (at_place o (λ p. false) (passes cs) ≡ true) ↔ ((c.place ≡ None) × Pass cs)
    go (Some p) q ih = (λ h. absurd (false≢true h), λ h. absurd (at_nowhere p (sym q ∙ h.0)))
    go None q ih = (λ h. (q, ih.0 h), λ h. ih.1 h.1)

pub passes_append : (cs ds : List Check) → passes (cs ++ ds) ≡ (passes cs && passes ds)
unfolding passes at_place
passes_append [] ds = refl
passes_append (c ∷ cs) ds = go c.place (passes_append cs ds)
  where
    go : (o : Option ℕ) → passes (cs ++ ds) ≡ (passes cs && passes ds)
        → at_place o (λ p. false) (passes (cs ++ ds)) ≡ (at_place o (λ p. false) (passes cs) && passes ds)
    go (Some p) ih = refl
    go None ih = ih

pub passes_both : (cs ds : List Check) → passes (cs ++ ds) ≡ true → (passes cs ≡ true) × (passes ds ≡ true)
passes_both cs ds e = both_true (passes cs) (passes ds) (sym (passes_append cs ds) ∙ e)

pub both_pass : (cs ds : List Check) → passes cs ≡ true → passes ds ≡ true → passes (cs ++ ds) ≡ true
both_pass cs ds e f = passes_append cs ds ∙ and_true (passes cs) (passes ds) e f

-- ---- The check that answers

-- checks that pass leave the answer to those after them
pub first_of_pass : (cs ds : List Check) (a : Answer) → passes cs ≡ true → first_of (cs ++ ds) a ≡ first_of ds a
unfolding passes first_of at_place
first_of_pass [] ds a e = refl
first_of_pass (c ∷ cs) ds a e = go c.place (first_of_pass cs ds a) e
  where
    go : (o : Option ℕ) → (passes cs ≡ true → first_of (cs ++ ds) a ≡ first_of ds a)
        → at_place o (λ p. false) (passes cs) ≡ true → at_place o c.answer (first_of (cs ++ ds) a) ≡ first_of ds a
    go (Some p) ih h = absurd (false≢true h)
    go None ih h = ih h

-- checks that do not pass answer, whatever comes after
pub first_of_stop : (cs ds : List Check) (a b : Answer) → passes cs ≡ false → first_of (cs ++ ds) a ≡ first_of cs b
unfolding passes first_of at_place
first_of_stop [] ds a b e = absurd (true≢false e)
first_of_stop (c ∷ cs) ds a b e = go c.place (first_of_stop cs ds a b) e
  where
    go : (o : Option ℕ) → (passes cs ≡ false → first_of (cs ++ ds) a ≡ first_of cs b)
        → at_place o (λ p. false) (passes cs) ≡ false
        → at_place o c.answer (first_of (cs ++ ds) a) ≡ at_place o c.answer (first_of cs b)
    go (Some p) ih h = refl
    go None ih h = ih h

-- whatever answer they are given
pub first_of_fails : (cs : List Check) (a b : Answer) → passes cs ≡ false → first_of cs a ≡ first_of cs b
first_of_fails cs a b e =
    ap (λ (ds : List Check). first_of ds a) (sym (append-nil cs)) ∙ first_of_stop cs [] a b e

-- where all checks pass, the answer stands
pub first_of_all : (cs : List Check) (a : Answer) → passes cs ≡ true → first_of cs a ≡ a
unfolding first_of
first_of_all cs a e = ap (λ (ds : List Check). first_of ds a) (sym (append-nil cs)) ∙ first_of_pass cs [] a e

-- one check before others, as a program puts an answer together
pub first_of_cons : (c : Check) (cs : List Check) (a : Answer) (p : Option ℕ) (rest r : Answer) → r
    ≡ at_place p c.answer rest
    → p ≡ c.place → rest ≡ first_of cs a → r ≡ first_of (c ∷ cs) a
unfolding first_of
first_of_cons c cs a p rest r e h g = e ∙ ap₂ (λ (o : Option ℕ) (x : Answer). at_place o c.answer x) h g

pub first_of_none : (a r : Answer) → r ≡ a → r ≡ first_of [] a
unfolding first_of
first_of_none a r e = e

-- a list in two parts, as a program puts an answer together
pub first_of_append : (cs ds : List Check) (a : Answer) → first_of (cs ++ ds) a ≡ first_of cs (first_of ds a)
unfolding first_of
first_of_append [] ds a = refl
first_of_append (c ∷ cs) ds a = ap (at_place c.place c.answer) (first_of_append cs ds a)

-- ---- Numbers that no check gives

-- no check of the list gives the number n, at any place
abbrev pub Never : ℕ → List Check → Type 0
Never n cs = (p : ℕ) → every (λ c. not (eqb (c.answer p).number n)) cs ≡ true

never_cons : (n : ℕ) (c : Check) (cs : List Check) → Never n (c ∷ cs) → (p : ℕ)
    → (not (eqb (c.answer p).number n) ≡ true) × Never n cs
unfolding every
never_cons n c cs h p = ((both p).0, λ q. (both q).1)
  where
    both : (q : ℕ)
        → (not (eqb (c.answer q).number n) ≡ true) × (every (λ d. not (eqb (d.answer q).number n)) cs ≡ true)
    both q = both_true (not (eqb (c.answer q).number n)) (every (λ d. not (eqb (d.answer q).number n)) cs) (h q)

pub never_append : (n : ℕ) (cs ds : List Check) → Never n cs → Never n ds → Never n (cs ++ ds)
unfolding every
never_append n [] ds h k p = k p
never_append n (c ∷ cs) ds h k p =
    let b = never_cons n c cs h p in and_true _ _ b.0 (never_append n cs ds b.1 k p)

-- so the answer n is that of what comes after them, and all of them pass
pub never_first : (n : ℕ) (cs : List Check) (a : Answer) → Never n cs → (first_of cs a).number ≡ n
    → (passes cs ≡ true) × (a.number ≡ n)
unfolding passes first_of at_place every
never_first n [] a h e = (refl, e)
never_first n (c ∷ cs) a h e = go c.place (never_first n cs a (never_cons n c cs h 0).1) e
  where
    go : (o : Option ℕ) → ((first_of cs a).number ≡ n → (passes cs ≡ true) × (a.number ≡ n))
        → (at_place o c.answer (first_of cs a)).number ≡ n
        → (at_place o (λ p. false) (passes cs) ≡ true) × (a.number ≡ n)
    go (Some p) ih q = absurd (true≢false (sym (never_cons n c cs h p).0 ∙ ap not (eq-eqb (c.answer p).number n q)))
    go None ih q = ih q

-- 0 is acceptance: all pass
pub accepted_pass : (cs : List Check) (a : Answer) → Never 0 cs → (first_of cs a).number ≡ 0 → passes cs ≡ true
accepted_pass cs a h e = (never_first 0 cs a h e).0

-- any other number is a refusal: they do not all pass
pub refused_fails : (cs : List Check) (a : Answer) → a.number ≡ 0 → ((first_of cs a).number ≡ 0 → ⊥) → passes cs ≡ false
refused_fails cs a z h = go (passes cs) refl
  where
    go : (b : Bool) → passes cs ≡ b → passes cs ≡ false
    go true e = absurd (h (ap (λ (x : Answer). x.number) (first_of_all cs a e) ∙ z))
    go false e = e

-- ---- No check gives 0 or 5, and 7 is given by the check of the weights alone

-- neither 0 nor 7 nor 5
abbrev pub Plain : List Check → Type 0
Plain cs = Never 0 cs × Never 7 cs × Never 5 cs

pub plain_append : (cs ds : List Check) → Plain cs → Plain ds → Plain (cs ++ ds)
plain_append cs ds h k = (
  never_append 0 cs ds h.0 k.0,
  never_append 7 cs ds h.1 k.1,
  never_append 5 cs ds h.2 k.2,
)

pub head_plain : (t : List ℕ) → Plain (head_checks t)
unfolding every head_checks short_table bad_count bad_limit bad_length
head_plain t = (λ p. refl, λ p. refl, λ p. refl)

node_plain : (filed : Bool) (t : List ℕ) → Plain (node_checks filed t)
unfolding every node_checks asked no_label bad_walk
node_plain filed t = (λ p. refl, λ p. refl, λ p. refl)

weight_never : (t : List ℕ) → Never 0 (weight_checks t) × Never 5 (weight_checks t)
unfolding every weight_checks heavy_node
weight_never t = (λ p. refl, λ p. refl)

-- the check of the weights gives 7 where it does not pass
pub weight_seven : (t : List ℕ) (a : Answer) → passes (weight_checks t) ≡ false → (first_of (weight_checks t) a).number ≡ 7
unfolding first_of passes at_place weight_checks heavy_node
weight_seven t a = go (heavy_node t).place
  where
    go : (o : Option ℕ) → at_place o (λ p. false) true ≡ false → (at_place o (heavy_node t).answer a).number ≡ 7
    go (Some p) e = refl
    go None e = absurd (true≢false e)

pub lent_plain : (t m s : List ℕ) → Plain (lent_checks t m s)
unfolding every lent_checks bad_marks short_scratch
lent_plain t m s = (λ p. refl, λ p. refl, λ p. refl)

pub mark_plain : (t m : List ℕ) → Plain (mark_checks t m)
unfolding every mark_checks bad_marks found_checks mark_refused page_refused
mark_plain t m = (λ p. refl, λ p. refl, λ p. refl)

pub film_plain : (e : Edition) (t m out : List ℕ) → Plain (film_checks e t m out)
unfolding every film_checks many_nodes bad_output
film_plain e t m out = (λ p. refl, λ p. refl, λ p. refl)

pub sheet_plain : (t m out : List ℕ) → Plain (sheet_checks t m out)
unfolding every sheet_checks bad_output
sheet_plain t m out = (λ p. refl, λ p. refl, λ p. refl)

pub form_plain : (filed : Bool) (t : List ℕ) → Plain (form_checks filed t)
unfolding form_checks
form_plain filed t = plain_append (head_checks t) (node_checks filed t) (head_plain t) (node_plain filed t)

pub tree_never : (filed : Bool) (t : List ℕ) → Never 0 (tree_checks filed t)
unfolding tree_checks
tree_never filed t =
    never_append 0 (form_checks filed t) (weight_checks t) (form_plain filed t).0 (weight_never t).0

pub tree_never_five : (filed : Bool) (t : List ℕ) → Never 5 (tree_checks filed t)
unfolding tree_checks
tree_never_five filed t =
    never_append 5 (form_checks filed t) (weight_checks t) (form_plain filed t).2 (weight_never t).1

pub plan_never : (t m s : List ℕ) → Never 0 (plan_checks t m s)
unfolding plan_checks
plan_never t m s =
    never_append 0 (tree_checks true t) (lent_checks t m s) (tree_never true t) (lent_plain t m s).0

pub judge_never : (r : Rules) (t m : List ℕ) → Never 0 (judge_checks r t m)
unfolding judge_checks
judge_never r t m =
    never_append 0 (tree_checks r.filed t) (mark_checks t m) (tree_never r.filed t) (mark_plain t m).0

pub judge_fifteen : (r : Rules) (t m : List ℕ) → Never 15 (judge_checks r t m)
unfolding every judge_checks tree_checks form_checks head_checks node_checks weight_checks mark_checks found_checks
    short_table bad_count bad_limit bad_length asked no_label bad_walk heavy_node bad_marks mark_refused page_refused
judge_fifteen r t m p = refl

pub read_plain : (e : Edition) (a t m : List ℕ) → Plain (read_checks e a t m)
unfolding every read_checks back_checks no_archive bad_output bad_marks
read_plain e a t m = (λ p. refl, λ p. refl, λ p. refl)

pub convert_plain : (e f : Edition) (a out : List ℕ) → Plain (convert_checks e f a out)
unfolding every convert_checks film_checks no_archive no_label many_nodes bad_output
convert_plain e f a out = (λ p. refl, λ p. refl, λ p. refl)

-- ---- A check that a rule asks for

-- one that applies nowhere does so under every rule
pub asked_none : (rule : Bool) (c : Check) → c.place ≡ None → (asked rule c).place ≡ None
unfolding asked pick
asked_none true c e = e
asked_none false c e = refl

-- under a rule that asks no more it applies nowhere either
pub asked_less : (rule less : Bool) (c : Check) → (less ≡ true → rule ≡ true) → (asked rule c).place ≡ None
    → (asked less c).place ≡ None
unfolding asked pick
asked_less true less c h e = asked_none less c e
asked_less false true c h e = absurd (false≢true (h refl))
asked_less false false c h e = refl

-- nodes with a label 0, where the rule asks
pub node_stops : (t : List ℕ) (v : ℕ) → (no_label t).place ≡ Some v → (a : Answer)
    → first_of (node_checks true t) a ≡ refused 14 v
unfolding first_of node_checks asked pick no_label bad_walk
node_stops t v found a = at_place_at (no_label t).place v (refused 14) _ found
