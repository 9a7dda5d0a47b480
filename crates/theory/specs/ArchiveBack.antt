-- Writing and reading back, in an edition. The archive of a tree and a plan in which the judge that film is held
-- against finds nothing tells that very table and those very marks, so it passes the reader's test; an archive that
-- passes the test is written by the tree and the plan that it tells.
-- Defines table_row. Proves write_read, read_write, table_in-bytes. Assumes nothing.
use Prim.Native.Nat.{ℕ, zero, suc, ◌+◌, ◌-◌, ◌*◌, ◌/◌, ◌%◌, ◌≤◌, ◌<◌}
use native.Mathlib.Omega.{arith}
use Rattle.std.proofs.Math.Bool.{Bool, true, false}
use Rattle.std.specs.Prelude.{◌&&◌, ◌≡◌, ◌⊎◌, length}
use Rattle.std.proofs.lemmas.Bool.{false≢true}
use Rattle.std.proofs.Math.Path.{refl, sym, ap}
use Rattle.std.proofs.Common.{◌∙◌, ap₂, inl, inr}
use mathlib.Core.List.{List, [], ◌∷◌}
use Rattle.std.proofs.Math.ListN.{get_or}
use Rattle.std.proofs.Math.Seq.{ext_get_or}
use Rattle.std.proofs.Math.Dec.{eqb, ltb, leb}
use borrow.Author.Tests.{eqb-true, eqb-false, eq-eqb, ne_eqb, ltb-true, lt-ltb, le-ltb, le-leb, leb-true}
use Rattle.model.specs.Basics.{pick, at_place, count_to, first_to, list_to, same_list}
use Rattle.model.specs.Table.{Bytes, word_at, bytes_of, node_count, limit_of, field_at, table_bytes}
use Rattle.model.specs.Table.{weight_at, label_at, first_at, next_at}
use Rattle.model.specs.Plan.{parent_at, stays, begins, continues, mark_at, has_mark}
use Rattle.model.specs.Plan.{page_count, run_last}
use Rattle.model.specs.Runs.{Run}
use Rattle.model.specs.Archive.{archive_of, nodes_in, limit_in, pages_in, page_field_in, node_field_in, parent_in, first_in}
use Rattle.model.specs.Archive.{next_in}
use Rattle.model.specs.Archive.{table_in, begins_in, continues_in, mark_in, marks_in}
use Rattle.model.specs.Refusals.{feasible_film, is_archive}
use Rattle.model.specs.declared.Edition.{Edition}
use Rattle.std.specs.declared.option.Option.{Option}
use Rattle.std.specs.declared.option.Option.TheVariants.{Some, None}
use Rattle.theory.specs.Bools.{both_true, and_true, and_false_left}
use Rattle.theory.specs.Ranges.{Upto, pick_true, pick_false, at_place_at, at_place_nowhere, place_cases}
use Rattle.theory.specs.Ranges.{count_to_none}
use Rattle.theory.specs.Ranges.{first_to_cong, first_to_at, list_to_cong, length-list_to}
use Rattle.theory.specs.Ranges.{get_d_list_to}
use Rattle.theory.specs.TableFacts.{SoundFacts}
use Rattle.theory.specs.Chosen.{count_to_mono, count_to_pass, count_to_some}
use Rattle.theory.specs.SiblingsByParent.{first_by_parent, next_by_parent}
use Rattle.theory.specs.PlanFeasible.{Judged, film_judged}
use Rattle.theory.specs.RunsByMarks.{GoodMarks, good_marks, InRunOf, in_run_of, run_last_marks}
use Rattle.theory.specs.Words.{Words, word_small, bytes_of_words, words_bytes, words_cons, words_nil, words_list_to}
use Rattle.theory.specs.PagesByNumber.{Page, page_first, page_run_lem}
use Rattle.theory.specs.Put.{length_records_to, get_d_records_to}
use Rattle.theory.specs.ArchiveWords.{Described, archive_nodes_lem}
use Rattle.theory.specs.ArchiveWords.{archive_limit, archive_pages, archive_begin, archive_end, archive_node}
use Rattle.theory.specs.ArchiveWords.{archive_parent}

-- ---- A table is told by its words

unfoldable table_row : List ℕ → ℕ → List ℕ
table_row t v = weight_at t v ∷ label_at t v ∷ first_at t v ∷ next_at t v ∷ []

four_row : (t : List ℕ) (v : ℕ) → length (table_row t v) ≡ 4
unfolding table_row
four_row t v = refl

row_field : (t : List ℕ) (v f : ℕ) → f < 4 → get_or (table_row t v) f 0 ≡ field_at t v f
unfolding table_row
row_field t v zero h = refl
row_field t v (suc zero) h = refl
row_field t v (suc (suc zero)) h = refl
row_field t v (suc (suc (suc zero))) h = refl
row_field t v (suc (suc (suc (suc f)))) h = absurd (omega arith)

table_words : (t : List ℕ) → Bytes t → length t ≡ table_bytes (node_count t)
    → bytes_of (node_count t ∷ limit_of t ∷ list_to (node_count t) (table_row t)) ≡ t
unfolding field_at
table_words t b long =
    sym
    (bytes_of_words t (node_count t ∷ limit_of t ∷ list_to (node_count t) (table_row t)) b
    (omega (arith, length_records_to (table_row t) 4 (four_row t) (node_count t)))
    word)
  where
    later : (k : ℕ) → k < 4 * node_count t → word_at t (suc (suc k)) ≡ get_or (list_to (node_count t) (table_row t)) k 0
    later k less =
        let v : ℕ = k / 4 + 1 in
        let f : ℕ = k % 4 in
        let place : k ≡ 4 * (v - 1) + f = omega arith in
        let place' : suc (suc k) ≡ 2 + 4 * (v - 1) + f = omega arith in
        ap (word_at t) place'
        ∙ sym (row_field t v f (omega arith))
        ∙ sym (get_d_records_to (table_row t) 4 (four_row t) (node_count t) v f (omega arith) (omega arith) (omega arith))
        ∙ ap (λ i. get_or (list_to (node_count t) (table_row t)) i 0) (sym place)

    word : (j : ℕ) → j < length (node_count t ∷ limit_of t ∷ list_to (node_count t) (table_row t))
        → word_at t j ≡ get_or (node_count t ∷ limit_of t ∷ list_to (node_count t) (table_row t)) j 0
    word zero h = refl
    word (suc zero) h = refl
    word (suc (suc k)) h = later k (omega (arith, length_records_to (table_row t) 4 (four_row t) (node_count t)))

-- ---- Reading back

module _ {e : Edition} (d : Described e) {t m : List ℕ} (p : Judged t m) where
  -- the archive
  abbrev a : List ℕ
  a = archive_of e t m

  s : SoundFacts t
  s = p.tree.sound

  g : GoodMarks t m
  g = good_marks t m p.marked

  archive_first : (v : ℕ) → 1 ≤ v → v ≤ node_count t → first_in e (archive_of e t m) v ≡ first_at t v
  unfolding first_in s
  archive_first v low high =
      ap (λ n. pick (ltb v n && eqb (parent_in e a (v + 1)) v) (v + 1) 0) (archive_nodes_lem d t m)
      ∙ ap (λ b. pick b (v + 1) 0) (test (ltb v (node_count t)) refl)
      ∙ first_by_parent s v low high
    where
      test : (b : Bool) → ltb v (node_count t) ≡ b
          → (ltb v (node_count t) && eqb (parent_in e a (v + 1)) v) ≡ (ltb v (node_count t) && eqb (parent_at t (v + 1)) v)
      test true q =
          let less : v < node_count t = ltb-true v (node_count t) q in
          ap (λ u. ltb v (node_count t) && eqb u v) (archive_parent d t m (v + 1) (omega arith) (omega arith))
      test false q =
          and_false_left (ltb v (node_count t)) (eqb (parent_in e a (v + 1)) v) q
          ∙ sym (and_false_left (ltb v (node_count t)) (eqb (parent_at t (v + 1)) v) q)

  pub archive_next : (v : ℕ) → 1 ≤ v → v ≤ node_count t → next_in e (archive_of e t m) v ≡ next_at t v
  unfolding next_in s
  archive_next v low high = go (eqb v 1) refl
    where
      found : ℕ
      found = at_place (first_to (nodes_in e a) (λ u. ltb v u && eqb (parent_in e a u) (parent_in e a v))) (λ u. u) 0

      same : first_to (nodes_in e a) (λ u. ltb v u && eqb (parent_in e a u) (parent_in e a v))
          ≡ first_to (node_count t) (λ u. ltb v u && eqb (parent_at t u) (parent_at t v))
      same =
          ap (λ n. first_to n (λ u. ltb v u && eqb (parent_in e a u) (parent_in e a v))) (archive_nodes_lem d t m)
          ∙ first_to_cong (node_count t) (λ u. ltb v u && eqb (parent_in e a u) (parent_in e a v))
          (λ u. ltb v u && eqb (parent_at t u) (parent_at t v))
          (λ u one h. ap₂ (λ x y. ltb v u && eqb x y) (archive_parent d t m u one h) (archive_parent d t m v low high))

      go : (b : Bool) → eqb v 1 ≡ b → pick (eqb v 1) 0 found ≡ next_at t v
      go true q =
          let one : v ≡ 1 = eqb-true v 1 q in pick_true (eqb v 1) 0 found q ∙ sym (ap (next_at t) one ∙ s.root_alone)
      go false q =
          pick_false (eqb v 1) 0 found q ∙ ap (λ (o : Option ℕ). at_place o (λ u. u) 0) same ∙ next_by_parent s v low high

  row_back : (v : ℕ) → 1 ≤ v → v ≤ node_count t
      → (node_field_in e a v 0 ∷ node_field_in e a v 1 ∷ first_in e a v ∷ next_in e a v ∷ []) ≡ table_row t v
  unfolding table_row
  row_back v low high =
      rw (
        archive_node d t m v 0 low high (omega arith),
        archive_node d t m v 1 low high (omega arith),
        archive_first v low high,
        archive_next v low high,
      )

  -- the table that the archive tells is the one that was written
  write_read_table : Bytes t → table_in e a ≡ t
  unfolding table_in s
  write_read_table b =
      ap bytes_of
      (ap₂
      (λ n k. n ∷ k ∷ list_to n (λ v. node_field_in e a v 0 ∷ node_field_in e a v 1 ∷ first_in e a v ∷ next_in e a v ∷ []))
      (archive_nodes_lem d t m) (archive_limit d t m)
      ∙ ap (λ (r : List ℕ). node_count t ∷ limit_of t ∷ r) (list_to_cong (node_count t) _ (table_row t) row_back))
      ∙ table_words t b s.bytes

  -- ---- Marks

  -- first node and last sibling of a page, by its first node
  module _ (q b : ℕ) (low : 1 ≤ q) (high : q ≤ page_count t m) (x : Page t m q b) where
    pub begin_back : page_field_in e (archive_of e t m) q 0 ≡ b
    begin_back = archive_begin d t m q low high ∙ ap (λ (r : Run). r.first) (page_run_lem t m q b low x)

    pub end_back : page_field_in e (archive_of e t m) q 1 ≡ run_last t m b
    end_back = archive_end d t m q low high ∙ ap (λ (r : Run). r.last) (page_run_lem t m q b low x)

  -- the page that node v begins
  page_of_first : (v : ℕ) → 1 ≤ v → v ≤ node_count t → mark_at m v ≡ 1
      → (q : ℕ) × ((1 ≤ q) × (q ≤ page_count t m)) × Page t m q v
  unfolding page_count
  page_of_first v low high one =
      let yes : has_mark m begins v ≡ true = eq-eqb (mark_at m v) 1 one in (
        count_to v (has_mark m begins),
        (
          omega (arith, count_to_pass (has_mark m begins) v low yes 0 low),
          count_to_mono (has_mark m begins) v (node_count t) high,
        ),
        record { low = low; high = high; passed = yes; rank = refl },
      )

  module _ (v : ℕ) (low : 1 ≤ v) (high : v ≤ node_count t) where
    begins_yes : mark_at m v ≡ 1 → 1 ≤ count_to (pages_in e a) (begins_in e a v)
    unfolding begins_in
    begins_yes one =
        let x = page_of_first v low high one in
        count_to_some (λ q. eqb (page_field_in e a q 0) v) (pages_in e a) x.0 x.1.0
        (omega (arith, x.1.1, archive_pages d t m))
        (eq-eqb (page_field_in e a x.0 0) v (begin_back x.0 v x.1.0 x.1.1 x.2))

    begins_no : (mark_at m v ≡ 1 → ⊥) → count_to (pages_in e a) (begins_in e a v) ≡ 0
    unfolding begins_in
    begins_no other =
        count_to_none (pages_in e a) (λ q. eqb (page_field_in e a q 0) v)
        (λ q one h.
        let le : q ≤ page_count t m = omega (arith, archive_pages d t m) in
        let x = page_first t m q one le in
        ne_eqb (page_field_in e a q 0) v
        (λ k.
        other
        (ap (mark_at m) (sym k ∙ begin_back q x.0 one le x.1) ∙ eqb-true (mark_at m x.0) 1 x.1.passed)))

    continues_at : (q b : ℕ) → InRunOf t m v b → (1 ≤ q) × (q ≤ page_count t m) → Page t m q b
        → continues_in e a v q ≡ true
    unfolding continues_in
    continues_at q b i range x =
        let first : page_field_in e a q 0 ≡ b = begin_back q b range.0 range.1 x in
        let last : page_field_in e a q 1 ≡ run_last t m b = end_back q b range.0 range.1 x in
        and_true _ _
        (and_true _ _ (lt-ltb (page_field_in e a q 0) v (omega (arith, i.less)))
        (le-leb v (page_field_in e a q 1) (omega (arith, i.reached))))
        (eq-eqb _ _
        (archive_parent d t m v low high ∙ sym i.sibling
        ∙ sym (ap (parent_in e a) first ∙ archive_parent d t m b x.low x.high)))

    continues_yes : mark_at m v ≡ 2 → 1 ≤ count_to (pages_in e a) (continues_in e a v)
    continues_yes two = go (in_run_of s m p.marked v low high two)
      where
        on : (b : ℕ) → InRunOf t m v b → (q : ℕ) × ((1 ≤ q) × (q ≤ page_count t m)) × Page t m q b
            → 1 ≤ count_to (pages_in e a) (continues_in e a v)
        on b i x =
            count_to_some (continues_in e a v) (pages_in e a) x.0 x.1.0
            (omega (arith, x.1.1, archive_pages d t m)) (continues_at x.0 b i x.1 x.2)

        go : (b : ℕ) × InRunOf t m v b → 1 ≤ count_to (pages_in e a) (continues_in e a v)
        go r = on r.0 r.1 (page_of_first r.0 r.1.low (omega (arith, r.1.less)) r.1.one)

    continues_no : (mark_at m v ≡ 2 → ⊥) → count_to (pages_in e a) (continues_in e a v) ≡ 0
    unfolding continues_in s
    continues_no other = count_to_none (pages_in e a) test none
      where
        test : ℕ → Bool
        test q =
            ltb (page_field_in e a q 0) v && leb v (page_field_in e a q 1)
            && eqb (parent_in e a v) (parent_in e a (page_field_in e a q 0))

        none : Upto (pages_in e a) (λ q. test q ≡ false)
        none q one h = go (test q) refl
          where
            le : q ≤ page_count t m
            le = omega (arith, archive_pages d t m)

            b : ℕ
            b = (page_first t m q one le).0

            x : Page t m q b
            x = (page_first t m q one le).1

            first : page_field_in e a q 0 ≡ b
            first = begin_back q b one le x

            last : page_field_in e a q 1 ≡ run_last t m b
            last = end_back q b one le x

            go : (c : Bool) → test q ≡ c → test q ≡ false
            go false k = k
            go true k =
                let both =
                both_true (ltb (page_field_in e a q 0) v && leb v (page_field_in e a q 1))
                (eqb (parent_in e a v) (parent_in e a (page_field_in e a q 0))) k in
                let order = both_true (ltb (page_field_in e a q 0) v) (leb v (page_field_in e a q 1)) both.0 in
                let less = ltb-true (page_field_in e a q 0) v order.0 in
                let within = leb-true v (page_field_in e a q 1) order.1 in
                let same = eqb-true (parent_in e a v) (parent_in e a (page_field_in e a q 0)) both.1 in
                absurd
                (other
                (run_last_marks s m b v x.low (omega (arith, first)) high (omega (arith, last))
                (sym (archive_parent d t m b x.low x.high) ∙ sym (ap (parent_in e a) first)
                ∙ sym same ∙ archive_parent d t m v low high)))

    archive_mark : mark_in e a v ≡ mark_at m v
    unfolding mark_in g
    archive_mark = go (eqb (mark_at m v) 1) refl (eqb (mark_at m v) 2) refl
      where
        begun : ℕ
        begun = count_to (pages_in e a) (begins_in e a v)

        continued : ℕ
        continued = count_to (pages_in e a) (continues_in e a v)

        not_first : (mark_at m v ≡ 1 → ⊥)
            → pick (ltb 0 begun) begins (pick (ltb 0 continued) continues stays) ≡ pick (ltb 0 continued) continues
            stays
        not_first other = pick_false (ltb 0 begun) begins _ (le-ltb 0 begun (omega (arith, begins_no other)))

        go : (b : Bool) → eqb (mark_at m v) 1 ≡ b → (c : Bool) → eqb (mark_at m v) 2 ≡ c
            → pick (ltb 0 begun) begins (pick (ltb 0 continued) continues stays) ≡ mark_at m v
        go true k c h =
            let one : mark_at m v ≡ 1 = eqb-true (mark_at m v) 1 k in
            pick_true (ltb 0 begun) begins _ (lt-ltb 0 begun (begins_yes one)) ∙ sym one
        go false k true h =
            let two : mark_at m v ≡ 2 = eqb-true (mark_at m v) 2 h in
            not_first (eqb-false (mark_at m v) 1 k)
            ∙ pick_true (ltb 0 continued) continues stays (lt-ltb 0 continued (continues_yes two))
            ∙ sym two
        go false k false h =
            let not_one : mark_at m v ≡ 1 → ⊥ = eqb-false (mark_at m v) 1 k in
            let not_two : mark_at m v ≡ 2 → ⊥ = eqb-false (mark_at m v) 2 h in
            not_first not_one
            ∙ pick_false (ltb 0 continued) continues stays
            (le-ltb 0 continued (omega (arith, continues_no not_two)))
            ∙ omega (arith, g.few v low high)

  -- the marks that the archive tells are those that were written
  write_read_marks : marks_in e a ≡ m
  unfolding marks_in mark_at
  write_read_marks =
      ap (λ n. list_to n (λ v. mark_in e a v ∷ [])) (archive_nodes_lem d t m)
      ∙ list_to_cong (node_count t) (λ v. mark_in e a v ∷ []) (λ v. mark_at m v ∷ [])
      (λ v low high. ap (λ k. k ∷ []) (archive_mark v low high))
      ∙ ext_get_or 0 (list_to (node_count t) (λ v. mark_at m v ∷ [])) m
      (length-list_to (node_count t) (mark_at m) ∙ sym p.long)
      (λ i h.
      get_d_list_to (node_count t) i (mark_at m) 0 (rw (length-list_to (node_count t) (mark_at m)) at h)
      ∙ ap (λ j. get_or m j 0) (omega arith))

-- ---- The reader's test

pub same_list_self : (xs : List ℕ) → same_list xs xs ≡ true
unfolding same_list
same_list_self [] = refl
same_list_self (x ∷ xs) = and_true (eqb x x) (same_list xs xs) (eq-eqb x x refl) (same_list_self xs)

pub same_list_true : (xs ys : List ℕ) → same_list xs ys ≡ true → xs ≡ ys
unfolding same_list
same_list_true [] [] e = refl
same_list_true [] (y ∷ ys) e = absurd (false≢true e)
same_list_true (x ∷ xs) [] e = absurd (false≢true e)
same_list_true (x ∷ xs) (y ∷ ys) e =
    let both = both_true (eqb x y) (same_list xs ys) e in
    ap₂ ◌∷◌ (eqb-true x y both.0) (same_list_true xs ys both.1)

-- what a tree and a plan write, of no more nodes than the edition takes, is an archive
pub write_read : {e : Edition} → Described e → {t m : List ℕ} → Bytes t → feasible_film e t m ≡ true
    → node_count t ≤ e.most
    → (table_in e (archive_of e t m) ≡ t) × (marks_in e (archive_of e t m) ≡ m) × (is_archive e (archive_of e t m) ≡ true)
unfolding is_archive
write_read {e} d {t} {m} b f few =
    let a : List ℕ = archive_of e t m in
    let p = film_judged e t m f in
    let table = write_read_table d p b in
    let marks = write_read_marks d p in (
      table,
      marks,
      and_true (leb (nodes_in e a) e.most) _ (le-leb (nodes_in e a) e.most (omega (arith, archive_nodes_lem d t m)))
          (ap₂ (λ x y. feasible_film e x y && same_list (archive_of e x y) a) table marks
          ∙ and_true (feasible_film e t m) (same_list a a) f (same_list_self a)),
    )

-- an archive is written by the tree and the plan that it tells, with no more nodes than the edition takes
pub record WritesBack (e : Edition) (a : List ℕ) : Type 0 where
  pub few : nodes_in e a ≤ e.most
  pub feasible : feasible_film e (table_in e a) (marks_in e a) ≡ true
  pub same : archive_of e (table_in e a) (marks_in e a) ≡ a

pub read_write : (e : Edition) (a : List ℕ) → is_archive e a ≡ true → WritesBack e a
unfolding is_archive
read_write e a y =
    let t : List ℕ = table_in e a in
    let m : List ℕ = marks_in e a in
    let all = both_true (leb (nodes_in e a) e.most) (feasible_film e t m && same_list (archive_of e t m) a) y in
    let both = both_true (feasible_film e t m) (same_list (archive_of e t m) a) all.1 in
    record {
      few = leb-true (nodes_in e a) e.most all.0;
      feasible = both.0;
      same = same_list_true (archive_of e t m) a both.1;
    }

-- ---- What an archive of bytes tells is bytes

-- a place that is found is not above the last
pub found_small : (n : ℕ) (p : ℕ → Bool) → at_place (first_to n p) (λ u. u) 0 ≤ n
found_small n p = go (place_cases (first_to n p))
  where
    go : ((u : ℕ) × (first_to n p ≡ Some u)) ⊎ (first_to n p ≡ None) → at_place (first_to n p) (λ u. u) 0 ≤ n
    go (inl x) = omega (arith, at_place_at (first_to n p) x.0 (λ u. u) 0 x.1, (first_to_at n x.0 p x.1).high)
    go (inr e) = omega (arith, at_place_nowhere (first_to n p) (λ u. u) 0 e)

module _ (e : Edition) (a : List ℕ) where
  first_small : (v : ℕ) → first_in e a v ≤ nodes_in e a
  unfolding first_in
  first_small v = go (ltb v (nodes_in e a) && eqb (parent_in e a (v + 1)) v) refl
    where
      go : (b : Bool) → (ltb v (nodes_in e a) && eqb (parent_in e a (v + 1)) v) ≡ b
          → pick (ltb v (nodes_in e a) && eqb (parent_in e a (v + 1)) v) (v + 1) 0 ≤ nodes_in e a
      go true q =
          omega (
            arith,
            ltb-true v (nodes_in e a) (both_true (ltb v (nodes_in e a)) (eqb (parent_in e a (v + 1)) v) q).0,
            pick_true (ltb v (nodes_in e a) && eqb (parent_in e a (v + 1)) v) (v + 1) 0 q,
          )
      go false q = omega (arith, pick_false (ltb v (nodes_in e a) && eqb (parent_in e a (v + 1)) v) (v + 1) 0 q)

  next_small : (v : ℕ) → next_in e a v ≤ nodes_in e a
  unfolding next_in
  next_small v = go (eqb v 1) refl
    where
      found : ℕ
      found = at_place (first_to (nodes_in e a) (λ u. ltb v u && eqb (parent_in e a u) (parent_in e a v))) (λ u. u) 0

      go : (b : Bool) → eqb v 1 ≡ b → pick (eqb v 1) 0 found ≤ nodes_in e a
      go true q = omega (arith, pick_true (eqb v 1) 0 found q)
      go false q =
          omega (
            arith,
            pick_false (eqb v 1) 0 found q,
            found_small (nodes_in e a) (λ u. ltb v u && eqb (parent_in e a u) (parent_in e a v)),
          )

  module _ (b : Bytes a) where
    nodes_small : nodes_in e a < 65536
    unfolding nodes_in
    nodes_small = word_small a (e.head - 3) b

    limit_small : limit_in e a < 65536
    unfolding limit_in
    limit_small = word_small a (e.head - 2) b

    field_small : (v f : ℕ) → node_field_in e a v f < 65536
    unfolding node_field_in
    field_small v f = word_small a (e.head + e.page * pages_in e a + 4 * (v - 1) + f) b

    pub table_in-bytes : Bytes (table_in e a)
    unfolding table_in
    table_in-bytes =
        words_bytes (nodes_in e a ∷ limit_in e a ∷ list_to (nodes_in e a) row)
        (words_cons (nodes_in e a) (limit_in e a ∷ list_to (nodes_in e a) row) nodes_small
        (words_cons (limit_in e a) (list_to (nodes_in e a) row) limit_small
        (words_list_to (nodes_in e a) row (λ v low high. row_words v))))
      where
        row : ℕ → List ℕ
        row v = node_field_in e a v 0 ∷ node_field_in e a v 1 ∷ first_in e a v ∷ next_in e a v ∷ []

        row_words : (v : ℕ) → Words (row v)
        row_words v =
            let first : first_in e a v < 65536 = omega (arith, nodes_small, first_small v) in
            let next : next_in e a v < 65536 = omega (arith, nodes_small, next_small v) in
            words_cons (node_field_in e a v 0) (node_field_in e a v 1 ∷ first_in e a v ∷ next_in e a v ∷ []) (field_small v 0)
            (words_cons (node_field_in e a v 1) (first_in e a v ∷ next_in e a v ∷ []) (field_small v 1)
            (words_cons (first_in e a v) (next_in e a v ∷ []) first (words_cons (next_in e a v) [] next words_nil)))
