-- The page and node records of an archive as the writer puts them, from the arrays of a layout; and that head and
-- records so put are the archive.
-- Defines put_edition, put_head, put_fifth, page_row, node_row. Proves head_put, next_page_formula, page_put, all_put,
-- next_of_page, page_fits. Assumes nothing.
use Prim.Native.Nat.{ℕ, ◌+◌, ◌-◌, ◌*◌, ◌%◌, ◌≤◌, ◌<◌}
use native.Mathlib.Omega.{arith}
use Rattle.std.proofs.Common.{mul-le-mul_left, mod-eq_of_lt, ◌∙◌, ap, ap₂, inl, inr, eqb-true, ltb-true, ltb-false}
use Rattle.std.proofs.Math.Nat.{mod_self}
use Rattle.std.specs.Prelude.{Bool, true, false, ◌≡◌, refl, ◌⊎◌, drop, eqb, ltb}
use Rattle.std.proofs.Math.Path.{sym}
use mathlib.Core.List.{List, [], ◌∷◌, ◌++◌, append_assoc}
use Rattle.std.proofs.Math.ListN.{length, get_or, take, length-append}
use Rattle.std.proofs.lemmas.Bool.{eqb-false}
use Rattle.model.specs.Basics.{pick, list_to}
use Rattle.model.specs.Table.{node_count, limit_of, weight_at, label_at}
use Rattle.model.specs.Plan.{parent_at, page_of, page_count, page_weight, page_nodes}
use Rattle.model.specs.Runs.{page_run}
use Rattle.model.specs.Archive.{edition_word, head_words, next_page, page_record, next_on_page, node_record, archive_of}
use Rattle.model.specs.Archive.{archive_bytes}
use Rattle.model.specs.declared.Edition.{Edition}
use Rattle.theory.specs.Bools.{bool_cases}
use Rattle.theory.specs.Ranges.{Upto, list_to_cong}
use Rattle.theory.specs.PlanPass.{page_of_le}
use Rattle.theory.specs.Slots.{Row}
use Rattle.theory.specs.Put.{put_word, put_record, length-put_word, length-put_record, Starts, starts_none, starts_word}
use Rattle.theory.specs.Put.{starts_record, starts_all, RecordsPut, length_records_to, records_turn}
use Rattle.theory.specs.ArchiveWords.{Described, length-node_record}
use Rattle.records.specs.Size.{film_slots, InRoom}
use Rattle.records.specs.Links.{next_with, Linked, Fit, next_with_cong}

-- ---- The head

-- the edition's word, where the head has one before N
unfoldable pub put_edition : Edition → List ℕ → List ℕ
put_edition e o = pick (ltb 3 e.head) (put_word o 0 edition_word) o

unfoldable pub put_head : Edition → List ℕ → ℕ → ℕ → ℕ → List ℕ
put_head e o n k p = put_word (put_word (put_word (put_edition e o) (e.head - 3) n) (e.head - 2) k) (e.head - 1) p

-- N, K and P after the words ws
three_put : (o ws : List ℕ) (i n k p : ℕ) → Starts o ws → i ≡ length ws → 2 * (i + 3) ≤ length o
    → Starts (put_word (put_word (put_word o i n) (i + 1) k) (i + 2) p) (ws ++ (n ∷ k ∷ p ∷ []))
three_put o ws i n k p begun at room =
    let o₁ : List ℕ = put_word o i n in
    let o₂ : List ℕ = put_word o₁ (i + 1) k in
    let l₁ : length o₁ ≡ length o = length-put_word o i n in
    let l₂ : length o₂ ≡ length o₁ = length-put_word o₁ (i + 1) k in
    let w₁ : List ℕ = ws ++ (n ∷ []) in
    let w₂ : List ℕ = w₁ ++ (k ∷ []) in
    let n₁ : length w₁ ≡ length ws + 1 = length-append ws (n ∷ []) in
    let n₂ : length w₂ ≡ length w₁ + 1 = length-append w₁ (k ∷ []) in
    let s₁ = starts_word o ws i n begun at (omega arith) in
    let s₂ = starts_word o₁ w₁ (i + 1) k s₁ (omega arith) (omega arith) in
    let s₃ = starts_word o₂ w₂ (i + 2) p s₂ (omega arith) (omega arith) in
    let same : w₂ ++ (p ∷ []) ≡ ws ++ (n ∷ k ∷ p ∷ []) = simp append_assoc in
    rw same at s₃

pub head_put : {e : Edition} → InRoom e → (t m o o' : List ℕ) (n k p : ℕ) → o' ≡ put_head e o n k p
    → n ≡ node_count t → k ≡ limit_of t → p ≡ page_count t m → 2 * e.head ≤ length o → Starts o' (head_words e t m)
unfolding head_words put_head put_edition pick
head_put {e} r t m o o' n k p at n-is k-is p-is room = go (bool_cases (eqb e.head 3))
  where
    go : (eqb e.head 3 ≡ true) ⊎ (eqb e.head 3 ≡ false)
        → Starts o' (drop (4 - e.head) (edition_word ∷ node_count t ∷ limit_of t ∷ page_count t m ∷ []))
    go (inl y) =
        let three : e.head ≡ 3 = eqb-true e.head 3 y in
        rw (at, three, ← n-is, ← k-is, ← p-is) (three_put o [] 0 n k p (starts_none o) refl (omega arith))
    go (inr y) =
        let other : e.head ≡ 3 → ⊥ = eqb-false e.head 3 y in
        let four : e.head ≡ 4 = omega (arith, r.is.head_low, r.head_high) in
        let first = starts_word o [] 0 edition_word (starts_none o) refl (omega arith) in
        rw (at, four, ← n-is, ← k-is, ← p-is)
        (three_put (put_word o 0 edition_word) (edition_word ∷ []) 1 n k p first refl
        (omega (arith, length-put_word o 0 edition_word)))

-- ---- Page records

-- document 02, Eight: for each page that there is the formula gives the next page; past the last it begins again with 1
pub next_page_formula : (pages : ℕ) → Upto pages (λ p. (p + 1) % (pages + 1) ≡ next_page p pages)
unfolding next_page pick
next_page_formula pages p low high = go (ltb p pages) refl
  where
    go : (b : Bool) → ltb p pages ≡ b → (p + 1) % (pages + 1) ≡ pick b (p + 1) 0
    go true less = mod-eq_of_lt (omega (arith, ltb-true p pages less))
    go false not-less =
        let last : p ≡ pages = omega (arith, ltb-false p pages not-less) in rw last (mod_self (pages + 1))

-- the fifth word, where the edition has one
unfoldable pub put_fifth : Edition → List ℕ → ℕ → ℕ → List ℕ
put_fifth e o i x = pick (ltb 4 e.page) (put_word o (i + 4) x) o

-- page p's record, with its first node, last sibling, weight and number of nodes from four lists
unfoldable pub page_row : Edition → List ℕ → List ℕ → List ℕ → List ℕ → ℕ → ℕ → List ℕ
page_row e firsts lasts weights counts pages p =
    take e.page
    (get_or firsts p 0 ∷ get_or lasts p 0 ∷ get_or weights p 0 ∷ next_page p pages ∷ get_or counts p 0 ∷ [])

-- four words a page record, or five
page_cases : {e : Edition} → InRoom e → (e.page ≡ 4) ⊎ (e.page ≡ 5)
page_cases {e} r = go (bool_cases (eqb e.page 4))
  where
    go : (eqb e.page 4 ≡ true) ⊎ (eqb e.page 4 ≡ false) → (e.page ≡ 4) ⊎ (e.page ≡ 5)
    go (inl y) = inl (eqb-true e.page 4 y)
    go (inr y) =
        let other : e.page ≡ 4 → ⊥ = eqb-false e.page 4 y in
        inr (omega (arith, r.is.page_low, r.page_high))

module _ {e : Edition} (r : InRoom e) where
  pub page_wide : (firsts lasts weights counts : List ℕ) (pages p : ℕ)
      → length (page_row e firsts lasts weights counts pages p) ≡ e.page
  unfolding page_row
  page_wide firsts lasts weights counts pages p = go (page_cases r)
    where
      go : (e.page ≡ 4) ⊎ (e.page ≡ 5)
          → length (take e.page
          (get_or firsts p 0 ∷ get_or lasts p 0 ∷ get_or weights p 0 ∷ next_page p pages ∷ get_or counts p 0 ∷ []))
          ≡ e.page
      go (inl four) = rw four
      go (inr five) = rw five

  -- there is room for page record p + 1
  pub page_room : (pages p i long : ℕ) → p < pages → i ≡ e.head + e.page * p → archive_bytes e pages 0 ≤ long
      → 2 * i + 2 * e.page ≤ long
  page_room pages p i long less at room =
      let next : p + 1 ≤ pages = omega arith in omega (arith, mul-le-mul_left e.page next)

  -- a record as it is put
  page_starts : (o xs : List ℕ) (i a b c d x : ℕ) → Starts o xs → i ≡ length xs → 2 * i + 2 * e.page ≤ length o
      → Starts (put_fifth e (put_record o i a b c d) i x) (xs ++ take e.page (a ∷ b ∷ c ∷ d ∷ x ∷ []))
  unfolding put_fifth pick
  page_starts o xs i a b c d x begun at room = go (page_cases r)
    where
      go : (e.page ≡ 4) ⊎ (e.page ≡ 5)
          → Starts (pick (ltb 4 e.page) (put_word (put_record o i a b c d) (i + 4) x) (put_record o i a b c d))
          (xs ++ take e.page (a ∷ b ∷ c ∷ d ∷ x ∷ []))
      go (inl four) = rw four (starts_record o xs i a b c d begun at (omega arith))
      go (inr five) =
          let begun₄ = starts_record o xs i a b c d begun at (omega arith) in
          let long : length (xs ++ (a ∷ b ∷ c ∷ d ∷ [])) ≡ length xs + 4 = length-append xs (a ∷ b ∷ c ∷ d ∷ []) in
          let begun₅ =
          starts_word (put_record o i a b c d) (xs ++ (a ∷ b ∷ c ∷ d ∷ [])) (i + 4) x begun₄ (omega arith)
          (omega (arith, length-put_record o i a b c d)) in
          rw five (rw (append_assoc xs (a ∷ b ∷ c ∷ d ∷ []) (x ∷ [])) at begun₅)

  -- one more
  pub page_put : (firsts lasts weights counts : List ℕ) (pages p i after : ℕ) (start o o₁ o₂ : List ℕ)
      → RecordsPut (page_row e firsts lasts weights counts pages) e.head p start o → i ≡ e.head + e.page * p
      → p < pages → archive_bytes e pages 0 ≤ length o → after ≡ next_page (p + 1) pages
      → o₁ ≡ put_record o i (get_or firsts (p + 1) 0) (get_or lasts (p + 1) 0) (get_or weights (p + 1) 0) after
      → o₂ ≡ put_fifth e o₁ i (get_or counts (p + 1) 0)
      → RecordsPut (page_row e firsts lasts weights counts pages) e.head (p + 1) start o₂
  unfolding page_row
  page_put firsts lasts weights counts pages p i after start o o₁ o₂ h at less room after_is four five =
      records_turn (page_row e firsts lasts weights counts pages) e.page
      (page_wide firsts lasts weights counts pages) e.head p start o o₂ h
      (λ xs long begun.
      rw (five, four, ← after_is)
      (page_starts o xs i _ _ _ after _ begun (at ∙ sym long) (page_room pages p i (length o) less at room)))

-- ---- Node records

-- node v's record, with its parent and the next node of its page from two lists
unfoldable pub node_row : List ℕ → List ℕ → List ℕ → ℕ → List ℕ
node_row t parents nexts v = weight_at t v ∷ label_at t v ∷ get_or parents v 0 ∷ get_or nexts v 0 ∷ []

pub node_wide : (t parents nexts : List ℕ) (v : ℕ) → length (node_row t parents nexts v) ≡ 4
unfolding node_row
node_wide t parents nexts v = refl

-- a record as it is put
pub node_row_lem : (t parents nexts : List ℕ) (v weight label : ℕ) → weight ≡ weight_at t v → label ≡ label_at t v
    → node_row t parents nexts v ≡ weight ∷ label ∷ get_or parents v 0 ∷ get_or nexts v 0 ∷ []
unfolding node_row
node_row_lem t parents nexts v weight label weight_is label_is = rw (weight_is, label_is)

-- ---- The whole archive

module _ {e : Edition} (r : InRoom e) (t m : List ℕ) where
  d : Described e
  d = r.is

  -- a page's record, from rows that are those of the tree and the plan
  page_same : (firsts lasts weights counts : List ℕ) (q : ℕ) → get_or firsts q 0 ≡ (page_run t m q).first
      → get_or lasts q 0 ≡ (page_run t m q).last → get_or weights q 0 ≡ page_weight t m q
      → (4 < e.page → get_or counts q 0 ≡ page_nodes t m q)
      → page_row e firsts lasts weights counts (page_count t m) q ≡ page_record e t m q
  unfolding page_row page_record
  page_same firsts lasts weights counts q first last weight count = go (page_cases r)
    where
      go : (e.page ≡ 4) ⊎ (e.page ≡ 5)
          → take e.page
          (get_or firsts q 0 ∷ get_or lasts q 0 ∷ get_or weights q 0 ∷ next_page q (page_count t m) ∷ get_or counts q 0 ∷ [])
          ≡ take e.page
          ((page_run t m q).first ∷ (page_run t m q).last ∷ page_weight t m q ∷ next_page q (page_count t m)
          ∷ page_nodes t m q ∷ [])
      go (inl four) = rw (four, first, last, weight)
      go (inr five) = rw (first, last, weight, count (omega arith))

  -- head, page records and node records, put one after the other from rows that are those of the tree and the plan
  pub all_put : (firsts lasts weights counts parents nexts : List ℕ) (pages : ℕ) → pages ≡ page_count t m
      → Row (page_count t m) (λ p. (page_run t m p).first) firsts → Row (page_count t m) (λ p. (page_run t m p).last) lasts
      → Row (page_count t m) (page_weight t m) weights
      → (4 < e.page → Row (page_count t m) (page_nodes t m) counts) → Row (node_count t) (parent_at t) parents
      → Row (node_count t) (next_on_page t m) nexts
      → (o₁ o₂ o₃ : List ℕ) → Starts o₁ (head_words e t m)
      → RecordsPut (page_row e firsts lasts weights counts pages) e.head pages o₁ o₂
      → RecordsPut (node_row t parents nexts) (e.head + e.page * pages) (node_count t) o₂ o₃
      → length o₃ ≡ archive_bytes e pages (node_count t) → o₃ ≡ archive_of e t m
  unfolding archive_of
  all_put firsts lasts weights counts parents nexts pages is firsts_are lasts_are weights_are counts_are parents_are
      nexts-are o₁ o₂ o₃ h p n long =
      starts_all o₃ (front ++ list_to (node_count t) (node_record t m)) (rw nodes_same at (n front words begun))
      (omega (
        arith,
        length-append front (list_to (node_count t) (node_record t m)),
        words,
        length_records_to (node_record t m) 4 (length-node_record t m) (node_count t),
      ))
    where
      front : List ℕ
      front = head_words e t m ++ list_to (page_count t m) (page_record e t m)

      pages_same : list_to pages (page_row e firsts lasts weights counts pages)
          ≡ list_to (page_count t m) (page_record e t m)
      pages_same =
          ap (λ k. list_to k (page_row e firsts lasts weights counts k)) is
          ∙ list_to_cong (page_count t m) (page_row e firsts lasts weights counts (page_count t m)) (page_record e t m)
          (λ q low high.
          page_same firsts lasts weights counts q (firsts_are q low high) (lasts_are q low high)
          (weights_are q low high) (λ five. counts_are five q low high))

      nodes_same : list_to (node_count t) (node_row t parents nexts) ≡ list_to (node_count t) (node_record t m)
      nodes_same =
          list_to_cong (node_count t) (node_row t parents nexts) (node_record t m)
          (λ v low high. unfold node_row node_record in rw (parents_are v low high, nexts-are v low high))

      words : length front ≡ e.head + e.page * pages
      words =
          length-append (head_words e t m) (list_to (page_count t m) (page_record e t m))
          ∙ ap₂ ◌+◌ (d.head t m)
          (length_records_to (page_record e t m) e.page (d.page t m) (page_count t m) ∙ ap (◌*◌ e.page) (sym is))

      begun : Starts o₂ front
      begun = rw pages_same at (p (head_words e t m) (d.head t m) h)

-- the next node of the same page, from the pages of the nodes
pub next_of_page : (t m page nexts : List ℕ) (n : ℕ) → n ≡ node_count t → Row (node_count t) (page_of t m) page
    → Linked page n nexts → Row (node_count t) (next_on_page t m) nexts
unfolding next_with next_on_page
next_of_page t m page nexts n n-is row h v low high =
    h v low (omega arith)
    ∙ ap (λ k. next_with (λ u. get_or page u 0) k v (get_or page v 0)) n-is
    ∙ next_with_cong (λ u. get_or page u 0) (page_of t m) (node_count t) v (get_or page v 0) row
    ∙ ap (next_with (page_of t m) (node_count t) v) (row v low high)

pub page_fits : (t m page : List ℕ) → node_count t < film_slots → Row (node_count t) (page_of t m) page
    → Fit (node_count t) page
page_fits t m page few row v low high = omega (arith, row v low high, page_of_le t m v)
