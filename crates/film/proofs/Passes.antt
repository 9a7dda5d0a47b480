-- What the reader's passes have decoded: in each, one more number, v after w, where n are done then; the table from its
-- head on; and the whole. Assumes nothing.
use Rattle.std.proofs.Common.{ℕ, ◌+◌, ◌*◌, ◌≤◌, ◌<◌, Bool, true, false, ◌≡◌, refl, sym, ◌∙◌, ap, subst, arith}
use Rattle.std.proofs.Common.{List, [], ◌∷◌, length, get_or, set, take, eqb}
use Rattle.model.specs.Basics.{pick}
use Rattle.model.specs.Table.{node_count, table_bytes}
use Rattle.model.specs.Refusals.{is_archive}
use Rattle.model.specs.Archive.{nodes_in, limit_in, pages_in, page_field_in, node_field_in, first_in}
use Rattle.model.specs.Archive.{table_in, marks_in}
use Rattle.model.specs.declared.Edition.{Edition}
use Rattle.theory.specs.ArchiveWords.{Described}
use Rattle.theory.specs.Put.{put_word, put_record, Starts, starts_two, RecordsPut, records_four}
use Rattle.records.specs.Size.{film_slots, InRoom}
use Rattle.records.specs.Links.{Linked}
use Rattle.film.specs.DecodeTable.{WrittenBy, written_by, by_nodes, fitted, Loaded, links_in, links_at}
use Rattle.film.specs.DecodeTable.{tree_row, tree_wide, tree_row_lem, tree_upto, length-tree_upto, tree_decoded}
use Rattle.film.specs.DecodeMarks.{run_end, mark_for, Lasts, LastsPass, lasts_turn, MarksInput, MarksRow, MarksPass}
use Rattle.film.specs.DecodeMarks.{marks_turn, marks_decoded}

pub sibling_small : (b : Bool) (x : ℕ) → x < film_slots → pick b 0 x < film_slots
unfolding pick
sibling_small true x h = omega arith
sibling_small false x h = h

-- ---- The passes

pub lasts_more : {e : Edition} → Described e → (a l : List ℕ) (w v n pages first last : ℕ) → w + 1 ≡ v → v ≡ n
    → LastsPass e a w l → pages ≡ fitted (pages_in e a) → length l ≡ film_slots → v ≤ pages
    → first ≡ fitted (page_field_in e a v 0) → last ≡ page_field_in e a v 1 → LastsPass e a n (set l first last)
lasts_more d a l w v n pages first last one all h is long high f g =
    rw (← all, ← one)
    (lasts_turn d a l w pages h is first last long (omega arith) (rw (sym one) at f) (rw (sym one) at g))

pub tree_more : (e : Edition) (a links : List ℕ) (w v n at weight label first next : ℕ) (start o o' : List ℕ)
    → w + 1 ≡ v → v ≡ n → RecordsPut (tree_row e a links) 2 w start o → at ≡ 2 + 4 * w → 2 * at + 8 ≤ length o
    → weight ≡ node_field_in e a v 0 → label ≡ node_field_in e a v 1 → first ≡ first_in e a v
    → next ≡ pick (eqb v 1) 0 (get_or links v 0) → o' ≡ put_record o at weight label first next
    → RecordsPut (tree_row e a links) 2 n start o'
tree_more e a links w v n at weight label first next start o o' one all h place room p q r s put =
    rw (← all, ← one)
    (records_four _ 4 (tree_wide e a links) 2 w start o o' at _ _ _ _ h place room put
    (rw one (tree_row_lem e a links v weight label first next p q r s)))

pub marks_more : (lasts links : List ℕ) (nodes w v n : ℕ) (out due : List ℕ) (end mark next : ℕ) → w + 1 ≡ v → v ≡ n
    → MarksPass lasts links nodes w out due → length due ≡ film_slots → v ≤ nodes → v ≤ length out
    → end ≡ run_end v (get_or lasts v 0) (get_or due v 0) → mark ≡ mark_for (get_or lasts v 0) end
    → next ≡ pick (eqb v 1) 0 (get_or links v 0) → MarksPass lasts links nodes n (set out w mark) (set due next end)
marks_more lasts links nodes w v n out due end mark next one all h long high room p q r =
    rw (← all, ← one)
    (marks_turn lasts links nodes w out due end mark next h long (omega arith) (omega arith) (rw (sym one) at p)
    (rw (sym one) at q) (rw (sym one) at r))

-- the head of the table
pub tree_begin : (e : Edition) (a o o₁ o₂ : List ℕ) (n k : ℕ) → o₁ ≡ put_word o 0 n → o₂ ≡ put_word o₁ 1 k
    → n ≡ nodes_in e a → k ≡ limit_in e a → 4 ≤ length o → Starts o₂ (nodes_in e a ∷ limit_in e a ∷ [])
tree_begin e a o o₁ o₂ n k e₁ e₂ n-is k-is room = rw (← n-is, ← k-is) (starts_two o o₁ o₂ n k e₁ e₂ room)

-- ---- The whole

-- the table, from its head and its records
pub tree_put : (e : Edition) (a links o o₁ o₂ tree : List ℕ) (n k v : ℕ) → o₁ ≡ put_word o 0 n → o₂ ≡ put_word o₁ 1 k
    → n ≡ nodes_in e a → k ≡ limit_in e a → 4 ≤ length o → v ≡ nodes_in e a
    → RecordsPut (tree_row e a links) 2 v o₂ tree
    → Starts tree (tree_upto e a links (nodes_in e a))
unfolding tree_upto
tree_put e a links o o₁ o₂ tree n k v e₁ e₂ n-is k-is room all put =
    rw all at
    (put (nodes_in e a ∷ limit_in e a ∷ []) refl (rw (← n-is, ← k-is) (starts_two o o₁ o₂ n k e₁ e₂ room)))

-- what is decoded of an archive is what it tells
pub decoded : {e : Edition} → InRoom e → (a parents links lasts tree plan : List ℕ) (n : ℕ) → n ≡ nodes_in e a
    → Loaded e a n parents → Linked parents n links → ((t m : List ℕ) → WrittenBy e a t m → Lasts t m lasts)
    → Starts tree (tree_upto e a links (nodes_in e a))
    → ((t m : List ℕ) → MarksInput t m lasts links n → MarksRow m n plan)
    → nodes_in e a ≤ length plan → is_archive e a ≡ true
    → (take (table_bytes (nodes_in e a)) tree ≡ table_in e a) × (take (nodes_in e a) plan ≡ marks_in e a)
unfolding Starts
decoded {e} room a parents links lasts tree plan n n-is loaded linked lasts_are put marked long y =
    let t : List ℕ = table_in e a in
    let m : List ℕ = marks_in e a in
    let d = room.is in
    let w : WrittenBy e a t m = written_by room a y in
    let loaded' : Loaded e a (nodes_in e a) parents = rw n-is at loaded in
    let linked' : Linked parents (nodes_in e a) links = subst (λ k. Linked parents k links) n-is linked in
    let size : table_bytes (nodes_in e a) ≡ 2 * length (tree_upto e a links (nodes_in e a)) =
    omega (arith, length-tree_upto e a links (nodes_in e a)) in
    let same : nodes_in e a ≡ node_count t = by_nodes d w in
    let input : MarksInput t m lasts links n =
    record {
      plan = w.plan;
      few = w.few;
      count = n-is ∙ same;
      lasts_are = lasts_are t m w;
      links_are = λ v low high. links_at d w parents links loaded' linked' v low (omega arith);
    } in (
      ap (λ k. take k tree) size ∙ put ∙ tree_decoded e a links (links_in d w parents links loaded' linked'),
      ap (λ k. take k plan) same
          ∙ marks_decoded t m plan w.plan.long (omega arith) (λ v low high. marked t m input v low (omega arith)),
    )
