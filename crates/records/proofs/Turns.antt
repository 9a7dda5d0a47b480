-- One more record, number v after w, where n of them stand then. Proves page_turn, node_turn. Assumes nothing.
use Rattle.std.proofs.Common.{ℕ, ◌+◌, ◌*◌, ◌≤◌, ◌≡◌, List, length, get_or, sym, arith}
use Rattle.model.specs.Table.{weight_at, label_at}
use Rattle.model.specs.Archive.{next_page, archive_bytes}
use Rattle.model.specs.declared.Edition.{Edition}
use Rattle.theory.specs.Put.{put_record, RecordsPut, records_four}
use Rattle.records.specs.Size.{InRoom}
use Rattle.records.specs.RecordsOf.{put_fifth, page_row, page_put, node_row, node_wide, node_row_lem}

pub page_turn : {e : Edition} → InRoom e → (firsts lasts weights counts : List ℕ) (pages w v n i after : ℕ)
    (start o o₁ o₂ : List ℕ) → w + 1 ≡ v → v ≡ n
    → RecordsPut (page_row e firsts lasts weights counts pages) e.head w start o → i ≡ e.head + e.page * w
    → v ≤ pages → archive_bytes e pages 0 ≤ length o → after ≡ next_page v pages
    → o₁ ≡ put_record o i (get_or firsts v 0) (get_or lasts v 0) (get_or weights v 0) after
    → o₂ ≡ put_fifth e o₁ i (get_or counts v 0)
    → RecordsPut (page_row e firsts lasts weights counts pages) e.head n start o₂
page_turn r firsts lasts weights counts pages w v n i after start o o₁ o₂ one all h at less room after_is four five =
    rw (← all, ← one)
    (page_put r firsts lasts weights counts pages w i after start o o₁ o₂ h at (omega arith) room
    (rw (sym one) at after_is) (rw (sym one) at four) (rw (sym one) at five))

pub node_turn : (t parents nexts : List ℕ) (k w v n i weight label : ℕ) (start o o' : List ℕ) → w + 1 ≡ v → v ≡ n
    → RecordsPut (node_row t parents nexts) k w start o → i ≡ k + 4 * w → 2 * i + 8 ≤ length o
    → weight ≡ weight_at t v → label ≡ label_at t v
    → o' ≡ put_record o i weight label (get_or parents v 0) (get_or nexts v 0)
    → RecordsPut (node_row t parents nexts) k n start o'
node_turn t parents nexts k w v n i weight label start o o' one all h at room weight_is label_is put =
    rw (← all, ← one)
    (records_four _ 4 (node_wide t parents nexts) k w start o o' i _ _ _ _ h at room put
    (rw one (node_row_lem t parents nexts v weight label weight_is label_is)))
