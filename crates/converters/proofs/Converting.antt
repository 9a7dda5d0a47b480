-- The converter from one edition to another, at each of its ends, and what its entries promise.
-- Proves convert_refused, convert_opened, convert_entry. Assumes nothing.
use Rattle.std.specs.Prelude.{ℕ, false, ◌≡◌, List}
use Rattle.std.proofs.Common.{sym, ap, ap₂, ◌∙◌}
use Rattle.model.specs.Table.{Bytes}
use Rattle.model.specs.Refusals.{Answer, refused, outcome, writer_rules, write_by, write_archive, is_archive}
use Rattle.model.specs.Refusals.{convert_archive}
use Rattle.model.specs.Demand.{ConvertPromise}
use Rattle.model.specs.declared.Edition.{Edition}
use Rattle.theory.specs.ArchiveWords.{Described}
use Rattle.theory.specs.Entries.{promised}
use Rattle.theory.specs.PromiseConvert.{convert_none, convert_write}
use Rattle.theory.proofs.PromiseConvert.{convert_promise}
use Rattle.archive.specs.Opened.{Opened}

pub convert_refused : (e f : Edition) (a out : List ℕ) {r : Answer} → (r ≡ refused 13 0) × (is_archive e a ≡ false)
    → outcome r out ≡ convert_archive e f a out
convert_refused e f a out none = ap (λ (x : Answer). outcome x out) none.0 ∙ sym (convert_none e f a out none.1)

-- what the other edition's writer does with what the film tells
pub convert_opened : {e : Edition} {a table marks : List ℕ} {size : Answer} → Opened e a table marks size
    → (f : Edition) (out : List ℕ) {r : Answer} {left : List ℕ} → outcome r left ≡ write_by (writer_rules f) f table marks out
    → outcome r left ≡ convert_archive e f a out
unfolding write_archive
convert_opened {e} {a} film f out wrote =
    wrote ∙ ap₂ (λ t m. write_archive f t m out) film.table_told film.marks_told
    ∙ sym (convert_write e f a out film.film)

-- an entry, from the edition e to the edition f
pub convert_entry : {e f from to : Edition} → Described e → Described f → from ≡ e → to ≡ f → (a out : List ℕ) → Bytes a
    → {r : Answer} {left : List ℕ} → outcome r left ≡ convert_archive from to a out → ConvertPromise e f a out r left
convert_entry {e} {f} d d' from_is to_is a out bytes converted =
    (promised (ConvertPromise e f a out) (convert_promise d d' a out bytes)
    (converted ∙ ap₂ (λ (x y : Edition). convert_archive x y a out) from_is to_is)).1
