-- The edition's word, where the head has one before N, and where it has none. Proves word_put, word_left. Assumes
-- nothing.
use Rattle.std.proofs.Common.{ℕ, ◌<◌, ◌≤◌, ◌≡◌, List, lt-ltb, le-ltb}
use Rattle.model.specs.Archive.{edition_word}
use Rattle.model.specs.declared.Edition.{Edition}
use Rattle.theory.specs.Put.{put_word}
use Rattle.theory.specs.Ranges.{pick_true, pick_false}
use Rattle.records.specs.RecordsOf.{put_edition}

pub word_put : (e : Edition) (o : List ℕ) → 3 < e.head → put_edition e o ≡ put_word o 0 edition_word
unfolding put_edition
word_put e o h = pick_true _ _ _ (lt-ltb _ _ h)

pub word_left : (e : Edition) (o : List ℕ) → e.head ≤ 3 → put_edition e o ≡ o
unfolding put_edition
word_left e o h = pick_false _ _ _ (le-ltb _ _ h)
