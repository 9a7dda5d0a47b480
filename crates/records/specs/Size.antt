-- How large an archive is. Defines most_head, most_page, archive_nodes, film_slots, longest_archive, longest_table, InRoom.
-- Proves first_room, second_room, fits_longest. Assumes nothing.
use Rattle.std.specs.Prelude.{ℕ, ◌+◌, ◌*◌, ◌≤◌}
use Rattle.std.proofs.Common.{arith, mul-le-mul, mul-le-mul_left}
use Rattle.model.specs.Table.{table_bytes}
use Rattle.model.specs.Archive.{first_edition, second_edition, archive_bytes}
use Rattle.model.specs.declared.Edition.{Edition}
use Rattle.theory.specs.ArchiveWords.{Described, first_described, second_described}

-- Room for the largest edition: the words of its head and of a page record, and the most nodes, and so pages, of an
-- archive. An edition's own limit is its description's.
abbrev pub most_head : ℕ
most_head = 4

abbrev pub most_page : ℕ
most_page = 5

abbrev pub archive_nodes : ℕ
archive_nodes = second_edition.most

-- a place for each node or page of an archive by number, and one for 0
abbrev pub film_slots : ℕ
film_slots = archive_nodes + 1

-- an edition that there is room for
pub record InRoom (e : Edition) : Type 0 where
  pub is : Described e
  pub head_high : e.head ≤ most_head
  pub page_high : e.page ≤ most_page
  pub most_high : e.most ≤ archive_nodes

pub first_room : InRoom first_edition
first_room =
    record { is = first_described; head_high = omega arith; page_high = omega arith; most_high = omega arith }

pub second_room : InRoom second_edition
second_room =
    record { is = second_described; head_high = omega arith; page_high = omega arith; most_high = omega arith }

-- the longest archive of an edition, and the longest table that it tells
abbrev pub longest_archive : Edition → ℕ
longest_archive e = archive_bytes e e.most e.most

abbrev pub longest_table : Edition → ℕ
longest_table e = table_bytes e.most

-- the words of so many page records
pub page_words : {e : Edition} → InRoom e → (pages most : ℕ) → pages ≤ most → e.page * pages ≤ most_page * most
page_words r pages most few = mul-le-mul r.page_high few

pub fits_longest : (e : Edition) (pages nodes : ℕ) → pages ≤ nodes → nodes ≤ e.most
    → archive_bytes e pages nodes ≤ longest_archive e
fits_longest e pages nodes few high =
    let le : pages ≤ e.most = omega arith in omega (arith, mul-le-mul_left e.page le)
